use Rattle.std.proofs.Common.{◌≡◌, true, refl, sym, ap, subst, ◌∙◌, take}
use Rattle.binlog_event_format.specs.Headers.{header_of}
use Rattle.binlog_event_format.specs.declared.header.BinlogEventHeader.{BinlogEventHeader}
use Rattle.binlog_event_format.specs.declared.format_description.FormatDescriptionEvent.{FormatDescriptionEvent}
use Rattle.binlog_events.specs.EventRefs.{view_of}
use Rattle.binlog_mariadb.specs.EventTypes.{maria_event_type_of}
use Rattle.binlog_mariadb.specs.Flavour.{IsMariaVersion}
use Rattle.binlog_json_lines.proofs.lines.own_type.Goals as goal

pub returns-then-is_maria_log : goal.returns-then-is_maria_log
returns-then-is_maria_log c =
    let number : c.event_type_raw.result ≡ (header_of (view_of c.args.event.now).frame).event_type =
    c.event_type_raw.ensures ∙ ap (λ (h : BinlogEventHeader). h.event_type) c.header.ensures in (
      subst (λ (d : FormatDescriptionEvent). IsMariaVersion (take 50 d.server_version)) c.fde.ensures (c.if-is_maria_log.ensures.0 refl),
      ap maria_event_type_of (sym number) ∙ sym c.in-Ok.ensures,
    )

pub returns-else-is_maria_log : goal.returns-else-is_maria_log
returns-else-is_maria_log c = λ type is maria.
    let of_log = subst (λ (d : FormatDescriptionEvent). IsMariaVersion (take 50 d.server_version)) (sym c.fde.ensures) maria in
    let yes : c.is_maria_log.result ≡ true = c.is_maria_log.ensures.1 of_log in
    let no = c.if-is_maria_log.false in
    absurd cc
