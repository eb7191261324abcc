use Rattle.std.proofs.Common.{◌∙◌, ℕ, ap, subst, Bool, IsTrue, take}
use Rattle.std.specs.Prelude.{◌↔◌, ◌==◌, not, bit_and}
use Rattle.binlog_event_format.specs.declared.format_description.FormatDescriptionEvent.{FormatDescriptionEvent}
use Rattle.binlog_event_format.specs.declared.header.BinlogEventHeader.{BinlogEventHeader}
use Rattle.binlog_event_format.specs.Headers.{header_of}
use Rattle.binlog_mariadb.specs.Flavour.{IsMariaVersion}
use Rattle.binlog_transactions.specs.Roles.{role_of}
use Rattle.binlog_later_changes.proofs.saying.role_of.Goals as goal

pub returns : goal.returns
returns c =
    let maria : Bool = c.is_maria_log.result in
    let flags = c.flags_raw.ensures ∙ ap (λ (h : BinlogEventHeader). h.flags) c.header-header.ensures in
    let number = c.event_type_raw.ensures ∙ ap (λ (h : BinlogEventHeader). h.event_type) c.header-header.ensures in (
      maria,
      subst (λ (d : FormatDescriptionEvent). IsTrue maria ↔ IsMariaVersion (take 50 d.server_version)) c.fde.ensures c.is_maria_log.ensures,
      c.of_type.ensures ∙ ap (λ (n : ℕ). role_of maria (not (bit_and n 128 == 0)) c.event_type_raw.result) flags
          ∙ ap (λ (t : ℕ). role_of maria (not (bit_and (header_of c.args.event.now.frame.now).flags 128 == 0)) t) number,
    )
