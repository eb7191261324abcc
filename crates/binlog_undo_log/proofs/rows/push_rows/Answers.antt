use Rattle.std.proofs.Common.{◌≡◌, ◌∙◌, true, List, ℕ, refl, sym, ap, subst}
use Rattle.binlog_consts.specs.declared.event_type.EventType.{EventType}
use Rattle.binlog_event_format.specs.declared.format_description.FormatDescriptionEvent.{FormatDescriptionEvent}
use Rattle.binlog_event_format.specs.Headers.{header_of}
use Rattle.binlog_event_format.specs.declared.header.BinlogEventHeader.{BinlogEventHeader}
use Rattle.binlog_events.specs.EventRefs.{view_of}
use Rattle.binlog_events.specs.Parts.{data_of}
use Rattle.binlog_undo.specs.declared.inverse_event.InverseEvent.{InverseEvent}
use Rattle.binlog_undo_log.specs.Heads.{has_rows_length}
use Rattle.binlog_undo_log.specs.Undoing.{undone_parts, undone_events}
use Rattle.binlog_undo.specs.Transactions.{AreWritten}
use Rattle.binlog_undo_log.proofs.rows.push_rows.Goals as goal

pub returns : goal.returns
returns c =
    let inverse : InverseEvent = c.in_ok-inverse.inverse in
    let fde : FormatDescriptionEvent = (view_of c.args.event.now).fde in
    let length : has_rows_length fde inverse.event_type ≡ true =
    ap (λ (t : EventType). has_rows_length fde t) (sym c.event_type.ensures) ∙ ap (λ (d : FormatDescriptionEvent). has_rows_length d c.event_type.result) (sym c.fde.ensures)
    ∙ sym c.has_rows_length.ensures ∙ c.if-not-has_rows_length.false in
    let map_header : BinlogEventHeader = header_of (view_of c.args.map_event.now).frame in
    let map_body : List ℕ = data_of (view_of c.args.map_event.now).fde.footer (view_of c.args.map_event.now).frame in (
      undone_events (view_of c.args.map_event.now) (view_of c.args.event.now) inverse,
      record { is_maria_log = c.is_maria_event.result; maria = c.is_maria_event.ensures; inverse = inverse; undoes = c.in_ok-inverse.ensures; length = length; are = refl },
      subst (λ (h : BinlogEventHeader). AreWritten (undone_parts map_header map_body h inverse) c.args.writer.now c.push_change.new.self) c.header-2.ensures
          (subst (λ (s : List ℕ). AreWritten (undone_parts map_header s c.header-2.result inverse) c.args.writer.now c.push_change.new.self) c.data.ensures
          (subst (λ (h : BinlogEventHeader). AreWritten (undone_parts h c.data.result.now c.header-2.result inverse) c.args.writer.now c.push_change.new.self) c.header.ensures
          c.in_ok-push_change.ensures.written)),
    )
