use Rattle.std.proofs.Common.{◌≡◌, inl, inr, Option, Ok, sym, subst}
use Rattle.binlog_events.specs.EventRefs.{view_of}
use Rattle.binlog_payloads.specs.Events.{found_in, payload_in}
use Rattle.binlog_payloads.specs.declared.event.TransactionPayloadEvent.{TransactionPayloadEvent}
use Rattle.binlog_undo_log.proofs.Looked.{on_ok}
use Rattle.binlog_undo_log.proofs.scan.UndoScan.scan_any.Goals as goal

pub scan_whole-requires : goal.scan_whole-requires
scan_whole-requires c =
    inl (sym (subst (λ (o : Option TransactionPayloadEvent). found_in (Ok o) ≡ payload_in (view_of c.args.event.now)) c.in-Ok-None.field-0-is c.in-Ok-None.ensures))

pub scan_payload-requires : goal.scan_payload-requires
scan_payload-requires c =
    sym (subst (λ (o : Option TransactionPayloadEvent). found_in (Ok o) ≡ payload_in (view_of c.args.event.now)) c.in-Ok-Some.field-0-is c.in-Ok-Some.ensures)

pub returns-in-Ok-None-clause-ok : goal.returns-in-Ok-None-clause-ok
returns-in-Ok-None-clause-ok c = on_ok c.scan_whole.result (λ h. inl h) c.scan_whole.ensures.ok

pub returns-in-Err-clause-ok : goal.returns-in-Err-clause-ok
returns-in-Err-clause-ok c = on_ok c.stop.result (λ h. inr (inr (inl (c.in-Err.field-0, sym c.in-Err.ensures), h))) c.stop.ensures.ok
