use Rattle.std.proofs.Common.{Option, sym, subst, ◌∙◌}
use Rattle.std.specs.Prelude.{option_copied}
use Rattle.binlog_events.specs.EventRefs.{view_of}
use Rattle.binlog_rows.specs.declared.rows_event_data.RowsEventData.{RowsEventData}
use Rattle.binlog_later_changes.specs.KnownRows.{KnowsIfMapped, KnowsRowsIf}
use Rattle.binlog_later_changes.specs.Later.{Cause}
use Rattle.binlog_later_changes.specs.Said.{said_of}
use Rattle.binlog_later_changes.specs.Visits.{SeesSaid}
use Rattle.binlog_later_changes.proofs.SeenEvents.{on_ok}
use Rattle.binlog_later_changes.proofs.later_scan.LaterScan.note_read.Goals as goal

pub returns-clause-ok : goal.returns-clause-ok
returns-clause-ok c = on_ok c.note.result (λ sees. record {
  known = sym c.is_memory.ensures ∙ c.if-is_memory.false;
  role = c.role_of.result;
  is_role = c.role_of.ensures;
  said = subst (λ (cause : Option Cause). SeesSaid (KnowsIfMapped (view_of c.args.event.now) (option_copied c.args.map) c.args.read.now) c.args.place cause c.args.self.now c.note.new.self)
      c.in_ok-said.ensures
      (subst (λ (rows : Option RowsEventData). SeesSaid (KnowsRowsIf (view_of c.args.event.now) (option_copied c.args.map) rows) c.args.place (said_of c.in_ok-said.said) c.args.self.now c.note.new.self)
      c.rows_read-rows.ensures sees);
}) c.note.ensures.ok
