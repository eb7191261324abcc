use Rattle.std.proofs.Common.{Ok, refl}
use Rattle.binlog_events.specs.EventRefs.{view_of}
use Rattle.binlog_payload_filters.proofs.TakenContent.{first_stays, first_takes}
use Rattle.binlog_payload_filters.proofs.concerned.ConcernedPartVisitor.visit_part.Goals as goal

pub returns-then-self-clause-ok : goal.returns-then-self-clause-ok
returns-then-self-clause-ok c = (first_stays c.args.self.now.is_taken c.args.self.now.tables.now _ (Ok (view_of c.args.event.now)) c.if-self.true, refl)

pub returns-clause-ok : goal.returns-clause-ok
returns-clause-ok c = (first_takes c.args.self.now.is_taken c.args.self.now.tables.now _ (Ok (view_of c.args.event.now)) _ c.if-self.false c.in_ok-self.ensures.ok, refl)
