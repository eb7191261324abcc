use Rattle.std.proofs.Common.{refl}
use Rattle.binlog_payload_filters.proofs.TakenContent.{error_takes}
use Rattle.binlog_payload_filters.proofs.concerned.ConcernedPartVisitor.visit_part_error.Goals as goal

pub returns-clause-ok : goal.returns-clause-ok
returns-clause-ok c = (error_takes c.args.self.now.is_taken c.args.self.now.tables.now _ c.args._error.now, refl)
