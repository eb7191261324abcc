use Rattle.std.proofs.Common.{refl}
use Rattle.binlog_commands.proofs.SplicedTypes.{on_both}
use Rattle.binlog_commands.proofs.spliced_stats.SplicedStatsVisitor.visit_error.Goals as goal

pub returns-clause-ok : goal.returns-clause-ok
returns-clause-ok c = on_both c.visit_error.result _ _ refl c.visit_error.ensures.ok
