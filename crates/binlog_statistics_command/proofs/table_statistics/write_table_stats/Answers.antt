use Rattle.std.proofs.Common.{refl}
use Rattle.std.proofs.lemmas.List.Sorted.{IsPermutation-refl}
use Rattle.binlog_statistics_command.proofs.table_statistics.write_table_stats.Goals as goal

pub returns-then-stats-clause-keeps : goal.returns-then-stats-clause-keeps
returns-then-stats-clause-keeps g c = record { all = IsPermutation-refl _; others = record { transactions = refl; unknown = refl; is_full = refl } }
