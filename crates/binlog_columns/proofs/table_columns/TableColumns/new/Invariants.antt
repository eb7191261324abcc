use Rattle.std.proofs.Common.{◌≡◌, drop}
use Rattle.binlog_columns.specs.Refusals.{refusal}
use Rattle.binlog_columns.proofs.table_columns.TableColumns.new.Given as goal

abbrev pub invariant-loop-index : goal.invariant-loop-index
invariant-loop-index l = refusal 0 l.types l.metadata ≡ refusal l.index (drop l.index l.types) l.rest
