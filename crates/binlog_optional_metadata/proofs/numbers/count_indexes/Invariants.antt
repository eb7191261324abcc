use Rattle.std.proofs.Common.{length}
use Rattle.binlog_optional_metadata.proofs.ToEnd.{IsReadSoFar}
use Rattle.binlog_optional_metadata.specs.Columns.{column_index}
use Rattle.binlog_optional_metadata.proofs.numbers.count_indexes.Given as goal

abbrev pub invariant-loop-buf : goal.invariant-loop-buf
invariant-loop-buf l = IsReadSoFar (column_index l.columns) l.bytes l.count l.buf

abbrev pub decreases-loop-buf : goal.decreases-loop-buf
decreases-loop-buf l = length l.buf
