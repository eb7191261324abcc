use Rattle.std.proofs.Common.{length}
use Rattle.binlog_optional_metadata.proofs.ToEnd.{IsReadSoFar}
use Rattle.binlog_optional_metadata.specs.Columns.{indexed_number}
use Rattle.binlog_optional_metadata.proofs.indexed_numbers.count_indexed.Given as goal

abbrev pub invariant-loop-buf : goal.invariant-loop-buf
invariant-loop-buf l = IsReadSoFar (indexed_number l.columns) l.bytes l.count l.buf

abbrev pub decreases-loop-buf : goal.decreases-loop-buf
decreases-loop-buf l = length l.buf
