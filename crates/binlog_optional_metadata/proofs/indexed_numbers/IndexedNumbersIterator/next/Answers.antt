use Rattle.std.proofs.Common.{arith}
use Rattle.binlog_optional_metadata.proofs.Sequences.{never_an_error}
use Rattle.binlog_optional_metadata.specs.Columns.{any_indexed}
use Rattle.binlog_optional_metadata.proofs.indexed_numbers.IndexedNumbersIterator.next.Goals as goal

pub unreachable-requires : goal.unreachable-requires
unreachable-requires c =
    never_an_error any_indexed.reads c.args.self.now.left c.args.self.now.rest.now c.in_default.field-0 (omega arith) c.in_default.ensures c.args.self.now.is_whole
