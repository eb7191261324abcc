use Rattle.std.proofs.Common.{rules}
use Rattle.binlog_columns.specs.Columns.{typed_of}
use Rattle.binlog_columns.specs.RefusalLaws.{tail_whole}
use Rattle.binlog_columns.proofs.table_columns.TableColumns.read_next.Goals as goal

pub invariant_of-self : goal.invariant_of-self
invariant_of-self c = record {
  is_whole = tail_whole c.args.self.now.types.now c.in_ok-number.types.now c.args.self.now.metadata.now c.in-Ok.metadata.now c.in_ok-number.number.now (typed_of c.in-Ok.column) c.args.self.now.is_whole (search rules) (search rules);
}
