use Rattle.std.proofs.Common.{arith}
use Rattle.binlog_values.specs.Contents.{magnitude}
use Rattle.binlog_values.proofs.TextFronts.{starts_on}
use Rattle.binlog_values.proofs.DecimalTexts.{nine_pushed}
use Rattle.binlog_values.proofs.decimal_text.push_nines.Goals as goal

pub loop-index-preserved : goal.loop-index-preserved
loop-index-preserved c = (
  omega arith,
  starts_on _ _ _ _ c.loop-index.invariant.1 c.in_ok-push_group.ensures,
  nine_pushed _ _ _ (magnitude c.args.bytes.now) c.args.count c.loop-index._index c.loop-index.place c.group_number-number.result c.loop-index.is_begun (omega arith) c.group_number-number.ensures
      c.loop-index.invariant.2 c.in_ok-push_group.ensures,
)
