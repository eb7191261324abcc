use Rattle.std.proofs.Common.{arith}
use Rattle.binlog_undo.proofs.full_rows.FullRows.first.Goals as goal

pub returns : goal.returns
returns c = record {
  behind = c.in_ok-behind.behind.now;
  before = c.in_ok-behind.ensures;
  after = c.in_ok-rest.ensures;
  shorter = omega arith;
  before_bytes = c.front-before.ensures;
  after_bytes = c.front-after.ensures;
}
