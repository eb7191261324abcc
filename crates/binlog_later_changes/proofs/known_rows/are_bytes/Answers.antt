use Rattle.std.proofs.Common.{arith}
use Rattle.binlog_later_changes.proofs.known_rows.are_bytes.Goals as goal

pub returns : goal.returns
returns c = λ i. omega (arith, c.type_inv.bytes i)
