use Rattle.std.proofs.Common.{arith}
use Rattle.binlog_json_lines.proofs.row_members.are_bytes.Goals as goal

pub returns : goal.returns
returns c = λ i. omega (arith, c.type_inv.bytes i)
