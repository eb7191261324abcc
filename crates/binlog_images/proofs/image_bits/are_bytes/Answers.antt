use Rattle.std.proofs.Common.{arith}
use Rattle.binlog_images.proofs.image_bits.are_bytes.Goals as goal

pub returns : goal.returns
returns c = λ i. omega (arith, c.type_inv.bytes i)
