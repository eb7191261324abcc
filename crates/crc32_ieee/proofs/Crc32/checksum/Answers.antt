use Rattle.std.proofs.Common.{ℕ, ◌-◌, ap}
use Rattle.crc32_ieee.specs.Crc32.{crc32}
use Rattle.crc32_ieee.proofs.Crc32.checksum.Goals as goal

pub returns : goal.returns
unfolding crc32
returns c = ap (λ (x : ℕ). 4294967295 - x) c.after.ensures
