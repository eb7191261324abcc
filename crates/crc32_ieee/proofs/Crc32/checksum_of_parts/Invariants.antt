use Rattle.std.proofs.Common.{◌≡◌, flat_map, take}
use Rattle.crc32_ieee.specs.Crc32.{register}
use Rattle.crc32_ieee.proofs.Crc32.checksum_of_parts.Given as goal

abbrev pub invariant-loop-part : goal.invariant-loop-part
invariant-loop-part l = l.crc ≡ register 4294967295 (flat_map (λ part. part.now) (take l.part-index l.parts))
