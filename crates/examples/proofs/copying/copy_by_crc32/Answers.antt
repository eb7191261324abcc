use Rattle.std.proofs.Common.{refl, subst, List, ℕ}
use Rattle.crc32_ieee.specs.Checksums.{IsCrc32}
use Rattle.examples.proofs.copying.copy_by_crc32.Goals as goal

pub copy_by-requires-clause-gives : goal.copy_by-requires-clause-gives
copy_by-requires-clause-gives g c = λ bytes given. (
  λ returns. subst (λ (shown : List ℕ). IsCrc32 shown given) returns.shows returns.says.met,
  λ is. record { shown = record { ref_ptr = (0, 0); now = bytes }; shows = refl; says = record { met = is } },
)
