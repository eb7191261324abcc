use Rattle.std.proofs.Common.{refl, subst, List, ℕ}
use Rattle.crc32_ieee.specs.Checksums.{IsCrc32}
use Rattle.binlog_inputs.proofs.files.visit_input.Goals as goal

pub visit_by_crc32-requires-clause-gives : goal.visit_by_crc32-requires-clause-gives
visit_by_crc32-requires-clause-gives g c = λ bytes given. (
  λ returns. subst (λ (shown : List ℕ). IsCrc32 shown given) returns.shows returns.says.met,
  λ is. record { shown = record { ref_ptr = (0, 0); now = bytes }; shows = refl; says = record { met = is } },
)
