use Rattle.std.proofs.Common.{refl, subst, List, ℕ}
use Rattle.crc32_ieee.specs.Checksums.{IsCrc32}
use Rattle.binlog_undo_log.proofs.files.scan_items.Goals as goal

pub scan_by_crc32-requires-clause-gives : goal.scan_by_crc32-requires-clause-gives
scan_by_crc32-requires-clause-gives g c = λ bytes given. (
  λ returns. subst (λ (shown : List ℕ). IsCrc32 shown given) returns.shows returns.says.met,
  λ is. record { shown = record { ref_ptr = (0, 0); now = bytes }; shows = refl; says = record { met = is } },
)
