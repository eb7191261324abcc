-- Times in UTC.
use Rattle.std.proofs.Common.{◌≡◌, ℕ, ◌*◌, ◌^◌, ◌<◌, ℤ, pos, ◌+ℤ◌, ◌*ℤ◌, w64, to_z, of_z, ap, ◌∙◌, arith}
use Rattle.std.proofs.lemmas.Int.{to_z-of_z}

read_back : (seconds : ℕ) → seconds < 2 ^ 32 → to_z w64 (of_z w64 (pos seconds)) ≡ pos seconds
read_back seconds small = to_z-of_z w64 (pos seconds) (omega arith)

pub same_nanos : (seconds : ℕ) → seconds < 2 ^ 32 → (second time shown : ℤ) → second ≡ pos seconds → time ≡ to_z w64 (of_z w64 second) *ℤ pos 1000000000 → shown ≡ time +ℤ pos 0
    → shown ≡ pos (seconds * 1000000000)
same_nanos seconds small second time shown is_second is_time is_shown =
    let read : time ≡ pos (seconds * 1000000000) = is_time ∙ ap (λ (z : ℤ). to_z w64 (of_z w64 z) *ℤ pos 1000000000) is_second ∙ ap (λ (z : ℤ). z *ℤ pos 1000000000) (read_back seconds small) in
    is_shown ∙ ap (λ (z : ℤ). z +ℤ pos 0) read ∙ ap pos (omega arith)
