-- Counts that rise.
use Rattle.std.proofs.Common.{ℕ, ◌-◌, ◌^◌, ◌≤◌, ◌⊎◌, inl, inr, ◌∙◌, arith}
use Rattle.std.proofs.lemmas.Bool.Decides.{eqb_tells}
use Rattle.binlog_ends.specs.Counts.{FailureCount, after_failure, Rose}

pub failure_rises : (count : FailureCount) → Rose count.failures (after_failure count).failures
failure_rises count = elim (eqb_tells count.failures (2 ^ 64 - 1)) [
  | inl most ↦ inr most.1
  | inr less ↦ rw less.0 (inl (omega arith))
]

pub never_falls : (count : FailureCount) → count.failures ≤ (after_failure count).failures
never_falls count = elim (eqb_tells count.failures (2 ^ 64 - 1)) [
  | inl most ↦ rw most.0 (omega arith)
  | inr less ↦ rw less.0 (omega arith)
]

pub rises_in_part : (first second third : ℕ) → first ≤ second → second ≤ third → Rose first second ⊎ Rose second third → Rose first third
rises_in_part first second third here there (inl (inl rose)) = inl (omega (arith, rose, there))
rises_in_part first second third here there (inl (inr most)) = inr most
rises_in_part first second third here there (inr (inl rose)) = inl (omega (arith, rose, here))
rises_in_part first second third here there (inr (inr most)) = elim (eqb_tells first second) [
  | inl same ↦ inr (same.1 ∙ most)
  | inr other ↦ inl (omega (arith, other.1, here, there))
]

pub zero_never_rises : Rose 0 0 → ⊥
zero_never_rises (inl rose) = absurd (omega (arith, rose))
zero_never_rises (inr most) = absurd (omega (arith, most))
