-- Counts of failures. A count rises by one at each failure, and stays at the largest number of 64 bits.
use Rattle.std.specs.Prelude.{◌≡◌, ℕ, ◌+◌, ◌-◌, ◌^◌, ◌<◌, ◌⊎◌, ◌==◌, if◌then◌else◌, List, [], ◌∷◌, ◌++◌, Option, Result, MatchResult}
use Rattle.std.specs.Io.KnownBytes.{Appends}

-- The number of failures of a reader or a writer, and the ghost names of the borrows that it holds. No call replaces
-- such a borrow, so what was borrowed is known when it ends.
pub record FailureCount : Type 0 where
  pub failures : ℕ
  pub held : List ℕ

-- The count of a reader or a writer that holds no borrow.
abbrev pub count_of : ℕ → FailureCount
count_of failures = record { failures = failures; held = [] }

-- The count of a borrowed reader or writer, from the borrow's name and its own count.
abbrev pub borrowed_count : ℕ → FailureCount → FailureCount
borrowed_count name count = record { failures = count.failures; held = name ∷ count.held }

-- The number of failures after one more.
abbrev pub one_more : ℕ → ℕ
one_more failures = if failures == 2 ^ 64 - 1 then failures else failures + 1

-- The count after a failure, from the count before it.
abbrev pub after_failure : FailureCount → FailureCount
after_failure count = record count { failures = one_more count.failures }

-- A failure was counted since. At the largest value the count can't show it.
abbrev pub Rose : ℕ → ℕ → Type 0
Rose old new = (old < new) ⊎ (old ≡ 2 ^ 64 - 1)

-- A call with this result counts one failure for an `Err`, and none for an `Ok`.
abbrev pub CountsErr : {A E : Type 0} → Result A E → FailureCount → FailureCount → Type 0
CountsErr answer old new = MatchResult answer (λ _. new ≡ old) (λ _. new ≡ after_failure old)

-- The known bytes grow by a prefix of these bytes.
pub record AppendsFront (old new : Option (List ℕ)) (bytes : List ℕ) : Type 0 where
  pub front : List ℕ
  pub cut : List ℕ
  pub whole : bytes ≡ front ++ cut
  pub written : Appends old new front
