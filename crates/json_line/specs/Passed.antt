-- Bytes that are ASCII and need no escape.
use Rattle.std.specs.Prelude.{◌≡◌, ℕ, ◌<◌, ◌≤◌, nat_lt, get_or, Bool, true, not, ◌||◌, List}
use Rattle.json.specs.Run.{is_stop}

-- A byte that needs an escape, or isn't ASCII.
abbrev pub is_other : ℕ → Bool
is_other byte = is_stop byte || nat_lt 127 byte

-- No byte from i to j, j excluded, is such a byte.
abbrev pub PassedBetween : List ℕ → ℕ → ℕ → Type 0
PassedBetween text i j = (k : ℕ) → i ≤ k → k < j → not (is_other (get_or text k 0)) ≡ true
