-- Bytes that are appended to a buffer.
use Rattle.std.specs.Prelude.{◌≡◌, ◌++◌, ◌+◌, ◌≤◌, ℕ, List, length, vec_len, vec_capacity}
use Rattle.std.specs.Global.{Vec}

-- These bytes are appended, and nothing else changes: the buffer keeps its capacity, and may have more.
pub record Puts (old new : Vec ℕ) (bytes : List ℕ) : Type 0 where
  pub items : new.items ≡ old.items ++ bytes
  pub len : vec_len new ≡ vec_len old + length bytes
  pub capacity : vec_capacity old ≤ vec_capacity new
