-- Bytes that are made from their end.
use Rattle.std.specs.Prelude.{ℕ, List}

-- The bytes that are made, and how many more there is room for in front of them.
pub record BackwardBytes : Type 0 where
  pub made : List ℕ
  pub room : ℕ
