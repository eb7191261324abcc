-- Lines that hold the name of a member, or members.
use Rattle.std.specs.Prelude.{◌≡◌, ℕ, List, [], ◌∷◌}
use Rattle.json.specs.Token.{Token, key}

-- The name of a member, and nothing else.
pub record IsKey (tokens : List Token) : Type 0 where
  pub name : List ℕ
  pub is : tokens ≡ key name ∷ []

-- The name of a member, and what stands behind it.
pub record BeginsWithKey (tokens : List Token) : Type 0 where
  pub name : List ℕ
  pub behind : List Token
  pub is : tokens ≡ key name ∷ behind
