-- What is written for a value: tokens, of which the text of some isn't fixed in all its digits.
use Rattle.std.specs.Prelude.{◌≡◌, ℕ, List, [], ◌∷◌, ◌++◌, Some, Result, OnOk, from_bits}
use Rattle.std.specs.Float.{binary64}
use Rattle.ryu.specs.Parse.{parse_float}
use Rattle.json.specs.Print.{IsNumber}
use Rattle.json.specs.Token.{Token, number}

pub data Part : Type 0 where
  -- This token.
  exactly : Token → Part
  -- A number that reads back as the floating-point number of these bits.
  reading_back : ℕ → Part

-- The text is a number of JSON, and reads back as the floating-point number of these bits.
abbrev pub IsDoubleText : ℕ → List ℕ → Type 0
IsDoubleText bits text = IsNumber text × (parse_float binary64 text ≡ Some (from_bits binary64 bits))

-- The token is what the part says.
abbrev pub IsPart : Part → Token → Type 0
IsPart (exactly token) written = written ≡ token
IsPart (reading_back bits) written = (text : List ℕ) × (written ≡ number text) × IsDoubleText bits text

-- The tokens are what the parts say, one by one.
abbrev pub AreParts : List Part → List Token → Type 0
AreParts [] [] = Unit {0}
AreParts [] (token ∷ tokens) = ⊥
AreParts (part ∷ parts) [] = ⊥
AreParts (part ∷ parts) (token ∷ tokens) = IsPart part token × AreParts parts tokens

-- Tokens that are what these parts say are appended.
pub record Shows (old new : List Token) (parts : List Part) : Type 0 where
  pub tokens : List Token
  pub are : AreParts parts tokens
  pub is : new ≡ old ++ tokens

-- The same, unless an allocation fails.
abbrev pub Writes : {A E : Type 0} → Result A E → List Token → List Token → List Part → Type 0
Writes result old new parts = OnOk result (Shows old new parts)
