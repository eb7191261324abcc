-- Values of which a relation says what their tokens are.
use Rattle.std.specs.Prelude.{◌≡◌, ◌++◌, List, Result, OnOk, IfOk}
use Rattle.json.specs.Token.{Token}

-- Such tokens are appended.
pub record Appended (Is : List Token → Type 0) (old new : List Token) : Type 0 where
  pub tokens : List Token
  pub are : Is tokens
  pub is : new ≡ old ++ tokens

-- The same, unless an allocation fails.
abbrev pub Shows : {A E : Type 0} → Result A E → List Token → List Token → (List Token → Type 0) → Type 0
Shows result old new Is = OnOk result (Appended Is old new)

-- The same where the result says something of the tokens.
abbrev pub ShowsBy : {A E : Type 0} → Result A E → List Token → List Token → (A → List Token → Type 0) → Type 0
ShowsBy result old new Is = IfOk result (λ answer. Appended (Is answer) old new)
