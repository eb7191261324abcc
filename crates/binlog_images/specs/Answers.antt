-- The answers of calls that take bytes, with the bytes that they leave.
use Rattle.std.specs.Prelude.{◌≡◌, ℕ, List, Result, Ok, Err}

-- The answer, with the bytes that it left, is the result.
abbrev pub Takes : {V E : Type 0} → List ℕ → Result V E → Result (V × List ℕ) E → Type 0
Takes rest (Ok v) read = read ≡ Ok (v, rest)
Takes rest (Err e) read = read ≡ Err e

-- The same of an answer with no value.
abbrev pub Leaves : {E : Type 0} → List ℕ → Result (Unit {0}) E → Result (List ℕ) E → Type 0
Leaves rest (Ok v) read = read ≡ Ok rest
Leaves rest (Err e) read = read ≡ Err e

-- Something was read, and these bytes are left after it.
pub record IsPassed {V E : Type 0} (rest : List ℕ) (read : Result (V × List ℕ) E) : Type 0 where
  pub value : V
  pub is : read ≡ Ok (value, rest)

-- The same of an answer with no value, whatever was read.
abbrev pub Passes : {V E : Type 0} → List ℕ → Result (Unit {0}) E → Result (V × List ℕ) E → Type 0
Passes rest (Ok done) read = IsPassed rest read
Passes rest (Err e) read = read ≡ Err e
