-- A value with several encodings as other fields: any of them is read, and one is chosen to be written.
use Rattle.std.proofs.Common.{◌≡◌, ℕ, List, Result, Ok, Bool, true, false, cond, Err}
use Rattle.binlog_wire.specs.declared.error.Invalid.{Invalid}
use Rattle.binlog_wire.specs.Formats.{Place, Format}

-- The bytes encode fields that decode to the value.
abbrev pub IsChosen : {A B : Type 0} → (A → Result B Invalid) → (List ℕ → A → List ℕ → Type 0) → List ℕ → B → List ℕ → Type 0
IsChosen {A} decode F s b r = (a : A) × (decode a ≡ Ok b) × F s a r

-- The fields chosen for a value that can be written decode to its normal form. A value that was decoded is its own
-- normal form, and a value and its normal form are written as the same bytes.
pub record IsChoice {place : Place} {A B : Type 0} (f : Format place A) (decode : A → Result B Invalid) (code : B → A) (normal : B → B) (Fits : B → Type 0) : Type 0 where
  pub fits : (b : B) → Fits b → f.Fits (code b)
  pub shows : (b : B) → Fits b → decode (f.normal (code b)) ≡ Ok (normal b)
  pub settled : (s : List ℕ) (a : A) (r : List ℕ) (b : B) → f.spells s a r → decode a ≡ Ok b → normal b ≡ b
  pub twice : (b : B) → normal (normal b) ≡ normal b
  pub again : (b : B) → Fits b → f.written (code (normal b)) ≡ f.written (code b)

-- One of two formats, by a test.
abbrev pub choose : {place : Place} {V : Type 0} → Bool → Format place V → Format place V → Format place V
choose true f g = f
choose false f g = g

-- ---- a value that has to pass a test

-- The value if a test holds for it, else the refusal.
abbrev pub passes : {V : Type 0} → (V → Bool) → Invalid → V → Result V Invalid
passes test why v = cond (test v) (Ok v) (Err why)
