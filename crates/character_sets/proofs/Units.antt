-- Units of two bytes, and the characters that they are.
use Rattle.std.proofs.Common.{◌≡◌, ℕ, Some, List, [], ◌∷◌, ◌++◌, length, refl, ap, sym, ◌∙◌, arith}
use Rattle.std.proofs.lemmas.Bool.{le-ltb}
use Rattle.character_sets.specs.declared.coding.ByteOrder.{ByteOrder}
use Rattle.character_sets.specs.Spellings.{unit, AreUnits}
use Rattle.character_sets.specs.Decoding.{first_unit}

-- The bytes are this unit.
pub record IsUnit (order : ByteOrder) (bytes : List ℕ) (u : ℕ) : Type 0 where
  pub first : ℕ
  pub second : ℕ
  pub two : bytes ≡ first ∷ second ∷ []
  pub is : unit order (first ∷ second ∷ []) ≡ u

-- The bytes are this unit, and then the rest.
pub record FrontUnit (order : ByteOrder) (bytes : List ℕ) (u : ℕ) (rest : List ℕ) : Type 0 where
  pub first : ℕ
  pub second : ℕ
  pub split : bytes ≡ first ∷ second ∷ rest
  pub is : unit order (first ∷ second ∷ []) ≡ u

-- Units are read from the front.
pub FrontUnit-units : (order : ByteOrder) (bytes : List ℕ) (u : ℕ) (us : List ℕ) → AreUnits order bytes (u ∷ us)
    → (rest : List ℕ) × FrontUnit order bytes u rest × AreUnits order rest us
FrontUnit-units order [] u us are = absurd (omega (arith, are.0))
FrontUnit-units order (x ∷ []) u us are = absurd (omega (arith, are.0))
FrontUnit-units order (x ∷ y ∷ rest) u us are = (rest, record { first = x; second = y; split = refl; is = are.1 }, are.2)

two_first : (order : ByteOrder) (x y : ℕ) (rest : List ℕ) → first_unit order (x ∷ y ∷ rest) ≡ Some (unit order (x ∷ y ∷ []), rest)
unfolding first_unit
two_first order x y rest = rw (le-ltb (length (x ∷ y ∷ rest)) 2 (omega arith)) refl

-- The unit that is first is read.
pub first_unit-front : (order : ByteOrder) (bytes : List ℕ) (u : ℕ) (rest more : List ℕ) → FrontUnit order bytes u rest → first_unit order (bytes ++ more) ≡ Some (u, rest ++ more)
first_unit-front order bytes u rest more is =
    ap (λ b. first_unit order (b ++ more)) is.split ∙ two_first order is.first is.second (rest ++ more) ∙ ap (λ v. Some (v, rest ++ more)) is.is

-- What is read is the unit that is first.
pub front-first_unit : (order : ByteOrder) (bytes : List ℕ) (u : ℕ) (rest : List ℕ) → first_unit order bytes ≡ Some (u, rest) → FrontUnit order bytes u rest
unfolding first_unit
front-first_unit order [] u rest is = absurd cc
front-first_unit order (x ∷ []) u rest is = absurd cc
front-first_unit order (x ∷ y ∷ others) u rest is =
    let same : Some (unit order (x ∷ y ∷ []), others) ≡ Some (u, rest) = sym (two_first order x y others) ∙ is in
    let parts : (unit order (x ∷ y ∷ []), others) ≡ (u, rest) = cc in
    record { first = x; second = y; split = ap (λ (p : ℕ × List ℕ). x ∷ y ∷ p.1) parts; is = ap (λ (p : ℕ × List ℕ). p.0) parts }
