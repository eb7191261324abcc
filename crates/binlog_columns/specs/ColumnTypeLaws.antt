-- Which numbers aren't those of a column type.
use Rattle.std.proofs.Common.{◌≡◌, ℕ, ◌<◌, ◌≤◌, Bool, true, false, eqb, ltb, List, [], ◌∷◌, Err, refl, arith}
use Rattle.std.specs.Prelude.{◌&&◌, ◌||◌}
use Rattle.std.proofs.lemmas.Bool.{ltb-true, ne_eqb}
use Rattle.binlog_consts.specs.Tables.{value_of}
use Rattle.binlog_columns.specs.ColumnTypes.{column_number, column_types, column_type_of}

-- No value has a number in this range.
abbrev none_between : {E : Type 0} → (E → ℕ) → ℕ → ℕ → List E → Bool
none_between number low high [] = true
none_between number low high (e ∷ values) = (ltb (number e) low || ltb high (number e)) && none_between number low high values

both : (a b : Bool) → (a && b) ≡ true → (a ≡ true) × (b ≡ true)
both true b h = (refl, h)
both false b h = absurd cc

differs : (m n low high : ℕ) → (b : Bool) → ltb m low ≡ b → (b || ltb high m) ≡ true → low ≤ n → n ≤ high → m ≡ n → ⊥
differs m n low high true is h above below e = let less : m < low = ltb-true m low is in omega (arith, less, e)
differs m n low high false is h above below e = let less : high < m = ltb-true high m h in omega (arith, less, e)

pub unknown_between : {E W : Type 0} (number : E → ℕ) (values : List E) (unknown : ℕ → W) (low high n : ℕ)
    → none_between number low high values ≡ true → low ≤ n → n ≤ high → value_of number values unknown n ≡ Err (unknown n)
unknown_between number [] unknown low high n none above below = refl
unknown_between number (v ∷ values) unknown low high n none above below =
    let parts = both (ltb (number v) low || ltb high (number v)) (none_between number low high values) none in
    let other : eqb (number v) n ≡ false = ne_eqb (number v) n (differs (number v) n low high _ refl parts.0 above below) in
    rw other (unknown_between number values unknown low high n parts.1 above below)

-- The numbers 20 to 139 and 142 to 241 aren't those of a column type.
pub unknown_low : (n : ℕ) → 20 ≤ n → n ≤ 139 → column_type_of n ≡ Err (record { 0 = n })
unknown_low n above below = unknown_between column_number column_types (λ n. record { 0 = n }) 20 139 n refl above below

pub unknown_high : (n : ℕ) → 142 ≤ n → n ≤ 241 → column_type_of n ≡ Err (record { 0 = n })
unknown_high n above below = unknown_between column_number column_types (λ n. record { 0 = n }) 142 241 n refl above below
