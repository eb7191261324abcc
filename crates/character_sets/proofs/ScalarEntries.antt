-- The entries of the tables are characters.
use Rattle.std.proofs.Common.{◌≡◌, ℕ, zero, suc, ◌-◌, Bool, true, false, List, [], ◌∷◌, ◌&&◌, get_or, refl, cond, nat_lt}
use Rattle.std.specs.Char.{IsScalar}
use Rattle.std.specs.Str.{all_scalars}
use Rattle.character_sets.specs.declared.character_set.CharacterSet.{CharacterSet}
use Rattle.character_sets.specs.declared.character_set.CharacterSet.TheVariants.{Armscii8, Swe7}
use Rattle.character_sets.specs.SingleByte.{lower_half, upper_half, entry_of}

lower_are_scalars : (set : CharacterSet) → all_scalars (lower_half set) ≡ true
unfolding lower_half
lower_are_scalars Swe7 = refl
lower_are_scalars _ = refl

upper_are_scalars : (set : CharacterSet) → all_scalars (upper_half set) ≡ true
unfolding upper_half
upper_are_scalars Armscii8 = refl
upper_are_scalars _ = refl

both : (a b : Bool) → (a && b) ≡ true → (a ≡ true) × (b ≡ true)
both true true is = (refl, refl)
both true false is = absurd cc
both false b is = absurd cc

-- Each of such a list is a character, and so is 0, which is read behind it.
scalar_at : (xs : List ℕ) (i : ℕ) → all_scalars xs ≡ true → IsScalar (get_or xs i 0)
scalar_at [] i are = refl
scalar_at (x ∷ xs) zero are = (both _ _ are).0
scalar_at (x ∷ xs) (suc i) are = scalar_at xs i (both _ _ are).1

pub scalar_entry : (set : CharacterSet) (byte : ℕ) → IsScalar (entry_of set byte)
scalar_entry set byte =
    elim (nat_lt byte 128) as (λ low. IsScalar (cond low (get_or (lower_half set) byte 0) (get_or (upper_half set) (byte - 128) 0))) [
      | true ↦ scalar_at (lower_half set) byte (lower_are_scalars set)
      | false ↦ scalar_at (upper_half set) (byte - 128) (upper_are_scalars set)
    ]
