-- Numbers that are beyond all of a table.
use Rattle.std.proofs.Common.{◌≡◌, ℕ, ◌<◌, Bool, true, false, ◌&&◌, List, [], ◌∷◌, None, Some, refl, sym, ap, ◌∙◌, cond, arith}
use Rattle.std.specs.Prelude.{nat_le, find}
use Rattle.std.specs.List.{list_all}
use Rattle.std.specs.Option.{option_map}
use Rattle.std.proofs.lemmas.Bool.{leb-true, lt-leb}
use Rattle.character_sets.specs.Collations.{Numbers, are_with, set_in, collations, set_of_collation}

first_of : (a b : Bool) → (a && b) ≡ true → a ≡ true
first_of true b e = refl
first_of false b e = absurd cc

second_of : (a b : Bool) → (a && b) ≡ true → b ≡ true
second_of true b e = e
second_of false b e = absurd cc

and_false : (a : Bool) → (a && false) ≡ false
and_false true = refl
and_false false = refl

-- The number is above the last of each row.
beyond : (table : List Numbers) (most number : ℕ) → list_all (λ (n : Numbers). nat_le n.1 most) table ≡ true → most < number → set_in table number ≡ None
beyond [] most number below above = refl
beyond (n ∷ ns) most number below above =
    let lower : nat_le n.1 most ≡ true = first_of (nat_le n.1 most) _ below in
    let outside : nat_le number n.1 ≡ false = lt-leb number n.1 (omega (arith, leb-true n.1 most lower, above)) in
    let sets = λ (is : Bool). option_map (λ (m : Numbers). m.2) (cond is (Some n) (find (are_with number) ns)) in
    ap (λ (b : Bool). sets (nat_le n.0 number && b)) outside ∙ ap sets (and_false (nat_le n.0 number)) ∙ beyond ns most number (second_of (nat_le n.1 most) _ below) above

-- No collation of MySQL's has a number above 323.
pub none_beyond : (number : ℕ) → 323 < number → None ≡ set_of_collation number
unfolding collations
none_beyond number above = sym (beyond collations 323 number refl above)
