-- Names and legs that are read one after the other.
use Rattle.std.proofs.Common.{◌≡◌, ℕ, ◌<◌, Bool, true, false, eqb, List, [], ◌∷◌, ◌++◌, length, map, Option, Some, None, Ok, Err, inl, inr, refl, sym, subst, ◌∙◌, arith}
use Rattle.std.specs.Prelude.{◌⊎◌}
use Rattle.std.proofs.lemmas.Bool.Decides.{nat_tests}
use Rattle.std.proofs.lemmas.List.{nil_from_length}
use Rattle.binary_json_writing.specs.Paths.{Leg, member, Read, behind, unit_in, Spells, IsQuoted, IsNamed, IsLegIn, AreLegs, AreRefused}
use Rattle.binary_json_writing.specs.declared.paths.JsonPathError.{JsonPathError}
use Rattle.binary_json_writing.specs.declared.paths.JsonPathError.TheVariants as faults

pub spells_more : (name s rest others : List ℕ) (c : ℕ) → Spells name s rest → behind 34 rest ≡ None → unit_in rest ≡ Ok (c, others) → Spells (name ++ c ∷ []) s others
spells_more [] s rest others c so_far goes_on is = subst (λ (t : List ℕ). Spells (c ∷ []) t others) (sym so_far) (goes_on, others, is, refl)
spells_more (d ∷ name) s rest others c so_far goes_on is = (so_far.0, so_far.1, so_far.2, spells_more name so_far.1 rest others c so_far.3 goes_on is)

pub legs_more : (ls : List Leg) (s rest others : List ℕ) (l : Leg) → AreLegs ls s rest → IsLegIn (Ok (l, others)) rest → AreLegs (ls ++ l ∷ []) s others
legs_more [] s rest others l so_far is = subst (λ (t : List ℕ). AreLegs (l ∷ []) t others) (sym so_far) (others, is, refl)
legs_more (k ∷ ls) s rest others l so_far is = (so_far.0, so_far.1, legs_more ls so_far.0 rest others l so_far.2 is)

pub is_over : (s : List ℕ) (b : Bool) → b ≡ eqb (length s) 0 → b ≡ true → s ≡ []
is_over s b e over = nil_from_length s (grind (arith, nat_tests))

some_length : (s : List ℕ) (b : Bool) → b ≡ eqb (length s) 0 → b ≡ false → 0 < length s
some_length s b e more = grind (arith, nat_tests)

pub goes_on : (s : List ℕ) (b : Bool) → b ≡ eqb (length s) 0 → b ≡ false → (c : ℕ) × (others : List ℕ) × (s ≡ c ∷ others)
goes_on [] b e more = absurd (omega (arith, some_length [] b e more))
goes_on (x ∷ s) b e more = (x, s, refl)

pub some_mapped : {A B : Type 0} (f : A → B) (xs : List A) (b : Bool) → b ≡ eqb (length xs) 0 → b ≡ false → 0 < length (map f xs)
some_mapped f [] b e more = let no : true ≡ false = sym e ∙ more in absurd cc
some_mapped f (x ∷ xs) b e more = omega arith

abbrev quote : Read (List ℕ × List ℕ)
quote = Err faults.Quote

pub unended : (name s rest : List ℕ) → Spells name s rest → rest ≡ [] → IsQuoted quote s
unfolding unit_in
unended name s rest spelled over = subst (λ (r : List ℕ). Spells name s r → IsQuoted quote s) (sym over) (λ (p : Spells name s []). (name, [], p, refl, refl)) spelled

abbrev ok : {A : Type 0} → A → Read A
ok x = Ok x

abbrev err : {A : Type 0} → JsonPathError → Read A
err e = Err e

abbrev some : List ℕ → Option (List ℕ)
some s = Some s

pub quoted_found : (name rest spelled bytes : List ℕ) (o : Option (List ℕ)) → some spelled ≡ o → IsQuoted (ok (name, rest)) spelled → IsNamed (ok (member name, rest)) o bytes
quoted_found name rest spelled bytes o e is = subst (λ (p : Option (List ℕ)). IsNamed (ok (member name, rest)) p bytes) e (ok (name, rest), is, refl)

pub quoted_refused : (e : JsonPathError) (spelled bytes : List ℕ) (o : Option (List ℕ)) → some spelled ≡ o → (e ≡ faults.Memory) ⊎ IsQuoted (err e) spelled → (e ≡ faults.Memory) ⊎ IsNamed (err e) o bytes
quoted_refused e spelled bytes o same (inl m) = inl m
quoted_refused e spelled bytes o same (inr is) = inr (subst (λ (p : Option (List ℕ)). IsNamed (err e) p bytes) same (err e, is, refl))

pub legs_refused : (ls : List Leg) (s rest : List ℕ) (e : JsonPathError) (b : Bool) → b ≡ eqb (length rest) 0 → b ≡ false → AreLegs ls s rest → (e ≡ faults.Memory) ⊎ IsLegIn (err e) rest → (e ≡ faults.Memory) ⊎ AreRefused e s
legs_refused ls s rest e b test more are (inl m) = inl m
legs_refused ls s rest e b test more are (inr is) =
    let some = goes_on rest b test more in
    inr (ls, some.0, some.1, subst (λ (r : List ℕ). AreLegs ls s r) some.2 are, subst (λ (r : List ℕ). IsLegIn (err e) r) some.2 is)
