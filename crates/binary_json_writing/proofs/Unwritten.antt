-- Why values aren't written.
use Rattle.std.proofs.Common.{◌≡◌, ℕ, ◌≤◌, ◌^◌, Bool, true, false, List, [], ◌∷◌, ◌++◌, length, map, refl, sym, ap, subst, inl, inr, arith}
use Rattle.std.specs.Prelude.{◌&&◌, ◌||◌}
use Rattle.std.proofs.lemmas.Bool.{le-ltb}
use Rattle.binary_json.specs.Values.{Json, scalar, array, object, Entries, entry, entries_nesting}
use Rattle.binary_json_writing.specs.Writable.{is_writable_key, is_writable, are_writable}
use Rattle.binary_json_writing.specs.Stored.{stored, stored_key, stored_value, IsRefusedEnd}
use Rattle.binary_json_writing.specs.Builders.{member_in}
use Rattle.binary_json_writing.specs.Changes.{is_array, is_object, entries_by, with_entries, IsUnwritten, AreUnwritten}
use Rattle.binary_json_writing.specs.declared.entry.Entry.{Entry}
use Rattle.binary_json_writing.specs.declared.error.JsonWriteError.{JsonWriteError}
use Rattle.binary_json_writing.specs.declared.error.JsonWriteError.TheVariants as limits

abbrev Pairs : Type 0
Pairs = List (List ℕ × Json)

and_false : (a b : Bool) → b ≡ false → (a && b) ≡ false
and_false true b e = e
and_false false b e = refl

false_and : (a b : Bool) → a ≡ false → (a && b) ≡ false
false_and true b e = let no : true ≡ false = e in absurd cc
false_and false b e = refl

pub stored_by : (keyed : Bool) (es : List Entry) → stored keyed es ≡ entries_by keyed (map member_in es)
stored_by keyed [] = refl
stored_by keyed (e ∷ es) = ap (λ (xs : Entries). entry (stored_key keyed e.key.items) (member_in e).1 xs) (stored_by keyed es)

-- ---- more entries

abbrev deep : Bool → Pairs → ℕ
deep keyed ps = entries_nesting (entries_by keyed ps)

abbrev possible : Bool → Pairs → Bool
possible keyed ps = are_writable keyed (entries_by keyed ps)

deep_front : (keyed : Bool) (ps qs : Pairs) → deep keyed ps ≤ deep keyed (ps ++ qs)
deep_front keyed [] qs = omega arith
deep_front keyed (p ∷ ps) qs = omega (arith, deep_front keyed ps qs)

deep_back : (keyed : Bool) (ps qs : Pairs) → deep keyed qs ≤ deep keyed (ps ++ qs)
deep_back keyed [] qs = omega arith
deep_back keyed (p ∷ ps) qs = omega (arith, deep_back keyed ps qs)

front_by : (a b c d : Bool) → (c ≡ false → d ≡ false) → (a && (b && c)) ≡ false → (a && (b && d)) ≡ false
front_by true true c d less e = less e
front_by true false c d less e = refl
front_by false b c d less e = refl

front_false : (keyed : Bool) (ps qs : Pairs) → possible keyed ps ≡ false → possible keyed (ps ++ qs) ≡ false
front_false keyed [] qs e = let no : true ≡ false = e in absurd cc
front_false keyed (p ∷ ps) qs e = front_by (is_writable_key keyed (stored_key keyed p.0)) (is_writable p.1) (possible keyed ps) (possible keyed (ps ++ qs)) (front_false keyed ps qs) e

back_false : (keyed : Bool) (ps qs : Pairs) → possible keyed qs ≡ false → possible keyed (ps ++ qs) ≡ false
back_false keyed [] qs e = e
back_false keyed (p ∷ ps) qs e = and_false _ _ (and_false _ _ (back_false keyed ps qs e))

pub in_front : (keyed : Bool) (ps qs : Pairs) (e : JsonWriteError) → AreUnwritten keyed ps e → AreUnwritten keyed (ps ++ qs) e
in_front keyed ps qs e (inl m) = inl m
in_front keyed ps qs e (inr (inl d)) = inr (inl (d.0, omega (arith, d.1, deep_front keyed ps qs)))
in_front keyed ps qs e (inr (inr w)) = inr (inr (w.0, front_false keyed ps qs w.1))

pub behind_others : (keyed : Bool) (ps qs : Pairs) (e : JsonWriteError) → AreUnwritten keyed qs e → AreUnwritten keyed (ps ++ qs) e
behind_others keyed ps qs e (inl m) = inl m
behind_others keyed ps qs e (inr (inl d)) = inr (inl (d.0, omega (arith, d.1, deep_back keyed ps qs)))
behind_others keyed ps qs e (inr (inr w)) = inr (inr (w.0, back_false keyed ps qs w.1))

pub between_others : (keyed : Bool) (ps qs rs all : Pairs) (e : JsonWriteError) → all ≡ ps ++ (qs ++ rs) → AreUnwritten keyed qs e → AreUnwritten keyed all e
between_others keyed ps qs rs all e is are = subst (λ (l : Pairs). AreUnwritten keyed l e) (sym is) (behind_others keyed ps (qs ++ rs) e (in_front keyed qs rs e are))

-- ---- one entry

pub one_unwritten : (keyed : Bool) (key : List ℕ) (v : Json) (e : JsonWriteError) → IsUnwritten v e → AreUnwritten keyed ((key, v) ∷ []) e
one_unwritten keyed key v e (inl m) = inl m
one_unwritten keyed key v e (inr (inl d)) = inr (inl (d.0, omega (arith, d.1)))
one_unwritten keyed key v e (inr (inr w)) = inr (inr (w.0, and_false _ _ (false_and _ _ w.1)))

pub key_unwritten : (keyed : Bool) (key : List ℕ) (v : Json) → (keyed ≡ false → key ≡ []) → 2 ^ 16 ≤ length key → AreUnwritten keyed ((key, v) ∷ []) limits.KeyTooLong
key_unwritten true key v empty long = inr (inr (inl refl, false_and _ _ (le-ltb (length key) (2 ^ 16) long)))
key_unwritten false key v empty long = let none : length key ≡ 0 = ap length (empty refl) in absurd (omega (arith, none, long))

-- ---- the whole

pub container_is : (v : Json) (ps : Pairs) → (is_array v || is_object v) ≡ true → with_entries v ps ≡ stored_value (is_object v) (entries_by (is_object v) ps)
container_is (scalar x) ps e = let no : false ≡ true = e in absurd cc
container_is (array es) ps e = refl
container_is (object es) ps e = refl

pub whole_unwritten : (keyed : Bool) (ps : Pairs) (e : JsonWriteError) → AreUnwritten keyed ps e → IsUnwritten (stored_value keyed (entries_by keyed ps)) e
whole_unwritten keyed ps e (inl m) = inl m
whole_unwritten true ps e (inr (inl d)) = inr (inl (d.0, omega (arith, d.1)))
whole_unwritten false ps e (inr (inl d)) = inr (inl (d.0, omega (arith, d.1)))
whole_unwritten true ps e (inr (inr w)) = inr (inr (w.0, and_false _ _ w.1))
whole_unwritten false ps e (inr (inr w)) = inr (inr (w.0, and_false _ _ w.1))

pub end_unwritten : (keyed : Bool) (es : Entries) (e : JsonWriteError) → IsRefusedEnd keyed es e → IsUnwritten (stored_value keyed es) e
end_unwritten true es e (inl d) = inr (inl (d.0, omega (arith, d.1)))
end_unwritten false es e (inl d) = inr (inl (d.0, omega (arith, d.1)))
end_unwritten true es e (inr (few, inl w)) = inr (inr (inr w.0, false_and _ _ w.1))
end_unwritten false es e (inr (few, inl w)) = inr (inr (inr w.0, false_and _ _ w.1))
end_unwritten keyed es e (inr (few, inr m)) = inl m
