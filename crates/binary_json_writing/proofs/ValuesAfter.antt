-- The value after all diffs, by a function, is what they make.
use Rattle.std.proofs.Common.{◌≡◌, ℕ, ◌<◌, ◌≤◌, true, false, List, [], ◌∷◌, Option, Some, None, Ok, Err, refl, sym, ap, ◌∙◌, inl, inr, arith}
use Rattle.std.specs.Prelude.{◌⊎◌, nat_le}
use Rattle.std.proofs.lemmas.Bool.{and_from, and_left, and_right, le-leb, cases_Bool}
use Rattle.binary_json.specs.Values.{Json, nesting}
use Rattle.binary_json.specs.Diffs.{Diff, Read}
use Rattle.binary_json_writing.specs.Writable.{is_writable}
use Rattle.binary_json_writing.specs.Paths.{Leg, path_legs}
use Rattle.binary_json_writing.specs.Changes.{Changed, changed, IsUnwritten, FailsBy}
use Rattle.binary_json_writing.specs.Owned.{owned_value}
use Rattle.binary_json_writing.specs.Applied.{Makes, IsRefused, AllMake, AreRefused, NotApplied, can_be_written, made_by, value_after, AllWrite, IsMemory}
use Rattle.binary_json_writing.specs.declared.error.JsonWriteError.{JsonWriteError}
use Rattle.binary_json_writing.specs.declared.error.JsonWriteError.TheVariants as limits
use Rattle.binary_json_writing.specs.declared.error.JsonChangeError.{JsonChangeError}
use Rattle.binary_json_writing.specs.declared.error.JsonChangeError.TheVariants as changes
use Rattle.binary_json_writing.specs.declared.applying.JsonApplyError.{JsonApplyError}
use Rattle.binary_json_writing.specs.declared.applying.JsonApplyError.TheVariants as faults
use Rattle.binary_json_writing.specs.declared.owned.OwnedDocument.{OwnedDocument}
use Rattle.binary_json_writing.proofs.KnownPaths.{path_known, path_unknown}

abbrev some : Json → Option Json
some v = Some v

abbrev none : Option Json
none = None

-- ---- what can be written

pub possible : (v : Json) (depth : ℕ) → is_writable v ≡ true → depth ≡ nesting v → depth ≤ 100 → can_be_written v ≡ true
possible v depth fits deep few = and_from (is_writable v) (nat_le (nesting v) 100) fits (le-leb (nesting v) 100 (omega (arith, deep, few)))

pub owned_possible : (d : OwnedDocument) → can_be_written (owned_value d) ≡ true
owned_possible d = possible (owned_value d) d.depth d.possible d.deep d.shallow

unwritten : (v : Json) (e : JsonWriteError) → IsUnwritten v e → (e ≡ limits.Memory) ⊎ (can_be_written v ≡ false)
unwritten v e (inl memory) = inl memory
unwritten v e (inr (inl deep)) = inr (and_right (is_writable v) (nat_le (nesting v) 100) (above (nesting v) deep.1)) where
  above : (n : ℕ) → 100 < n → nat_le n 100 ≡ false
  above n more = grind arith
unwritten v e (inr (inr large)) = inr (and_left (is_writable v) (nat_le (nesting v) 100) large.1)

pub none_after : (ds : List (Read Diff)) (v : Json) → can_be_written v ≡ false → value_after ds v ≡ none
unfolding value_after
none_after [] v no_value = rw no_value refl
none_after (Err x ∷ ds) v no_value = refl
none_after (Ok d ∷ ds) v no_value = rw no_value refl

-- ---- one diff

made_known : (d : Diff) (v w : Json) → Makes d v w → made_by d v ≡ some w
made_known d v w makes = rw (path_known d.path makes.0 makes.1, makes.2) refl

pub one_after : (d : Diff) (ds : List (Read Diff)) (v u : Json) → can_be_written v ≡ true → Makes d v u → value_after (Ok d ∷ ds) v ≡ value_after ds u
unfolding value_after
one_after d ds v u can makes = rw (can, made_known d v u makes) refl

not_made_as : (d : Diff) (ds : List (Read Diff)) (v : Json) (o : Option Json) → ((u : Json) → o ≡ some u → can_be_written u ≡ false) → can_be_written v ≡ true → made_by d v ≡ o
    → value_after (Ok d ∷ ds) v ≡ none
unfolding value_after
not_made_as d ds v None none_made can is = rw (can, is) refl
not_made_as d ds v (Some u) none_made can is = rw (can, is) (none_after ds u (none_made u refl))

-- What a diff makes isn't there, or can't be written.
not_made : (d : Diff) (ds : List (Read Diff)) (v : Json) → ((u : Json) → made_by d v ≡ some u → can_be_written u ≡ false) → value_after (Ok d ∷ ds) v ≡ none
not_made d ds v none_made = elim (cases_Bool (can_be_written v)) [
  | inl can ↦ not_made_as d ds v (made_by d v) none_made can refl
  | inr can ↦ none_after (Ok d ∷ ds) v can
]

refused_legs : (d : Diff) (v : Json) (e : JsonApplyError) (legs : List Leg) (fault : JsonChangeError) (r : Changed Json) → path_legs d.path ≡ Some legs → changed d.operation d.value legs v ≡ r
    → e ≡ faults.Change fault → FailsBy r fault → IsMemory e ⊎ ((u : Json) → made_by d v ≡ some u → can_be_written u ≡ false)
refused_legs d v e legs fault (Err f) known is same fails =
    let gone : made_by d v ≡ none = rw (known, is) refl in
    inr (λ u made. absurd (let wrong : none ≡ some u = sym gone ∙ made in cc))
refused_legs d v e legs fault (Ok w) known is same (x, write, why) = elim (unwritten w x why) [
  | inl memory ↦ inl (inr (same ∙ ap faults.Change (write ∙ ap changes.Write memory)))
  | inr too_large ↦ (
      let there : made_by d v ≡ some w = rw (known, is) refl in
      inr (λ u made. let same_value : w ≡ u = (let both : some w ≡ some u = sym there ∙ made in cc) in ap can_be_written (sym same_value) ∙ too_large))
]

one_refused : (d : Diff) (v : Json) (e : JsonApplyError) → IsRefused d v e → IsMemory e ⊎ ((u : Json) → made_by d v ≡ some u → can_be_written u ≡ false)
one_refused d v e (inl (fault, same, inl memory)) = inl (inl (same ∙ ap faults.Path memory))
one_refused d v e (inl (fault, same, inr why)) =
    let gone : made_by d v ≡ none = rw (path_unknown d.path fault why) refl in
    inr (λ u made. absurd (let wrong : none ≡ some u = sym gone ∙ made in cc))
one_refused d v e (inr (legs, path, (fault, same, fails))) =
    refused_legs d v e legs fault (changed d.operation d.value legs v) (path_known d.path legs path) refl same fails

-- ---- lists

pub after_known : (ds : List (Read Diff)) (v w : Json) → AllWrite ds v w → value_after ds v ≡ some w
unfolding value_after
after_known [] v w all = rw all.0 (ap some (sym all.1))
after_known (Err x ∷ ds) v w all = absurd all
after_known (Ok d ∷ ds) v w (can, (u, makes, others)) = one_after d ds v u can makes ∙ after_known ds u w others

pub after_refused : (ds : List (Read Diff)) (v : Json) (e : JsonApplyError) → AreRefused ds v e → IsMemory e ⊎ (value_after ds v ≡ none)
unfolding value_after
after_refused [] v e why = absurd why
after_refused (Err x ∷ ds) v e why = inr refl
after_refused (Ok d ∷ ds) v e (inl why) = elim (one_refused d v e why) [
  | inl memory ↦ inl memory
  | inr none_made ↦ inr (not_made d ds v none_made)
]
after_refused (Ok d ∷ ds) v e (inr (u, makes, others)) = elim (cases_Bool (can_be_written v)) [
  | inl can ↦ elim (after_refused ds u e others) [
    | inl memory ↦ inl memory
    | inr gone ↦ inr (one_after d ds v u can makes ∙ gone)
  ]
  | inr can ↦ inr (none_after (Ok d ∷ ds) v can)
]

pub not_applied : (ds : List (Read Diff)) (v : Json) (e : JsonApplyError) → NotApplied ds v e → IsMemory e ⊎ (value_after ds v ≡ none)
not_applied ds v e (inl (x, same, why)) = elim (unwritten v x why) [
  | inl memory ↦ inl (inr (same ∙ ap (λ (y : JsonWriteError). faults.Change (changes.Write y)) memory))
  | inr can ↦ inr (none_after ds v can)
]
not_applied ds v e (inr why) = after_refused ds v e why

pub all_make : (ds : List (Read Diff)) (v w : Json) → AllWrite ds v w → AllMake ds v w
all_make [] v w all = all.1
all_make (Err x ∷ ds) v w all = all
all_make (Ok d ∷ ds) v w (can, (u, makes, others)) = (u, makes, all_make ds u w others)
