-- Changes at the end of a path.
use Rattle.std.proofs.Common.{◌≡◌, ℕ, suc, ◌+◌, ◌-◌, ◌<◌, ◌≤◌, min, Bool, true, false, cond, List, [], ◌∷◌, length, Option, Some, None, Ok, Err, refl, sym, ap, subst, ◌∙◌, arith}
use Rattle.std.specs.Prelude.{◌||◌, option_map, slice_get, bytes_eq, nat_lt}
use borrow.Author.Tests.{ltb-true}
use Rattle.binary_json.specs.Values.{Json, scalar, array, object, members as members_in}
use Rattle.binary_json.specs.declared.diffs.JsonDiffOperation.{JsonDiffOperation}
use Rattle.binary_json.specs.declared.diffs.JsonDiffOperation.TheVariants as operations
use Rattle.binary_json.proofs.Left.{some, some_is, none_some}
use Rattle.binary_json_writing.specs.Keys.{is_before}
use Rattle.binary_json_writing.specs.Paths.{Leg, member, element, from_end}
use Rattle.binary_json_writing.specs.Changes.{Changed, and_then, or_fault, entries_of, is_array, is_object, with_entries, spliced, key_index, key_rank, key_of, index_in, free_index, insertion_in, place_in, taken_by, new_entries, within, changed, IsUnwritten, AreUnwritten, FailsBy}
use Rattle.binary_json_writing.specs.declared.error.JsonWriteError.{JsonWriteError}
use Rattle.binary_json_writing.specs.declared.error.JsonChangeError.{JsonChangeError}
use Rattle.binary_json_writing.specs.declared.error.JsonChangeError.TheVariants as faults
use Rattle.binary_json_writing.proofs.Unwritten.{one_unwritten}
use Rattle.binary_json_writing.proofs.Splices.{new_fails}

abbrev Pairs : Type 0
Pairs = List (List ℕ × Json)

abbrev pub ok : {A : Type 0} → A → Changed A
ok x = Ok x

abbrev pub err : {A : Type 0} → JsonChangeError → Changed A
err e = Err e

ok_is : {A : Type 0} (x y : A) → ok x ≡ ok y → x ≡ y
ok_is x y e = cc

ok_err : {A : Type 0} (x : A) (d : JsonChangeError) → ok x ≡ err d → ⊥
ok_err x d e = cc

-- ---- places

index_by : (b : Bool) (o : Option ℕ) (n i : ℕ) → ((j : ℕ) → o ≡ some j → j < n) → cond b (some 0) (option_map suc o) ≡ some i → i < suc n
index_by true o n i less e = omega (arith, some_is 0 i e)
index_by false None n i less e = absurd (none_some i e)
index_by false (Some j) n i less e = omega (arith, some_is (suc j) i e, less j refl)

index_less : (key : List ℕ) (ps : Pairs) (i : ℕ) → key_index key ps ≡ some i → i < length ps
index_less key [] i e = absurd (none_some i e)
index_less key (p ∷ ps) i e = index_by (bytes_eq p.0 key) (key_index key ps) (length ps) i (λ j. index_less key ps j) e

rank_by : (b : Bool) (k n : ℕ) → k ≤ n → cond b (suc k) 0 ≤ suc n
rank_by true k n less = omega arith
rank_by false k n less = omega arith

rank_most : (key : List ℕ) (ps : Pairs) → key_rank key ps ≤ length ps
rank_most key [] = omega arith
rank_most key (p ∷ ps) = rank_by (is_before p.0 key) (key_rank key ps) (length ps) (rank_most key ps)

found_less : (o : Option ℕ) (n i : ℕ) → ((j : ℕ) → o ≡ some j → j < n) → ok i ≡ or_fault faults.NoMember o → i < n
found_less None n i less e = absurd (ok_err i _ e)
found_less (Some j) n i less e = omega (arith, ok_is i j e, less j refl)

free_most : (key : List ℕ) (ps : Pairs) (o : Option ℕ) (i : ℕ) → ok i ≡ free_index key ps o → i ≤ length ps
free_most key ps None i e = omega (arith, ok_is i (key_rank key ps) e, rank_most key ps)
free_most key ps (Some j) i e = absurd (ok_err i _ e)

place_by : (b : Bool) (n k i : ℕ) → nat_lt n k ≡ b → ok i ≡ cond b (ok n) (err faults.NoElement) → i < k
place_by true n k i test e = omega (arith, ok_is i n e, ltb-true n k test)
place_by false n k i test e = absurd (ok_err i _ e)

last_by : (b : Bool) (n k i : ℕ) → nat_lt n k ≡ b → ok i ≡ cond b (ok (k - (n + 1))) (err faults.NoElement) → i < k
last_by true n k i test e = omega (arith, ok_is i (k - (n + 1)) e, ltb-true n k test)
last_by false n k i test e = absurd (ok_err i _ e)

index_within : (leg : Leg) (v : Json) (i : ℕ) → ok i ≡ index_in leg v → i < length (entries_of v)
index_within (member key) (scalar x) i e = absurd (ok_err i _ e)
index_within (member key) (array es) i e = absurd (ok_err i _ e)
index_within (member key) (object es) i e = found_less (key_index key (members_in es)) (length (members_in es)) i (λ j. index_less key (members_in es) j) e
index_within (element n) (scalar x) i e = absurd (ok_err i _ e)
index_within (element n) (array es) i e = place_by (nat_lt n (length (entries_of (array es)))) n (length (entries_of (array es))) i refl e
index_within (element n) (object es) i e = absurd (ok_err i _ e)
index_within (from_end n) (scalar x) i e = absurd (ok_err i _ e)
index_within (from_end n) (array es) i e = last_by (nat_lt n (length (entries_of (array es)))) n (length (entries_of (array es))) i refl e
index_within (from_end n) (object es) i e = absurd (ok_err i _ e)

insertion_within : (leg : Leg) (v : Json) (i : ℕ) → ok i ≡ insertion_in leg v → i ≤ length (entries_of v)
insertion_within (member key) (scalar x) i e = absurd (ok_err i _ e)
insertion_within (member key) (array es) i e = absurd (ok_err i _ e)
insertion_within (member key) (object es) i e = free_most key (members_in es) (key_index key (members_in es)) i e
insertion_within (element n) (scalar x) i e = absurd (ok_err i _ e)
insertion_within (element n) (array es) i e = omega (arith, ok_is i (min n (length (entries_of (array es)))) e)
insertion_within (element n) (object es) i e = absurd (ok_err i _ e)
insertion_within (from_end n) (scalar x) i e = absurd (ok_err i _ e)
insertion_within (from_end n) (array es) i e = omega (arith, ok_is i (length (entries_of (array es)) - (n + 1)) e)
insertion_within (from_end n) (object es) i e = absurd (ok_err i _ e)

pub record IsPlace (leg : Leg) (v : Json) (i n : ℕ) : Type 0 where
  pub container : (is_array v || is_object v) ≡ true
  pub keyless : is_object v ≡ false → key_of leg ≡ []
  pub room : i + n ≤ length (entries_of v)

abbrev Fits : Leg → Json → Type 0
Fits leg v = ((is_array v || is_object v) ≡ true) × (is_object v ≡ false → key_of leg ≡ [])

index_fits : (leg : Leg) (v : Json) (i : ℕ) → ok i ≡ index_in leg v → Fits leg v
index_fits (member key) (scalar x) i e = absurd (ok_err i _ e)
index_fits (member key) (array es) i e = absurd (ok_err i _ e)
index_fits (member key) (object es) i e = (refl, λ wrong. let w : true ≡ false = wrong in absurd cc)
index_fits (element n) (scalar x) i e = absurd (ok_err i _ e)
index_fits (element n) (array es) i e = (refl, λ _. refl)
index_fits (element n) (object es) i e = absurd (ok_err i _ e)
index_fits (from_end n) (scalar x) i e = absurd (ok_err i _ e)
index_fits (from_end n) (array es) i e = (refl, λ _. refl)
index_fits (from_end n) (object es) i e = absurd (ok_err i _ e)

insertion_fits : (leg : Leg) (v : Json) (i : ℕ) → ok i ≡ insertion_in leg v → Fits leg v
insertion_fits (member key) (scalar x) i e = absurd (ok_err i _ e)
insertion_fits (member key) (array es) i e = absurd (ok_err i _ e)
insertion_fits (member key) (object es) i e = (refl, λ wrong. let w : true ≡ false = wrong in absurd cc)
insertion_fits (element n) (scalar x) i e = absurd (ok_err i _ e)
insertion_fits (element n) (array es) i e = (refl, λ _. refl)
insertion_fits (element n) (object es) i e = absurd (ok_err i _ e)
insertion_fits (from_end n) (scalar x) i e = absurd (ok_err i _ e)
insertion_fits (from_end n) (array es) i e = (refl, λ _. refl)
insertion_fits (from_end n) (object es) i e = absurd (ok_err i _ e)

pub index_place : (leg : Leg) (v : Json) (i : ℕ) → ok i ≡ index_in leg v → IsPlace leg v i 1
index_place leg v i e = let fits = index_fits leg v i e in record { container = fits.0; keyless = fits.1; room = omega (arith, index_within leg v i e) }

pub placed : (o : JsonDiffOperation) (leg : Leg) (v : Json) (i n : ℕ) → ok i ≡ place_in o leg v → n ≡ taken_by o → IsPlace leg v i n
placed operations.Insert leg v i n e taken =
    let fits = insertion_fits leg v i e in
    record { container = fits.0; keyless = fits.1; room = omega (arith, taken, insertion_within leg v i e) }
placed operations.Replace leg v i n e taken = let fits = index_fits leg v i e in record { container = fits.0; keyless = fits.1; room = omega (arith, taken, index_within leg v i e) }
placed operations.Remove leg v i n e taken = let fits = index_fits leg v i e in record { container = fits.0; keyless = fits.1; room = omega (arith, taken, index_within leg v i e) }

-- ---- an entry

abbrev with_new : Json → ℕ → ℕ → List ℕ → Option Json → Json
with_new v i n key new = with_entries v (spliced i n (new_entries key new) (entries_of v))

same_new : (v : Json) (i n m : ℕ) (key k : List ℕ) (new o : Option Json) → n ≡ m → key ≡ k → new ≡ o → with_new v i n key new ≡ with_new v i m k o
same_new v i n m key k new o same keys news = ap (λ (x : ℕ). with_new v i x key new) same ∙ ap (λ (x : List ℕ). with_new v i m x new) keys ∙ ap (λ (x : Option Json). with_new v i m k x) news

module _ (o : JsonDiffOperation) (new : Option Json) (leg : Leg) (v : Json) where
  abbrev then : ℕ → Changed Json
  then i = Ok (with_new v i (taken_by o) (key_of leg) new)

  pub entry_made : (i n : ℕ) (key : List ℕ) (news : Option Json) (w : Json) → ok i ≡ place_in o leg v → n ≡ taken_by o → key ≡ key_of leg → news ≡ new → w ≡ with_new v i n key news → changed o new (leg ∷ []) v ≡ ok w
  entry_made i n key news w place taken keys same is =
      ap (λ (r : Changed ℕ). and_then r then) (sym place) ∙ ap (λ (x : Json). ok x) (sym (is ∙ same_new v i n (taken_by o) key (key_of leg) news new taken keys same))

  pub entry_misplaced : (e : JsonChangeError) → err e ≡ place_in o leg v → FailsBy (changed o new (leg ∷ []) v) e
  entry_misplaced e place = subst (λ (r : Changed ℕ). FailsBy (and_then r then) e) place refl

  pub entry_unwritten : (i n : ℕ) (key : List ℕ) (news : Option Json) (d : JsonWriteError) → ok i ≡ place_in o leg v → n ≡ taken_by o → key ≡ key_of leg → news ≡ new → IsUnwritten (with_new v i n key news) d
      → FailsBy (changed o new (leg ∷ []) v) (faults.Write d)
  entry_unwritten i n key news d place taken keys same is =
      let whole = subst (λ (w : Json). IsUnwritten w d) (same_new v i n (taken_by o) key (key_of leg) news new taken keys same) is in
      subst (λ (r : Changed ℕ). FailsBy (and_then r then) (faults.Write d)) place (d, refl, whole)

  pub new_unwritten : (i : ℕ) (d : JsonWriteError) → ok i ≡ place_in o leg v → ((keyed : Bool) (key : List ℕ) → AreUnwritten keyed (new_entries key new) d) → FailsBy (changed o new (leg ∷ []) v) (faults.Write d)
  new_unwritten i d place are =
      let at = placed o leg v i (taken_by o) place refl in
      let whole = new_fails v (is_object v) i (taken_by o) (length (entries_of v)) (new_entries (key_of leg) new) at.container refl refl (is_object v) d refl (are (is_object v) (key_of leg)) in
      subst (λ (r : Changed ℕ). FailsBy (and_then r then) (faults.Write d)) place (d, refl, whole)

-- ---- an entry of an entry

module _ (o : JsonDiffOperation) (new : Option Json) (leg : Leg) (v : Json) where
  abbrev put : ℕ → Json → Changed Json
  put i w = Ok (with_new v i 1 (key_of leg) (Some w))

  abbrev inner : List Leg → ℕ → Changed Json
  inner ls i = and_then (within (changed o new ls) (slice_get (entries_of v) i)) (put i)

  pub inner_misplaced : (ls : List Leg) (e : JsonChangeError) → 0 < length ls → err e ≡ index_in leg v → FailsBy (changed o new (leg ∷ ls) v) e
  inner_misplaced [] e more place = absurd (omega (arith, more))
  inner_misplaced (l ∷ ls) e more place = subst (λ (r : Changed ℕ). FailsBy (and_then r (inner (l ∷ ls))) e) place refl

  pub inner_made : (ls : List Leg) (i : ℕ) (p : List ℕ × Json) (u w : Json) (key : List ℕ) → 0 < length ls → ok i ≡ index_in leg v → slice_get (entries_of v) i ≡ some p → changed o new ls p.1 ≡ ok u → key ≡ key_of leg
      → w ≡ with_new v i 1 key (Some u) → changed o new (leg ∷ ls) v ≡ ok w
  inner_made [] i p u w key more place at made keys is = absurd (omega (arith, more))
  inner_made (l ∷ ls) i p u w key more place at made keys is =
      ap (λ (r : Changed ℕ). and_then r (inner (l ∷ ls))) (sym place)
      ∙ ap (λ (q : Option (List ℕ × Json)). and_then (within (changed o new (l ∷ ls)) q) (put i)) at
      ∙ ap (λ (r : Changed Json). and_then r (put i)) made
      ∙ ap (λ (x : Json). ok x) (sym (is ∙ ap (λ (k : List ℕ). with_new v i 1 k (Some u)) keys))

  -- What is refused within is refused.
  fails_by : (i : ℕ) (r : Changed Json) (e : JsonChangeError) → ok i ≡ index_in leg v → FailsBy r e → FailsBy (and_then r (put i)) e
  fails_by i (Err d) e place is = is
  fails_by i (Ok u) e place is =
      let at = index_place leg v i place in
      let whole = new_fails v (is_object v) i 1 (length (entries_of v)) (new_entries (key_of leg) (Some u)) at.container refl refl (is_object v) is.0 refl (one_unwritten (is_object v) (key_of leg) u is.0 is.2) in
      (is.0, is.1, whole)

  pub inner_fails : (ls : List Leg) (i : ℕ) (p : List ℕ × Json) (e : JsonChangeError) → 0 < length ls → ok i ≡ index_in leg v → slice_get (entries_of v) i ≡ some p → FailsBy (changed o new ls p.1) e → FailsBy (changed o new (leg ∷ ls) v) e
  inner_fails [] i p e more place at is = absurd (omega (arith, more))
  inner_fails (l ∷ ls) i p e more place at is =
      let step = fails_by i (changed o new (l ∷ ls) p.1) e place is in
      let there = subst (λ (q : Option (List ℕ × Json)). FailsBy (and_then (within (changed o new (l ∷ ls)) q) (put i)) e) (sym at) step in
      subst (λ (r : Changed ℕ). FailsBy (and_then r (inner (l ∷ ls))) e) place there

  pub inner_unwritten : (ls : List Leg) (i : ℕ) (p : List ℕ × Json) (u : Json) (key : List ℕ) (d : JsonWriteError) → 0 < length ls → ok i ≡ index_in leg v → slice_get (entries_of v) i ≡ some p → changed o new ls p.1 ≡ ok u
      → key ≡ key_of leg → IsUnwritten (with_new v i 1 key (Some u)) d → FailsBy (changed o new (leg ∷ ls) v) (faults.Write d)
  inner_unwritten [] i p u key d more place at made keys is = absurd (omega (arith, more))
  inner_unwritten (l ∷ ls) i p u key d more place at made keys is =
      let whole = subst (λ (k : List ℕ). IsUnwritten (with_new v i 1 k (Some u)) d) keys is in
      let step : FailsBy (put i u) (faults.Write d) = (d, refl, whole) in
      let one = subst (λ (r : Changed Json). FailsBy (and_then r (put i)) (faults.Write d)) (sym made) step in
      let two = subst (λ (q : Option (List ℕ × Json)). FailsBy (and_then (within (changed o new (l ∷ ls)) q) (put i)) (faults.Write d)) (sym at) one in
      subst (λ (r : Changed ℕ). FailsBy (and_then r (inner (l ∷ ls))) (faults.Write d)) place two

  -- An index that leads nowhere isn't found.
  pub inner_there : (i : ℕ) → ok i ≡ index_in leg v → i < length (entries_of v)
  inner_there i place = index_within leg v i place
