-- What is found in entries in ascending order, and what an edit of them does to that.
use Rattle.std.proofs.Common.{◌≡◌, ℕ, zero, suc, ◌+◌, ◌-◌, ◌<◌, ◌≤◌, Bool, true, false, ◌&&◌, eqb, List, [], ◌∷◌, ◌++◌, length, take, get_or, set, append_assoc, append-nil, Option, Some, None, Result, Ok, Err, IfOk, IfErr, OnOk, OnErr, refl, sym, ap, subst, ◌∙◌, inl, inr, arith}
use Rattle.std.specs.List.{insert}
use Rattle.std.specs.Option.{option_or}
use Rattle.std.specs.List.Sorted.{IsSearchInRange, IsBinarySearchResult, IsNonDecreasingBy}
use Rattle.std.specs.declared.cmp.Ordering.{Ordering}
use Rattle.std.specs.declared.cmp.Ordering.TheVariants.{Less, Equal, Greater}
use Rattle.std.specs.Ordering.{nat_cmp, ordering_then, ordering_index, ordering_reverse, is_eq, is_lt}
use Rattle.std.specs.Cmp.{IsTotalOrder, then_total, on_total, alike_right}
use Rattle.std.proofs.lemmas.Cmp.{nat_cmp_total}
use Rattle.std.proofs.lemmas.List.{get_or_read, take_all, take_more}
use Rattle.std.proofs.lemmas.List.Edits.{length-insert, get_or-insert_below, get_or-insert_at, get_or-insert_above}
use Rattle.std.proofs.lemmas.List.Sorted.{searchable_from_sorted}
use Rattle.std.proofs.lemmas.Bool.{cases_lt}
use Rattle.std.proofs.lemmas.Bool.Decides.{nat_tests}
use Rattle.binlog_mariadb.specs.declared.maria_gtid.MariaGtid.{MariaGtid}
use Rattle.binlog_maria_gtids.specs.LastGtids.{Origin, origin, origin_of, compare_origins, is_of, sequence_for, last_of, KeepLast, AreAscending, IsAt, IsGapFor}

pub origins_total : IsTotalOrder compare_origins
unfolding compare_origins
origins_total = then_total (on_total (λ (o : Origin). o.domain) nat_cmp_total) (on_total (λ (o : Origin). o.server_id) nat_cmp_total)

-- ---- GTIDs that have an origin, or not

both_equal : (a b : Ordering) → is_eq (ordering_then a b) ≡ (is_eq a && is_eq b)
both_equal Less b = refl
both_equal Equal b = refl
both_equal Greater b = refl

number_same : (a b : ℕ) → is_eq (nat_cmp a b) ≡ eqb a b
number_same a b = grind (arith, nat_tests)

-- Whether a GTID has an origin, by the order.
pub is_of_by : (g : MariaGtid) (o : Origin) → is_of o g ≡ is_eq (compare_origins (origin_of g) o)
unfolding compare_origins
is_of_by g o =
    sym (both_equal (nat_cmp g.domain o.domain) (nat_cmp g.server_id o.server_id)
    ∙ ap (λ (b : Bool). b && is_eq (nat_cmp g.server_id o.server_id)) (number_same g.domain o.domain)
    ∙ ap (λ (b : Bool). eqb g.domain o.domain && b) (number_same g.server_id o.server_id))

equal_from_same : (r : Ordering) → is_eq r ≡ true → r ≡ Equal
equal_from_same Less h = absurd cc
equal_from_same Equal h = refl
equal_from_same Greater h = absurd cc

is_of_when : (g : MariaGtid) (o : Origin) (r : Ordering) → compare_origins (origin_of g) o ≡ r → is_of o g ≡ is_eq r
is_of_when g o r is = is_of_by g o ∙ ap is_eq is

tied : (g : MariaGtid) (o : Origin) → is_of o g ≡ true → compare_origins (origin_of g) o ≡ Equal
tied g o same = equal_from_same (compare_origins (origin_of g) o) (sym (is_of_by g o) ∙ same)

-- GTIDs of one origin have the same origins.
alike : (g x : MariaGtid) (o : Origin) → origin_of x ≡ origin_of g → is_of o x ≡ is_of o g
alike g x o same = is_of_by x o ∙ ap (λ (p : Origin). is_eq (compare_origins p o)) same ∙ sym (is_of_by g o)

-- ---- the last one of a list

or_none : (x : Option ℕ) → option_or x None ≡ x
or_none None = refl
or_none (Some n) = refl

or_assoc : (x y z : Option ℕ) → option_or (option_or x y) z ≡ option_or x (option_or y z)
or_assoc None y z = refl
or_assoc (Some n) y z = refl

pub last-append : (xs ys : List MariaGtid) (o : Origin) → last_of (xs ++ ys) o ≡ option_or (last_of ys o) (last_of xs o)
last-append [] ys o = sym (or_none (last_of ys o))
last-append (x ∷ xs) ys o = ap (λ (r : Option ℕ). option_or r (sequence_for o x)) (last-append xs ys o) ∙ or_assoc (last_of ys o) (last_of xs o) (sequence_for o x)

-- No GTID from an index on has the origin.
abbrev NoneFrom : List MariaGtid → Origin → ℕ → Type 0
NoneFrom gs o i = (j : ℕ) (d : MariaGtid) → i ≤ j → j < length gs → is_of o (get_or gs j d) ≡ false

none_in_tail : (g : MariaGtid) (gs : List MariaGtid) (o : Origin) (i : ℕ) → NoneFrom (g ∷ gs) o (suc i) → NoneFrom gs o i
none_in_tail g gs o i none j d least less = none (suc j) d (omega arith) (omega arith)

pub none_last : (gs : List MariaGtid) (o : Origin) → NoneFrom gs o 0 → last_of gs o ≡ None
none_last [] o none = refl
none_last (g ∷ gs) o none = rw (none_last gs o (λ j d least less. none (suc j) d (omega arith) (omega arith)), none 0 g (omega arith) (omega arith)) refl

found_last : (gs : List MariaGtid) (o : Origin) (i : ℕ) (d : MariaGtid) → i < length gs → is_of o (get_or gs i d) ≡ true → NoneFrom gs o (suc i) → last_of gs o ≡ Some (get_or gs i d).sequence
found_last [] o i d within same none = absurd (omega arith)
found_last (g ∷ gs) o zero d within same none = rw (none_last gs o (none_in_tail g gs o 0 none), same) refl
found_last (g ∷ gs) o (suc i) d within same none = rw (found_last gs o i d (omega arith) same (none_in_tail g gs o (suc i) none)) refl

-- ---- one more GTID

-- The new GTID before others, of which none has its origin.
first_by : (gs : List MariaGtid) (g : MariaGtid) (o : Origin) (b : Bool) → is_of o g ≡ b → (b ≡ true → last_of gs o ≡ None) → option_or (last_of gs o) (sequence_for o g) ≡ last_of (gs ++ g ∷ []) o
first_by gs g o true same none = rw (last-append gs (g ∷ []) o, none refl, same) refl
first_by gs g o false same none = rw (last-append gs (g ∷ []) o, same) (or_none (last_of gs o))

none_of_same : (gs : List MariaGtid) (g : MariaGtid) (o : Origin) (i : ℕ) → NoneFrom gs (origin_of g) i → is_of o g ≡ true → NoneFrom gs o i
none_of_same gs g o i none same j d least less =
    let x = get_or gs j d in
    is_of_by x o ∙ ap is_eq (sym (alike_right origins_total (origin_of g) o (origin_of x) (tied g o same))) ∙ sym (is_of_by x (origin_of g)) ∙ none j d least less

pub insert_last : (gs : List MariaGtid) (g : MariaGtid) (i : ℕ) (o : Origin) → NoneFrom gs (origin_of g) i → last_of (insert gs i g) o ≡ last_of (gs ++ g ∷ []) o
insert_last gs g zero o none = first_by gs g o (is_of o g) refl (λ same. none_last gs o (none_of_same gs g o 0 none same))
insert_last [] g (suc i) o none = refl
insert_last (x ∷ gs) g (suc i) o none = ap (λ (r : Option ℕ). option_or r (sequence_for o x)) (insert_last gs g i o (none_in_tail x gs (origin_of g) i none))

replaced_by : (gs : List MariaGtid) (x g : MariaGtid) (o : Origin) (b : Bool) → is_of o g ≡ b → is_of o x ≡ b → (b ≡ true → last_of gs o ≡ None)
    → option_or (last_of gs o) (sequence_for o g) ≡ option_or (last_of (gs ++ g ∷ []) o) (sequence_for o x)
replaced_by gs x g o true same other none = rw (last-append gs (g ∷ []) o, none refl, same) refl
replaced_by gs x g o false same other none = rw (last-append gs (g ∷ []) o, same, other) refl

pub set_last : (gs : List MariaGtid) (g : MariaGtid) (i : ℕ) (o : Origin) → i < length gs → ((d : MariaGtid) → origin_of (get_or gs i d) ≡ origin_of g) → NoneFrom gs (origin_of g) (suc i)
    → last_of (set gs i g) o ≡ last_of (gs ++ g ∷ []) o
set_last [] g i o within same none = absurd (omega arith)
set_last (x ∷ gs) g zero o within same none =
    let behind : NoneFrom gs (origin_of g) 0 = none_in_tail x gs (origin_of g) 0 none in
    replaced_by gs x g o (is_of o g) refl (alike g x o (same x)) (λ of. none_last gs o (none_of_same gs g o 0 behind of))
set_last (x ∷ gs) g (suc i) o within same none =
    ap (λ (r : Option ℕ). option_or r (sequence_for o x)) (set_last gs g i o (omega arith) same (none_in_tail x gs (origin_of g) (suc i) none))

-- ---- the search

module _ (gs : List MariaGtid) (are : AreAscending gs) (o : Origin) where
  comparisons_rise : IsNonDecreasingBy (λ g. ordering_index (compare_origins (origin_of g) o)) gs
  comparisons_rise =
      searchable_from_sorted origins_total origin_of gs o
      (λ k d from to. ap is_lt (origins_total.antisymm (origin_of (get_or gs (k + 1) d)) (origin_of (get_or gs k d)) ∙ ap ordering_reverse (are.ascending k (k + 1) d (omega arith) to)))

  -- A binary search finds the entry with the origin, or the index where it would be inserted.
  pub searched : (r : Result ℕ ℕ) → IsSearchInRange r (length gs) → IsBinarySearchResult (λ g. compare_origins (origin_of g) o) gs r
      → record { found : IfOk r (λ at. IsAt gs o at); absent : IfErr r (λ at. IsGapFor gs o at) }
  searched (Ok at) within equal = record { found = record { within = within; same = equal }; absent = tt }
  searched (Err at) within parted = record {
    found = tt;
    absent = record {
      within = within;
      smaller = λ j d less. (parted comparisons_rise).0 j d (omega arith) less;
      greater = λ j d least less. (parted comparisons_rise).1 j d least less;
    };
  }

-- An origin that is after that of the last entry would be inserted at the end.
pub after_last : (gs : List MariaGtid) → AreAscending gs → (o : Origin) (last : MariaGtid) → 0 < length gs → last ≡ get_or gs (length gs - 1) last
    → compare_origins (origin_of last) o ≡ Less → IsGapFor gs o (length gs)
after_last gs are o last some last_is less =
    let there : (d : MariaGtid) → compare_origins (origin_of (get_or gs (length gs - 1) d)) o ≡ Less = λ d.
    ap (λ (g : MariaGtid). compare_origins (origin_of g) o) (sym (get_or_read gs (length gs - 1) last (omega arith) last_is d)) ∙ less in
    record {
      within = omega arith;
      smaller = λ j d within. elim (cases_lt j (length gs - 1)) [
        | inl before ↦ origins_total.trans (origin_of (get_or gs j d)) (origin_of (get_or gs (length gs - 1) d)) o (are.ascending j (length gs - 1) d before (omega arith)) (there d)
        | inr after ↦ (let same : j ≡ length gs - 1 = omega arith in rw same (there d))
      ];
      greater = λ j d least within. absurd (omega arith);
    }

-- ---- what is found

module _ (gs : List MariaGtid) (are : AreAscending gs) (o : Origin) (at : ℕ) (is : IsAt gs o at) where
  none_behind : NoneFrom gs o (suc at)
  none_behind j d least less =
      let x = origin_of (get_or gs j d) in
      let y = origin_of (get_or gs at d) in
      let greater : compare_origins x y ≡ Greater = origins_total.antisymm x y ∙ ap ordering_reverse (are.ascending at j d (omega arith) less) in
      is_of_when (get_or gs j d) o Greater (sym (alike_right origins_total y o x (is.same d)) ∙ greater)

  pub found_at : (d : MariaGtid) → last_of gs o ≡ Some (get_or gs at d).sequence
  found_at d = found_last gs o at d is.within (is_of_when (get_or gs at d) o Equal (is.same d)) none_behind

module _ (gs : List MariaGtid) (o : Origin) (at : ℕ) (gap : IsGapFor gs o at) where
  none_from_gap : NoneFrom gs o at
  none_from_gap j d least less = is_of_when (get_or gs j d) o Greater (gap.greater j d least less)

  none_at_all : NoneFrom gs o 0
  none_at_all j d least less = elim (cases_lt j at) [
    | inl before ↦ is_of_when (get_or gs j d) o Less (gap.smaller j d before)
    | inr after ↦ none_from_gap j d after less
  ]

  pub not_found : last_of gs o ≡ None
  not_found = none_last gs o none_at_all

-- ---- a GTID in the place of one, or inserted

pub origin_same : (g : MariaGtid) (o : Origin) → is_of o g ≡ true → origin_of g ≡ o
origin_same g o same =
    let domain : g.domain ≡ o.domain = grind (arith, nat_tests) in
    let server : g.server_id ≡ o.server_id = grind (arith, nat_tests) in
    ap (λ (n : ℕ). origin n g.server_id) domain ∙ ap (origin o.domain) server

length_set : (gs : List MariaGtid) (g : MariaGtid) (at : ℕ) → length (set gs at g) ≡ length gs
length_set [] g at = refl
length_set (x ∷ gs) g zero = refl
length_set (x ∷ gs) g (suc at) = ap suc (length_set gs g at)

origins_kept : (gs : List MariaGtid) (g : MariaGtid) (at j : ℕ) (d : MariaGtid) → at < length gs → ((d : MariaGtid) → origin_of (get_or gs at d) ≡ origin_of g)
    → origin_of (get_or (set gs at g) j d) ≡ origin_of (get_or gs j d)
origins_kept [] g at j d within same = absurd (omega arith)
origins_kept (x ∷ gs) g zero zero d within same = sym (same d)
origins_kept (x ∷ gs) g zero (suc j) d within same = refl
origins_kept (x ∷ gs) g (suc at) zero d within same = refl
origins_kept (x ∷ gs) g (suc at) (suc j) d within same = origins_kept gs g at j d (omega arith) same

module _ (gs : List MariaGtid) (are : AreAscending gs) (g : MariaGtid) (at : ℕ) (is : IsAt gs (origin_of g) at) where
  origin_there : (d : MariaGtid) → origin_of (get_or gs at d) ≡ origin_of g
  origin_there d = origin_same (get_or gs at d) (origin_of g) (is_of_when (get_or gs at d) (origin_of g) Equal (is.same d))

  pub set_ascends : AreAscending (set gs at g)
  set_ascends = record {
    ascending = λ i j d less within.
        rw (origins_kept gs g at i d is.within origin_there, origins_kept gs g at j d is.within origin_there) (are.ascending i j d less (omega (arith, length_set gs g at)));
  }

  pub set_keeps : KeepLast (gs ++ g ∷ []) (set gs at g)
  set_keeps o = set_last gs g at o is.within origin_there (none_behind gs are (origin_of g) at is)

module _ (gs : List MariaGtid) (are : AreAscending gs) (g : MariaGtid) (at : ℕ) (gap : IsGapFor gs (origin_of g) at) where
  pub insert_ascends : AreAscending (insert gs at g)
  insert_ascends =
      let new = insert gs at g in
      let grown = length-insert gs at g gap.within in
      let below : (i : ℕ) (d : MariaGtid) → i < at → get_or new i d ≡ get_or gs i d = λ i d less. get_or-insert_below gs at g d i less gap.within in
      let here : (i : ℕ) (d : MariaGtid) → i ≡ at → get_or new i d ≡ g = λ i d is. rw is (get_or-insert_at gs at g d gap.within) in
      let above : (i : ℕ) (d : MariaGtid) → at < i → get_or new i d ≡ get_or gs (i - 1) d = λ i d less.
      subst (λ (q : ℕ). get_or new q d ≡ get_or gs (i - 1) d) {x = i - 1 + 1} (omega arith) (get_or-insert_above gs at g d (i - 1) (omega arith) gap.within) in
      let after : (j : ℕ) (d : MariaGtid) → at ≤ j → j < length gs → compare_origins (origin_of g) (origin_of (get_or gs j d)) ≡ Less = λ j d least less.
      origins_total.antisymm (origin_of g) (origin_of (get_or gs j d)) ∙ ap ordering_reverse (gap.greater j d least less) in
      record {
        ascending = λ i j d less within.
            grind (arith, below i d, here i d, above i d, below j d, here j d, above j d, are.ascending i j d, are.ascending i (j - 1) d, are.ascending (i - 1) (j - 1) d, gap.smaller i d, after (j - 1) d);
      }

  pub insert_keeps : KeepLast (gs ++ g ∷ []) (insert gs at g)
  insert_keeps o = insert_last gs g at o (none_from_gap gs (origin_of g) at gap)

  -- After the insertion, or after its failure.
  pub keeps_inserted : {T E : Type 0} (r : Result T E) (new : List MariaGtid) → OnOk r (new ≡ insert gs at g) → OnOk r (KeepLast (gs ++ g ∷ []) new)
  keeps_inserted (Ok x) new put = subst (λ (es : List MariaGtid). KeepLast (gs ++ g ∷ []) es) (sym put) insert_keeps
  keeps_inserted (Err x) new put = tt

  pub ascends_inserted : {T E : Type 0} (r : Result T E) (new : List MariaGtid) → OnOk r (new ≡ insert gs at g) → OnErr r (new ≡ gs) → AreAscending new
  ascends_inserted (Ok x) new put stays = subst AreAscending (sym put) insert_ascends
  ascends_inserted (Err x) new put stays = subst AreAscending (sym stays) are

-- ---- more GTIDs

-- What keeps the last of some GTIDs keeps it with more behind both.
pub keep_more : (gs es more : List MariaGtid) → KeepLast gs es → KeepLast (gs ++ more) (es ++ more)
keep_more gs es more keep o =
    last-append es more o ∙ ap (λ (r : Option ℕ). option_or (last_of more o) r) (keep o) ∙ sym (last-append gs more o)

-- ---- the first of some GTIDs

-- No GTID so far.
pub keeps_at_first : (old new gtids : List MariaGtid) → new ≡ old → KeepLast (old ++ take 0 gtids) new
keeps_at_first old new gtids same o = ap (λ (es : List MariaGtid). last_of es o) (same ∙ sym (append-nil old))

-- One more.
pub keeps_one_more : (old mid new gtids : List MariaGtid) (k : ℕ) (d : MariaGtid) → k < length gtids → KeepLast (old ++ take k gtids) mid → KeepLast (mid ++ get_or gtids k d ∷ []) new
    → KeepLast (old ++ take (k + 1) gtids) new
keeps_one_more old mid new gtids k d within so_far more o =
    let g = get_or gtids k d in
    let list : (old ++ take k gtids) ++ g ∷ [] ≡ old ++ take (k + 1) gtids = append_assoc old (take k gtids) (g ∷ []) ∙ ap (λ (gs : List MariaGtid). old ++ gs) (sym (take_more gtids k d within)) in
    more o ∙ keep_more (old ++ take k gtids) mid (g ∷ []) so_far o ∙ ap (λ (gs : List MariaGtid). last_of gs o) list

-- All.
pub keeps_all : (old new gtids : List MariaGtid) (k : ℕ) → length gtids ≤ k → KeepLast (old ++ take k gtids) new → KeepLast (old ++ gtids) new
keeps_all old new gtids k all kept = subst (λ (gs : List MariaGtid). KeepLast (old ++ gs) new) (take_all k gtids all) kept
