-- What is found in a list of groups in ascending order, and what an edit of the list does to that.
use Rattle.std.proofs.Common.{◌≡◌, ℕ, zero, suc, ◌+◌, ◌-◌, ◌<◌, ◌≤◌, Bool, true, false, cond, ◌&&◌, ◌||◌, List, [], ◌∷◌, ◌++◌, length, get_or, set, length-append, Result, Ok, Err, IfOk, IfErr, OnOk, OnErr, refl, sym, ap, subst, ◌∙◌, inl, inr, arith}
use Rattle.std.specs.List.{insert}
use Rattle.std.specs.List.Sorted.{IsSearchInRange, IsBinarySearchResult, IsNonDecreasingBy}
use Rattle.std.specs.declared.cmp.Ordering.{Ordering}
use Rattle.std.specs.declared.cmp.Ordering.TheVariants.{Less, Equal, Greater}
use Rattle.std.specs.Ordering.{ordering_index, ordering_reverse, is_eq, is_lt}
use Rattle.std.specs.Cmp.{IsTotalOrder, then_total, on_total, alike_right, tied_itself}
use Rattle.std.specs.Cmp.Lexicographic.{nat_list_cmp_total}
use Rattle.std.proofs.lemmas.List.{get_or_read, get_or_append_left, get_or_push, take_all, drop_all}
use Rattle.std.proofs.lemmas.List.Edits.{length-insert, get_or-insert_below, get_or-insert_at, get_or-insert_above}
use Rattle.std.proofs.lemmas.List.Sorted.{searchable_from_sorted}
use Rattle.std.proofs.lemmas.Bool.{cases_lt, lt-ltb, le-leb}
use Rattle.binlog_variable_fields.specs.declared.gno_interval.GnoInterval.{GnoInterval}
use Rattle.binlog_gtids.specs.GnoSets.{is_within, is_held}
use Rattle.binlog_gtid_sets.specs.declared.gtid_group.GtidGroup.{GtidGroup}
use Rattle.binlog_gtid_sets.specs.GtidGroups.{Pair, pair_in, compare_pairs, is_same, intervals_of, is_tracked, AreGroups, AreBelow, IsAt, IsGapFor}

pub pairs_total : IsTotalOrder compare_pairs
unfolding compare_pairs
pairs_total = then_total (on_total (λ (p : Pair). p.sid) nat_list_cmp_total) (on_total (λ (p : Pair). p.tag) nat_list_cmp_total)

-- ---- pairs that are the same, or not

equal_from_same : (r : Ordering) → is_eq r ≡ true → r ≡ Equal
equal_from_same Less h = absurd cc
equal_from_same Equal h = refl
equal_from_same Greater h = absurd cc

turned : (r : Ordering) → is_eq (ordering_reverse r) ≡ is_eq r
turned Less = refl
turned Equal = refl
turned Greater = refl

-- Of two pairs that differ, at most one is the same as q.
pub not_both : (a b q : Pair) → is_same a b ≡ false → is_same a q ≡ true → is_same b q ≡ false
not_both a b q differ same =
    let tied = equal_from_same (compare_pairs a q) same in
    ap is_eq (pairs_total.antisymm b q) ∙ turned (compare_pairs q b) ∙ sym (ap is_eq (pairs_total.congr a q b tied)) ∙ differ

pub at_same : (groups : List GtidGroup) (p q : Pair) (at : ℕ) → is_same p q ≡ true → IsAt groups p at → IsAt groups q at
at_same groups p q at same is =
    record { within = is.within; same = λ d. sym (alike_right pairs_total p q (pair_in (get_or groups at d)) (equal_from_same (compare_pairs p q) same)) ∙ is.same d }

pub gap_same : (groups : List GtidGroup) (p q : Pair) (at : ℕ) → is_same p q ≡ true → IsGapFor groups p at → IsGapFor groups q at
gap_same groups p q at same gap =
    let alike : (z : Pair) → compare_pairs z q ≡ compare_pairs z p = λ z. sym (alike_right pairs_total p q z (equal_from_same (compare_pairs p q) same)) in
    record {
      within = gap.within;
      smaller = λ j d less. alike (pair_in (get_or groups j d)) ∙ gap.smaller j d less;
      greater = λ j d least less. alike (pair_in (get_or groups j d)) ∙ gap.greater j d least less;
    }

-- ---- what is found

-- No group before this index has the pair.
abbrev NoneBefore : List GtidGroup → Pair → ℕ → Type 0
NoneBefore groups p i = (j : ℕ) (d : GtidGroup) → j < i → is_same (pair_in (get_or groups j d)) p ≡ false

none_in_tail : (g : GtidGroup) (groups : List GtidGroup) (p : Pair) (i : ℕ) → NoneBefore (g ∷ groups) p (suc i) → NoneBefore groups p i
none_in_tail g groups p i none j d less = none (suc j) d (omega arith)

at_in_tail : (g : GtidGroup) (groups : List GtidGroup) (p : Pair) (i : ℕ) → IsAt (g ∷ groups) p (suc i) → IsAt groups p i
at_in_tail g groups p i is = record { within = omega (arith, is.within); same = is.same }

pub lookup_absent : (groups : List GtidGroup) (p : Pair) → NoneBefore groups p (length groups) → intervals_of groups p ≡ []
lookup_absent [] p none = refl
lookup_absent (g ∷ groups) p none = rw (none 0 g (omega arith)) (lookup_absent groups p (none_in_tail g groups p _ none))

lookup_present : (groups : List GtidGroup) (p : Pair) (i : ℕ) (d : GtidGroup) → IsAt groups p i → NoneBefore groups p i → intervals_of groups p ≡ (get_or groups i d).gnos
lookup_present [] p i d is none = absurd (omega (arith, is.within))
lookup_present (g ∷ groups) p zero d is none = let same : is_same (pair_in g) p ≡ true = ap is_eq (is.same d) in rw same refl
lookup_present (g ∷ groups) p (suc i) d is none = rw (none 0 g (omega arith)) (lookup_present groups p i d (at_in_tail g groups p i is) (none_in_tail g groups p i none))

-- The intervals, with those of one group.
abbrev pub with_group : List GtidGroup → GtidGroup → Pair → List GnoInterval
with_group groups g q = cond (is_same (pair_in g) q) g.gnos (intervals_of groups q)

put_first_by : (first : GtidGroup) (groups : List GtidGroup) (g : GtidGroup) (q : Pair) (b : Bool) → is_same (pair_in g) q ≡ b → pair_in first ≡ pair_in g
    → cond (is_same (pair_in g) q) g.gnos (intervals_of groups q) ≡ with_group (first ∷ groups) g q
put_first_by first groups g q b e same = rw same (by_test b e)
  where
    by_test : (b : Bool) → is_same (pair_in g) q ≡ b → cond (is_same (pair_in g) q) g.gnos (intervals_of groups q) ≡ cond (is_same (pair_in g) q) g.gnos (cond (is_same (pair_in g) q) first.gnos (intervals_of groups q))
    by_test true e = rw e refl
    by_test false e = rw e refl

put_later_by : (first : GtidGroup) (rest edited : List GnoInterval) (g : GtidGroup) (q : Pair) (b : Bool) → is_same (pair_in first) q ≡ b → is_same (pair_in first) (pair_in g) ≡ false
    → edited ≡ cond (is_same (pair_in g) q) g.gnos rest
    → cond (is_same (pair_in first) q) first.gnos edited ≡ cond (is_same (pair_in g) q) g.gnos (cond (is_same (pair_in first) q) first.gnos rest)
put_later_by first rest edited g q true e other same = rw (e, not_both (pair_in first) (pair_in g) q other e) refl
put_later_by first rest edited g q false e other same = rw e same

-- A group in place of one with the same pair.
lookup_set : (groups : List GtidGroup) (g : GtidGroup) (i : ℕ) (q : Pair) → i < length groups → ((d : GtidGroup) → pair_in (get_or groups i d) ≡ pair_in g) → NoneBefore groups (pair_in g) i
    → intervals_of (set groups i g) q ≡ with_group groups g q
lookup_set [] g i q within same none = absurd (omega arith)
lookup_set (first ∷ groups) g zero q within same none = put_first_by first groups g q (is_same (pair_in g) q) refl (same g)
lookup_set (first ∷ groups) g (suc i) q within same none =
    put_later_by first (intervals_of groups q) (intervals_of (set groups i g) q) g q (is_same (pair_in first) q) refl (none 0 first (omega arith))
    (lookup_set groups g i q (omega arith) same (none_in_tail first groups (pair_in g) i none))

-- A new group before any with its pair.
lookup-insert : (groups : List GtidGroup) (g : GtidGroup) (i : ℕ) (q : Pair) → NoneBefore groups (pair_in g) i → intervals_of (insert groups i g) q ≡ with_group groups g q
lookup-insert groups g zero q none = refl
lookup-insert [] g (suc i) q none = refl
lookup-insert (first ∷ groups) g (suc i) q none =
    put_later_by first (intervals_of groups q) (intervals_of (insert groups i g) q) g q (is_same (pair_in first) q) refl (none 0 first (omega arith))
    (lookup-insert groups g i q (none_in_tail first groups (pair_in g) i none))

-- ---- the search

module _ (groups : List GtidGroup) (are : AreGroups groups) (p : Pair) where
  comparisons_rise : IsNonDecreasingBy (λ g. ordering_index (compare_pairs (pair_in g) p)) groups
  comparisons_rise =
      searchable_from_sorted pairs_total pair_in groups p
      (λ k d from to. ap is_lt (pairs_total.antisymm (pair_in (get_or groups (k + 1) d)) (pair_in (get_or groups k d)) ∙ ap ordering_reverse (are.ascending k (k + 1) d (omega arith) to)))

  -- A binary search finds the group with the pair, or the index where it would be inserted.
  pub searched : (r : Result ℕ ℕ) → IsSearchInRange r (length groups) → IsBinarySearchResult (λ g. compare_pairs (pair_in g) p) groups r
      → record { found : IfOk r (λ at. IsAt groups p at); absent : IfErr r (λ at. IsGapFor groups p at) }
  searched (Ok at) within equal = record { found = record { within = within; same = equal }; absent = tt }
  searched (Err at) within parted = record {
    found = tt;
    absent = record {
      within = within;
      smaller = λ j d less. (parted comparisons_rise).0 j d (omega arith) less;
      greater = λ j d least less. (parted comparisons_rise).1 j d least less;
    };
  }

module _ (groups : List GtidGroup) (are : AreGroups groups) (p : Pair) (at : ℕ) (is : IsAt groups p at) where
  none_before_at : NoneBefore groups p at
  none_before_at j d less =
      ap is_eq (sym (alike_right pairs_total (pair_in (get_or groups at d)) p (pair_in (get_or groups j d)) (is.same d)) ∙ are.ascending j at d less is.within)

  pub found_at : (d : GtidGroup) → intervals_of groups p ≡ (get_or groups at d).gnos
  found_at d = lookup_present groups p at d is none_before_at

module _ (groups : List GtidGroup) (p : Pair) (at : ℕ) (gap : IsGapFor groups p at) where
  none_before_gap : NoneBefore groups p at
  none_before_gap j d less = ap is_eq (gap.smaller j d less)

  none_of_pair : NoneBefore groups p (length groups)
  none_of_pair j d less = grind (arith, gap.smaller j d, gap.greater j d)

  pub not_found : intervals_of groups p ≡ []
  not_found = lookup_absent groups p none_of_pair

-- A pair that is after that of the last group would be inserted at the end.
pub after_last : (groups : List GtidGroup) → AreGroups groups → (p : Pair) (last : GtidGroup) → 0 < length groups → last ≡ get_or groups (length groups - 1) last
    → compare_pairs (pair_in last) p ≡ Less → IsGapFor groups p (length groups)
after_last groups are p last some last_is less =
    let there : (d : GtidGroup) → compare_pairs (pair_in (get_or groups (length groups - 1) d)) p ≡ Less = λ d.
    ap (λ (g : GtidGroup). compare_pairs (pair_in g) p) (sym (get_or_read groups (length groups - 1) last (omega arith) last_is d)) ∙ less in
    record {
      within = omega arith;
      smaller = λ j d within. elim (cases_lt j (length groups - 1)) [
        | inl before ↦ pairs_total.trans (pair_in (get_or groups j d)) (pair_in (get_or groups (length groups - 1) d)) p (are.ascending j (length groups - 1) d before (omega arith)) (there d)
        | inr after ↦ (let same : j ≡ length groups - 1 = omega arith in rw same (there d))
      ];
      greater = λ j d least within. absurd (omega arith);
    }

-- ---- inserting numbers

abbrev pub interval : ℕ → ℕ → GnoInterval
interval s e = record { start = s; end = e }

-- the new groups contain the old numbers, and those that pass a test under a pair
abbrev pub Added : List GtidGroup → List GtidGroup → Pair → (ℕ → Bool) → Type 0
Added old new p h = (q : Pair) (n : ℕ) → is_tracked new q n ≡ ((is_same p q && h n) || is_tracked old q n)

-- the same for the numbers of an interval
abbrev pub Inserted : List GtidGroup → List GtidGroup → Pair → ℕ → ℕ → Type 0
Inserted old new p s e = Added old new p (is_within (interval s e))

some_from_held : (is : List GnoInterval) (n : ℕ) → is_held is n ≡ true → 0 < length is
some_from_held [] n h = absurd cc
some_from_held (i ∷ is) n h = omega arith

starts_within : (s e : ℕ) → s < e → is_within (interval s e) s ≡ true
starts_within s e some = rw (le-leb s s (omega arith), lt-ltb s e some) refl

or_false : (a : Bool) → (a || false) ≡ a
or_false true = refl
or_false false = refl

pairs_kept : (groups : List GtidGroup) (g : GtidGroup) (at j : ℕ) (d : GtidGroup) → at < length groups → ((d : GtidGroup) → pair_in (get_or groups at d) ≡ pair_in g)
    → pair_in (get_or (set groups at g) j d) ≡ pair_in (get_or groups j d)
pairs_kept [] g at j d within same = absurd (omega arith)
pairs_kept (x ∷ groups) g zero zero d within same = sym (same d)
pairs_kept (x ∷ groups) g zero (suc j) d within same = refl
pairs_kept (x ∷ groups) g (suc at) zero d within same = refl
pairs_kept (x ∷ groups) g (suc at) (suc j) d within same = pairs_kept groups g at j d (omega arith) same

filled_set : (groups : List GtidGroup) (g : GtidGroup) (at : ℕ) → 0 < length g.gnos → ((i : ℕ) (d : GtidGroup) → i < length groups → 0 < length (get_or groups i d).gnos)
    → (i : ℕ) (d : GtidGroup) → i < length groups → 0 < length (get_or (set groups at g) i d).gnos
filled_set [] g at some filled i d within = absurd (omega arith)
filled_set (x ∷ groups) g zero some filled zero d within = some
filled_set (x ∷ groups) g zero some filled (suc i) d within = filled (suc i) d within
filled_set (x ∷ groups) g (suc at) some filled zero d within = filled zero d within
filled_set (x ∷ groups) g (suc at) some filled (suc i) d within = filled_set groups g at some (λ i d within. filled (suc i) d (omega arith)) i d (omega arith)

length_set : (groups : List GtidGroup) (g : GtidGroup) (at : ℕ) → length (set groups at g) ≡ length groups
length_set [] g at = refl
length_set (x ∷ groups) g zero = refl
length_set (x ∷ groups) g (suc at) = ap suc (length_set groups g at)

set_same : (groups : List GtidGroup) (g : GtidGroup) (at : ℕ) → at < length groups → g ≡ get_or groups at g → set groups at g ≡ groups
set_same [] g at within same = absurd (omega arith)
set_same (x ∷ groups) g zero within same = ap (λ (y : GtidGroup). y ∷ groups) same
set_same (x ∷ groups) g (suc at) within same = ap (λ (rest : List GtidGroup). x ∷ rest) (set_same groups g at (omega arith) same)

module _ (groups : List GtidGroup) (are : AreGroups groups) (p : Pair) (at : ℕ) (is : IsAt groups p at) (old : GtidGroup) (old_is : old ≡ get_or groups at old)
    (g : GtidGroup) (sid : g.sid ≡ old.sid) (tag : g.tag ≡ old.tag) where
  pair_same : pair_in g ≡ pair_in old
  pair_same = rw (sid, tag) refl

  pair_there : (d : GtidGroup) → pair_in (get_or groups at d) ≡ pair_in g
  pair_there d = ap pair_in (sym (get_or_read groups at old is.within old_is d)) ∙ sym pair_same

  own_at : IsAt groups (pair_in g) at
  own_at = record { within = is.within; same = λ d. rw (pair_there d) (tied_itself pairs_total (pair_in g)) }

  same_as : (q : Pair) → is_same (pair_in g) q ≡ is_same p q
  same_as q =
      let tied : compare_pairs (pair_in g) p ≡ Equal = rw (← pair_there old) (is.same old) in
      ap is_eq (pairs_total.congr (pair_in g) p q tied)

  inserted_by : (s e n : ℕ) (q : Pair) (b : Bool) → is_same p q ≡ b → ((n : ℕ) → is_held g.gnos n ≡ (is_within (interval s e) n || is_held old.gnos n))
      → is_held (cond (is_same p q) g.gnos (intervals_of groups q)) n ≡ ((is_same p q && is_within (interval s e) n) || is_tracked groups q n)
  inserted_by s e n q true f held =
      let found : intervals_of groups q ≡ old.gnos = found_at groups are q at (at_same groups p q at f is) old ∙ ap (λ (x : GtidGroup). x.gnos) (sym old_is) in
      rw (f, found) (held n)
  inserted_by s e n q false f held = rw f refl

  pub inserted_at : (s e : ℕ) → ((n : ℕ) → is_held g.gnos n ≡ (is_within (interval s e) n || is_held old.gnos n)) → Inserted groups (set groups at g) p s e
  inserted_at s e held q n =
      ap (λ (is : List GnoInterval). is_held is n) (lookup_set groups g at q is.within pair_there (none_before_at groups are (pair_in g) at own_at)
      ∙ ap (λ (b : Bool). cond b g.gnos (intervals_of groups q)) (same_as q))
      ∙ inserted_by s e n q (is_same p q) refl held

  are_set : 0 < length g.gnos → AreGroups (set groups at g)
  are_set some =
      let same_length = length_set groups g at in
      record {
        ascending = λ i j d less within. rw (pairs_kept groups g at i d is.within pair_there, pairs_kept groups g at j d is.within pair_there) (are.ascending i j d less (omega (arith, same_length)));
        filled = λ i d within. filled_set groups g at some are.filled i d (omega (arith, same_length));
      }

  -- After the insertion, or after its failure.
  pub inserts_at : {T E : Type 0} (r : Result T E) (s e : ℕ) (new : List GtidGroup) → new ≡ set groups at g → OnOk r ((n : ℕ) → is_held g.gnos n ≡ (is_within (interval s e) n || is_held old.gnos n))
      → OnOk r (Inserted groups new p s e)
  inserts_at (Ok x) s e new put held = subst (λ (gs : List GtidGroup). Inserted groups gs p s e) (sym put) (inserted_at s e held)
  inserts_at (Err x) s e new put held = tt

  pub fails_at : {T E : Type 0} (r : Result T E) (new : List GtidGroup) → new ≡ set groups at g → OnErr r (g ≡ old) → OnErr r (new ≡ groups)
  fails_at (Ok x) new put same = tt
  fails_at (Err x) new put same = put ∙ ap (set groups at) same ∙ set_same groups old at is.within old_is

  pub are_at : {T E : Type 0} (r : Result T E) (s e : ℕ) (new : List GtidGroup) → s < e → new ≡ set groups at g
      → OnOk r ((n : ℕ) → is_held g.gnos n ≡ (is_within (interval s e) n || is_held old.gnos n)) → OnErr r (g ≡ old) → AreGroups new
  are_at (Ok x) s e new some put held same =
      subst AreGroups (sym put)
      (are_set (some_from_held g.gnos s (held s ∙ ap (λ (b : Bool). b || is_held old.gnos s) (starts_within s e some))))
  are_at (Err x) s e new some put held same = subst AreGroups (sym (put ∙ ap (set groups at) same ∙ set_same groups old at is.within old_is)) are

module _ (groups : List GtidGroup) (are : AreGroups groups) (p : Pair) (at : ℕ) (gap : IsGapFor groups p at) (h : ℕ → Bool)
    (g : GtidGroup) (some : 0 < length g.gnos) (pair : pair_in g ≡ p) (held : (n : ℕ) → is_held g.gnos n ≡ h n) where
  added_by : (n : ℕ) (q : Pair) (b : Bool) → is_same p q ≡ b
      → is_held (cond (is_same p q) g.gnos (intervals_of groups q)) n ≡ ((is_same p q && h n) || is_tracked groups q n)
  added_by n q true f =
      let none : intervals_of groups q ≡ [] = not_found groups q at (gap_same groups p q at f gap) in
      rw (f, none) (held n ∙ sym (or_false (h n)))
  added_by n q false f = rw f refl

  own_gap : IsGapFor groups (pair_in g) at
  own_gap = subst (λ (q : Pair). IsGapFor groups q at) (sym pair) gap

  pub added_in_gap : Added groups (insert groups at g) p h
  added_in_gap q n =
      ap (λ (is : List GnoInterval). is_held is n) (lookup-insert groups g at q (none_before_gap groups (pair_in g) at own_gap)
      ∙ ap (λ (r : Pair). cond (is_same r q) g.gnos (intervals_of groups q)) pair)
      ∙ added_by n q (is_same p q) refl

  pub are_in_gap : AreGroups (insert groups at g)
  are_in_gap =
      let new = insert groups at g in
      let grown = length-insert groups at g gap.within in
      let own = own_gap in
      let below : (i : ℕ) (d : GtidGroup) → i < at → get_or new i d ≡ get_or groups i d = λ i d less. get_or-insert_below groups at g d i less gap.within in
      let here : (i : ℕ) (d : GtidGroup) → i ≡ at → get_or new i d ≡ g = λ i d is. rw is (get_or-insert_at groups at g d gap.within) in
      let above : (i : ℕ) (d : GtidGroup) → at < i → get_or new i d ≡ get_or groups (i - 1) d = λ i d less.
      subst (λ (q : ℕ). get_or new q d ≡ get_or groups (i - 1) d) {x = i - 1 + 1} (omega arith) (get_or-insert_above groups at g d (i - 1) (omega arith) gap.within) in
      let after : (j : ℕ) (d : GtidGroup) → at ≤ j → j < length groups → compare_pairs (pair_in g) (pair_in (get_or groups j d)) ≡ Less = λ j d least less.
      pairs_total.antisymm (pair_in g) (pair_in (get_or groups j d)) ∙ ap ordering_reverse (own.greater j d least less) in
      record {
        ascending = λ i j d less within.
            grind (arith, below i d, here i d, above i d, below j d, here j d, above j d, are.ascending i j d, are.ascending i (j - 1) d, are.ascending (i - 1) (j - 1) d, own.smaller i d, after (j - 1) d);
        filled = λ i d within. grind (arith, below i d, here i d, above i d, are.filled i d, are.filled (i - 1) d, some);
      }

  -- after the insertion of the group, or after its failure
  pub adds_in_gap : {T E : Type 0} (r : Result T E) (new : List GtidGroup) → OnOk r (new ≡ insert groups at g) → OnOk r (Added groups new p h)
  adds_in_gap (Ok x) new put = subst (λ (gs : List GtidGroup). Added groups gs p h) (sym put) added_in_gap
  adds_in_gap (Err x) new put = tt

  pub are_added : {T E : Type 0} (r : Result T E) (new : List GtidGroup) → OnOk r (new ≡ insert groups at g) → OnErr r (new ≡ groups) → AreGroups new
  are_added (Ok x) new put stays = subst AreGroups (sym put) are_in_gap
  are_added (Err x) new put stays = subst AreGroups (sym stays) are

-- a group with the numbers of an interval isn't empty
pub some_from_interval : (is : List GnoInterval) (s e : ℕ) → s < e → ((n : ℕ) → is_held is n ≡ is_within (interval s e) n) → 0 < length is
some_from_interval is s e some held = some_from_held is s (held s ∙ starts_within s e some)

-- ---- the groups of a pair that is the same, and of the pair of a group

pub same_intervals : (groups : List GtidGroup) (p q : Pair) → is_same p q ≡ true → intervals_of groups p ≡ intervals_of groups q
same_intervals [] p q same = refl
same_intervals (g ∷ groups) p q same =
    let first : is_same (pair_in g) p ≡ is_same (pair_in g) q = ap is_eq (alike_right pairs_total p q (pair_in g) (equal_from_same (compare_pairs p q) same)) in
    rw (first, same_intervals groups p q same) refl

pub own_intervals : (groups : List GtidGroup) → AreGroups groups → (k : ℕ) (g : GtidGroup) → k < length groups → g ≡ get_or groups k g → intervals_of groups (pair_in g) ≡ g.gnos
own_intervals groups are k g within g_is =
    let at : IsAt groups (pair_in g) k = record {
      within = within;
      same = λ d. ap (λ (x : GtidGroup). compare_pairs (pair_in x) (pair_in g)) (sym (get_or_read groups k g within g_is d)) ∙ tied_itself pairs_total (pair_in g);
    } in
    found_at groups are (pair_in g) k at g ∙ ap (λ (x : GtidGroup). x.gnos) (sym g_is)

pub same_itself : (p : Pair) → is_same p p ≡ true
same_itself p = ap is_eq (tied_itself pairs_total p)

-- ---- a group after all others

pub gap_above : (groups : List GtidGroup) (p : Pair) → AreBelow groups p → IsGapFor groups p (length groups)
gap_above groups p below = record { within = omega arith; smaller = below; greater = λ j d least within. absurd (omega arith) }

-- a group appended is a group inserted at the end
pub pushed : (groups : List GtidGroup) (g : GtidGroup) → groups ++ g ∷ [] ≡ insert groups (length groups) g
pushed groups g = rw (take_all (length groups) groups (omega arith), drop_all (length groups) groups (omega arith)) refl

pub below_pushed : (groups : List GtidGroup) (g : GtidGroup) (p : Pair) → AreBelow groups p → compare_pairs (pair_in g) p ≡ Less → AreBelow (groups ++ g ∷ []) p
below_pushed groups g p below less i d within =
    elim (cases_lt i (length groups)) [
      | inl before ↦ rw (get_or_append_left groups (g ∷ []) d i before) (below i d before)
      | inr after ↦ rw (get_or_push groups g d i (omega (arith, length-append groups (g ∷ [])))) less
    ]
