-- Sets with the same GTIDs have the same groups.
use Rattle.std.proofs.Common.{◌≡◌, ℕ, zero, suc, ◌<◌, ◌≤◌, Bool, true, false, inl, inr, List, [], ◌∷◌, length, get_or, Option, Some, None, refl, sym, ap, subst, ◌∙◌, arith}
use Rattle.std.specs.declared.cmp.Ordering.{Ordering}
use Rattle.std.specs.declared.cmp.Ordering.TheVariants.{Less, Equal, Greater}
use Rattle.std.specs.Ordering.{nat_cmp, ordering_then, ordering_reverse, is_eq}
use Rattle.std.specs.Cmp.Lexicographic.{slice_cmp}
use Rattle.std.proofs.lemmas.Bool.{cases_lt}
use Rattle.std.proofs.lemmas.Bool.Decides.{nat_tests}
use Rattle.std.proofs.lemmas.Map.Lookups.{exact_bytes}
use Rattle.binlog_variable_fields.specs.declared.gno_interval.GnoInterval.{GnoInterval}
use Rattle.binlog_gtids.specs.GnoSets.{is_within, is_held, AreApart}
use Rattle.binlog_gtid_sets.specs.declared.gtid_group.GtidGroup.{GtidGroup}
use Rattle.binlog_gtid_sets.specs.GtidGroups.{Pair, pair_in, tag_text, compare_pairs, is_same, intervals_of, is_tracked, AreGroups}
use Rattle.binlog_gtid_sets.proofs.GtidGroups.{pairs_total, lookup_absent, own_intervals}
use Rattle.binlog_gtid_sets.proofs.GtidDifferences.{tail_groups, after_first}
use Rattle.binlog_gtid_text.specs.Laws.Printing.{IsTagIfAny, IsWritable, AreWritable}

-- ---- intervals

abbrev SameNumbers : List GnoInterval → List GnoInterval → Type 0
SameNumbers is js = (n : ℕ) → is_held is n ≡ is_held js n

before_interval : (i : GnoInterval) (n : ℕ) → n < i.start → is_within i n ≡ false
before_interval i n less = grind (arith, nat_tests)

in_interval : (i : GnoInterval) (n : ℕ) → i.start ≤ n → n < i.end → is_within i n ≡ true
in_interval i n least less = grind (arith, nat_tests)

after_interval : (i : GnoInterval) (n : ℕ) → i.end ≤ n → is_within i n ≡ false
after_interval i n least = grind (arith, nat_tests)

not_below : (is : List GnoInterval) (low n : ℕ) → AreApart low is → n ≤ low → is_held is n ≡ false
not_below [] low n apart le = refl
not_below (i ∷ is) low n apart le = let out = before_interval i n (omega (arith, apart.0)) in rw out (not_below is i.end n apart.3 (omega (arith, apart.0, apart.1)))

first_in : (i : GnoInterval) (is : List GnoInterval) → i.start < i.end → is_held (i ∷ is) i.start ≡ true
first_in i is some = let inside = in_interval i i.start (omega arith) some in rw inside refl

module _ (i j : GnoInterval) (is js : List GnoInterval) (low below : ℕ) (h : AreApart low (i ∷ is)) (g : AreApart below (j ∷ js)) (same : SameNumbers (i ∷ is) (j ∷ js)) where
  not_earlier : i.start < j.start → ⊥
  not_earlier less =
      let held : is_held (i ∷ is) i.start ≡ true = first_in i is h.1 in
      let out = before_interval j i.start less in
      let absent : is_held (j ∷ js) i.start ≡ false = rw out (not_below js j.end i.start g.3 (omega (arith, g.1))) in
      let both = same i.start in
      absurd cc

  not_shorter : i.start ≡ j.start → i.end < j.end → ⊥
  not_shorter starts less =
      let inside = in_interval j i.end (omega (arith, h.1)) less in
      let held : is_held (j ∷ js) i.end ≡ true = rw inside refl in
      let out = after_interval i i.end (omega arith) in
      let absent : is_held (i ∷ is) i.end ≡ false = rw out (not_below is i.end i.end h.3 (omega arith)) in
      let both = same i.end in
      absurd cc

equal_unless : (m n : ℕ) → (m < n → ⊥) → (n < m → ⊥) → m ≡ n
equal_unless m n f g = elim (cases_lt m n) [
  | inl less ↦ absurd (f less)
  | inr least ↦ elim (cases_lt n m) [ inl more ↦ absurd (g more) | inr most ↦ omega arith ]
]

rest_same : (i j : GnoInterval) (is js : List GnoInterval) → i.end ≡ j.end → AreApart i.end is → AreApart j.end js → SameNumbers (i ∷ is) (j ∷ js) → SameNumbers is js
rest_same i j is js ends h g same n = elim (cases_lt n i.end) [
  | inl before ↦ not_below is i.end n h (omega arith) ∙ sym (not_below js j.end n g (omega arith))
  | inr after ↦ (
      let out = after_interval i n after in
      let out_too = after_interval j n (omega arith) in
      rw (out, out_too) at (same n))
]

-- intervals in order and apart are determined by their numbers
one_list : (is js : List GnoInterval) (low : ℕ) → AreApart low is → AreApart low js → SameNumbers is js → is ≡ js
one_list [] [] low h g same = refl
one_list [] (j ∷ js) low h g same = absurd (let held = first_in j js g.1 in let both = same j.start in cc)
one_list (i ∷ is) [] low h g same = absurd (let held = first_in i is h.1 in let both = same i.start in cc)
one_list (i ∷ is) (j ∷ js) low h g same =
    let turned : SameNumbers (j ∷ js) (i ∷ is) = λ n. sym (same n) in
    let starts : i.start ≡ j.start = equal_unless i.start j.start (not_earlier i j is js low low h g same) (not_earlier j i js is low low g h turned) in
    let ends : i.end ≡ j.end = equal_unless i.end j.end (not_shorter i j is js low low h g same starts) (not_shorter j i js is low low g h turned (sym starts)) in
    let rest : is ≡ js = one_list is js i.end h.3 (subst (λ (e : ℕ). AreApart e js) (sym ends) g.3) (rest_same i j is js ends h.3 g.3 same) in
    ap (λ (s : ℕ). record { start = s; end = i.end } ∷ is) starts ∙ ap (λ (e : ℕ). record { start = j.start; end = e } ∷ is) ends ∙ ap (λ (xs : List GnoInterval). j ∷ xs) rest

-- ---- groups

abbrev pub SameGtids : List GtidGroup → List GtidGroup → Type 0
SameGtids a b = (q : Pair) (n : ℕ) → is_tracked a q n ≡ is_tracked b q n

some_held : (is : List GnoInterval) (low : ℕ) → AreApart low is → 0 < length is → (n : ℕ) × (is_held is n ≡ true)
some_held [] low apart some = absurd (omega arith)
some_held (i ∷ is) low apart some = (i.start, first_in i is apart.1)

-- a number of the first group
first_tracked : (g : GtidGroup) (groups : List GtidGroup) → AreGroups (g ∷ groups) → IsWritable g → (n : ℕ) × (is_tracked (g ∷ groups) (pair_in g) n ≡ true)
first_tracked g groups are is =
    let held = some_held g.gnos 0 is.gnos (are.filled 0 g (omega arith)) in
    (held.0, ap (λ (is : List GnoInterval). is_held is held.0) (own_intervals (g ∷ groups) are 0 g (omega arith) refl) ∙ held.1)

not_same_above : (p q : Pair) → compare_pairs p q ≡ Less → is_same q p ≡ false
not_same_above p q less = ap is_eq (pairs_total.antisymm q p ∙ ap ordering_reverse less)

module _ (h : GtidGroup) (hs : List GtidGroup) (are : AreGroups (h ∷ hs)) (p : Pair) (less : compare_pairs p (pair_in h) ≡ Less) where
  below_all : (j : ℕ) (d : GtidGroup) → j < length (h ∷ hs) → compare_pairs p (pair_in (get_or (h ∷ hs) j d)) ≡ Less
  below_all zero d within = less
  below_all (suc j) d within = pairs_total.trans p (pair_in h) (pair_in (get_or hs j d)) less (are.ascending 0 (suc j) d (omega arith) within)

  below_first : intervals_of (h ∷ hs) p ≡ []
  below_first = lookup_absent (h ∷ hs) p (λ j d within. not_same_above p (pair_in (get_or (h ∷ hs) j d)) (below_all j d within))

-- the first group isn't below the other's
not_lower : (g h : GtidGroup) (gs hs : List GtidGroup) → AreGroups (g ∷ gs) → AreGroups (h ∷ hs) → IsWritable g → SameGtids (g ∷ gs) (h ∷ hs) → compare_pairs (pair_in g) (pair_in h) ≡ Less → ⊥
not_lower g h gs hs are are_too is same less =
    let there = first_tracked g gs are is in
    let held : is_tracked (g ∷ gs) (pair_in g) there.0 ≡ true = there.1 in
    let absent : is_tracked (h ∷ hs) (pair_in g) there.0 ≡ false = ap (λ (is : List GnoInterval). is_held is there.0) (below_first h hs are_too (pair_in g) less) in
    let both = same (pair_in g) there.0 in
    absurd cc

equal_by : (p q : Pair) (r : Ordering) → compare_pairs p q ≡ r → (compare_pairs p q ≡ Less → ⊥) → (compare_pairs q p ≡ Less → ⊥) → compare_pairs p q ≡ Equal
equal_by p q Less f low high = absurd (low f)
equal_by p q Equal f low high = f
equal_by p q Greater f low high = absurd (high (pairs_total.antisymm q p ∙ ap ordering_reverse f))

both_equal : (a b : Ordering) → ordering_then a b ≡ Equal → (a ≡ Equal) × (b ≡ Equal)
both_equal Less b h = absurd cc
both_equal Equal b h = (refl, h)
both_equal Greater b h = absurd cc

pair_parts : (p q : Pair) → compare_pairs p q ≡ Equal → (p.sid ≡ q.sid) × (p.tag ≡ q.tag)
unfolding compare_pairs
pair_parts p q h =
    let both = both_equal (slice_cmp nat_cmp p.sid q.sid) (slice_cmp nat_cmp p.tag q.tag) h in
    (exact_bytes p.sid q.sid both.0, exact_bytes p.tag q.tag both.1)

same_tag : (a b : Option (List ℕ)) → IsTagIfAny a → IsTagIfAny b → tag_text a ≡ tag_text b → a ≡ b
same_tag None None h g same = refl
same_tag None (Some []) h g same = absurd cc
same_tag None (Some (b ∷ t)) h g same = absurd cc
same_tag (Some []) None h g same = absurd cc
same_tag (Some (b ∷ t)) None h g same = absurd cc
same_tag (Some s) (Some t) h g same = ap (λ (x : List ℕ). Some x) same

module _ (g h : GtidGroup) (gs hs : List GtidGroup) (are : AreGroups (g ∷ gs)) (are_too : AreGroups (h ∷ hs)) (is : IsWritable g) (is_too : IsWritable h) (same : SameGtids (g ∷ gs) (h ∷ hs)) where
  same_pair : (pair_in g).sid ≡ (pair_in h).sid × (pair_in g).tag ≡ (pair_in h).tag
  same_pair =
      pair_parts (pair_in g) (pair_in h)
      (equal_by (pair_in g) (pair_in h) (compare_pairs (pair_in g) (pair_in h)) refl (not_lower g h gs hs are are_too is same) (not_lower h g hs gs are_too are is_too (λ q n. sym (same q n))))

  one_pair : pair_in g ≡ pair_in h
  one_pair = ap (λ (s : List ℕ). record { sid = s; tag = tag_text g.tag }) same_pair.0 ∙ ap (λ (t : List ℕ). record { sid = h.sid; tag = t }) same_pair.1

  one_gnos : g.gnos ≡ h.gnos
  one_gnos =
      one_list g.gnos h.gnos 0 is.gnos is_too.gnos (λ n. ap (λ (xs : List GnoInterval). is_held xs n) (sym (own_intervals (g ∷ gs) are 0 g (omega arith) refl))
      ∙ same (pair_in g) n
      ∙ ap (λ (p : Pair). is_tracked (h ∷ hs) p n) one_pair
      ∙ ap (λ (xs : List GnoInterval). is_held xs n) (own_intervals (h ∷ hs) are_too 0 h (omega arith) refl))

  one_group : g ≡ h
  one_group =
      ap (λ (s : List ℕ). record { sid = s; tag = g.tag; gnos = g.gnos }) same_pair.0
      ∙ ap (λ (t : Option (List ℕ)). record { sid = h.sid; tag = t; gnos = g.gnos }) (same_tag g.tag h.tag is.tag is_too.tag same_pair.1)
      ∙ ap (λ (xs : List GnoInterval). record { sid = h.sid; tag = h.tag; gnos = xs }) one_gnos

module _ (g : GtidGroup) (gs hs : List GtidGroup) (are : AreGroups (g ∷ gs)) (are_too : AreGroups (g ∷ hs)) (same : SameGtids (g ∷ gs) (g ∷ hs)) where
  later_by : (q : Pair) (n : ℕ) (b : Bool) → is_same (pair_in g) q ≡ b → is_tracked gs q n ≡ is_tracked hs q n
  later_by q n true f = ap (λ (is : List GnoInterval). is_held is n) (after_first g gs q are f ∙ sym (after_first g hs q are_too f))
  later_by q n false f = rw f at (same q n)

  later_same : SameGtids gs hs
  later_same q n = later_by q n (is_same (pair_in g) q) refl

-- groups are determined by their GTIDs
pub one_set : (a b : List GtidGroup) → AreGroups a → AreGroups b → AreWritable a → AreWritable b → SameGtids a b → a ≡ b
one_set [] [] are are_too is is_too same = refl
one_set [] (h ∷ hs) are are_too is is_too same = absurd (let there = first_tracked h hs are_too is_too.0 in let held = there.1 in let both = same (pair_in h) there.0 in cc)
one_set (g ∷ gs) [] are are_too is is_too same = absurd (let there = first_tracked g gs are is.0 in let held = there.1 in let both = same (pair_in g) there.0 in cc)
one_set (g ∷ gs) (h ∷ hs) are are_too is is_too same =
    let first : g ≡ h = one_group g h gs hs are are_too is.0 is_too.0 same in
    let are_here : AreGroups (g ∷ hs) = subst (λ (x : GtidGroup). AreGroups (x ∷ hs)) (sym first) are_too in
    let same_here : SameGtids (g ∷ gs) (g ∷ hs) = subst (λ (x : GtidGroup). SameGtids (g ∷ gs) (x ∷ hs)) (sym first) same in
    let rest : gs ≡ hs = one_set gs hs (tail_groups g gs are) (tail_groups h hs are_too) is.1 is_too.1 (later_same g gs hs are are_here same_here) in
    ap (λ (x : GtidGroup). x ∷ gs) first ∙ ap (λ (xs : List GtidGroup). h ∷ xs) rest
