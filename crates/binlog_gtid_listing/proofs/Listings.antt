-- The lines of the groups of a set of GTIDs are determined by the GTIDs.
use Rattle.std.proofs.Common.{◌≡◌, ℕ, zero, suc, ◌<◌, Bool, true, false, List, [], ◌∷◌, ◌++◌, length, get_or, Option, Some, None, refl, sym, ap, subst, ◌∙◌, arith}
use Rattle.std.specs.declared.cmp.Ordering.{Ordering}
use Rattle.std.specs.declared.cmp.Ordering.TheVariants.{Less, Equal, Greater}
use Rattle.std.specs.Ordering.{nat_cmp, ordering_then, ordering_reverse, is_eq}
use Rattle.std.specs.Cmp.Lexicographic.{slice_cmp}
use Rattle.std.proofs.lemmas.Map.Lookups.{exact_bytes}
use Rattle.binlog_variable_fields.specs.declared.gno_interval.GnoInterval.{GnoInterval}
use Rattle.binlog_gtids.specs.GnoSets.{is_held, AreApart}
use Rattle.binlog_gtid_sets.specs.declared.gtid_group.GtidGroup.{GtidGroup}
use Rattle.binlog_gtid_sets.specs.GtidGroups.{Pair, pair_in, tag_text, compare_pairs, is_same, intervals_of, is_tracked, AreGroups}
use Rattle.binlog_gtid_sets.proofs.GtidGroups.{pairs_total, lookup_absent, own_intervals}
use Rattle.binlog_gtid_sets.proofs.GtidDifferences.{tail_groups, after_first}
use Rattle.binlog_gtid_listing.specs.GroupLines.{HasTag, IsGroupLine, AreGroupLines}
use Rattle.binlog_gtid_listing.proofs.Numbers.{within_first, lines_are_one}

abbrev SameGtids : List GtidGroup → List GtidGroup → Type 0
SameGtids groups others = (pair : Pair) (n : ℕ) → is_tracked groups pair n ≡ is_tracked others pair n

-- ---- pairs

both_equal : (a b : Ordering) → ordering_then a b ≡ Equal → (a ≡ Equal) × (b ≡ Equal)
both_equal Less b h = absurd cc
both_equal Equal b h = (refl, h)
both_equal Greater b h = absurd cc

parts_same : (p q : Pair) → compare_pairs p q ≡ Equal → (p.sid ≡ q.sid) × (p.tag ≡ q.tag)
unfolding compare_pairs
parts_same p q tied =
    let both = both_equal (slice_cmp nat_cmp p.sid q.sid) (slice_cmp nat_cmp p.tag q.tag) tied in
    (exact_bytes p.sid q.sid both.0, exact_bytes p.tag q.tag both.1)

-- an empty text is no tag, so that none and the empty text aren't mixed up
tags_same : (a b : Option (List ℕ)) → HasTag a → HasTag b → tag_text a ≡ tag_text b → a ≡ b
tags_same None None h g same = refl
tags_same None (Some []) h g same = absurd cc
tags_same None (Some (b ∷ t)) h g same = absurd cc
tags_same (Some []) None h g same = absurd cc
tags_same (Some (b ∷ t)) None h g same = absurd cc
tags_same (Some s) (Some t) h g same = ap (λ (x : List ℕ). Some x) same

-- ---- the first group

has_number : (is : List GnoInterval) → AreApart 0 is → 0 < length is → (n : ℕ) × (is_held is n ≡ true)
has_number [] apart some = absurd (omega arith)
has_number (i ∷ is) apart some = (i.start, within_first i is i.start (omega arith) apart.1)

-- the numbers of the first group
own_tracked : (g : GtidGroup) (gs : List GtidGroup) → AreGroups (g ∷ gs) → (n : ℕ) → is_tracked (g ∷ gs) (pair_in g) n ≡ is_held g.gnos n
own_tracked g gs are n = ap (λ (is : List GnoInterval). is_held is n) (own_intervals (g ∷ gs) are 0 g (omega arith) refl)

-- a pair before that of the first group has no numbers
module _ (h : GtidGroup) (hs : List GtidGroup) (are : AreGroups (h ∷ hs)) (p : Pair) (less : compare_pairs p (pair_in h) ≡ Less) where
  below_all : (j : ℕ) (d : GtidGroup) → j < length (h ∷ hs) → compare_pairs p (pair_in (get_or (h ∷ hs) j d)) ≡ Less
  below_all zero d within = less
  below_all (suc j) d within = pairs_total.trans p (pair_in h) (pair_in (get_or hs j d)) less (are.ascending 0 (suc j) d (omega arith) within)

  none_below : intervals_of (h ∷ hs) p ≡ []
  none_below =
      lookup_absent (h ∷ hs) p (λ j d within. ap is_eq (pairs_total.antisymm (pair_in (get_or (h ∷ hs) j d)) p ∙ ap ordering_reverse (below_all j d within)))

not_both : (b : Bool) → b ≡ true → b ≡ false → ⊥
not_both b held not_held = cc

-- groups with a line have a number
some_tracked : (g : GtidGroup) (gs : List GtidGroup) (line : List ℕ) → AreGroups (g ∷ gs) → IsGroupLine g.sid g.tag g.gnos line → (n : ℕ) × (is_tracked (g ∷ gs) (pair_in g) n ≡ true)
some_tracked g gs line are is =
    let some = has_number g.gnos is.apart (are.filled 0 g (omega arith)) in
    (some.0, own_tracked g gs are some.0 ∙ some.1)

not_none : (g : GtidGroup) (gs : List GtidGroup) (line : List ℕ) → AreGroups (g ∷ gs) → IsGroupLine g.sid g.tag g.gnos line → SameGtids [] (g ∷ gs) → ⊥
not_none g gs line are is same =
    let some = some_tracked g gs line are is in
    not_both (is_tracked (g ∷ gs) (pair_in g) some.0) some.1 (sym (same (pair_in g) some.0))

not_before : (g h : GtidGroup) (gs hs : List GtidGroup) (line : List ℕ) → AreGroups (g ∷ gs) → AreGroups (h ∷ hs) → IsGroupLine g.sid g.tag g.gnos line → SameGtids (g ∷ gs) (h ∷ hs)
    → compare_pairs (pair_in g) (pair_in h) ≡ Less → ⊥
not_before g h gs hs line a b is same less =
    let some = some_tracked g gs line a is in
    not_both (is_tracked (g ∷ gs) (pair_in g) some.0) some.1
    (same (pair_in g) some.0 ∙ ap (λ (is : List GnoInterval). is_held is some.0) (none_below h hs b (pair_in g) less))

tied_by : (p q : Pair) (r : Ordering) → compare_pairs p q ≡ r → (compare_pairs p q ≡ Less → ⊥) → (compare_pairs q p ≡ Less → ⊥) → compare_pairs p q ≡ Equal
tied_by p q Less is not_less not_more = absurd (not_less is)
tied_by p q Equal is not_less not_more = is
tied_by p q Greater is not_less not_more = absurd (not_more (pairs_total.antisymm q p ∙ ap ordering_reverse is))

module _ (g h : GtidGroup) (gs hs : List GtidGroup) (line other : List ℕ) (a : AreGroups (g ∷ gs)) (b : AreGroups (h ∷ hs))
    (is : IsGroupLine g.sid g.tag g.gnos line) (too : IsGroupLine h.sid h.tag h.gnos other) (same : SameGtids (g ∷ gs) (h ∷ hs)) where
  firsts_tied : compare_pairs (pair_in g) (pair_in h) ≡ Equal
  firsts_tied =
      tied_by (pair_in g) (pair_in h) (compare_pairs (pair_in g) (pair_in h)) refl (not_before g h gs hs line a b is same) (not_before h g hs gs other b a too (λ p n. sym (same p n)))

  parts : (g.sid ≡ h.sid) × (tag_text g.tag ≡ tag_text h.tag)
  parts = parts_same (pair_in g) (pair_in h) firsts_tied

  tags : g.tag ≡ h.tag
  tags = tags_same g.tag h.tag is.tagged too.tagged parts.1

  pairs : pair_in g ≡ pair_in h
  pairs = ap (λ (s : List ℕ). record { sid = s; tag = tag_text g.tag }) parts.0 ∙ ap (λ (t : List ℕ). record { sid = h.sid; tag = t }) parts.1

  numbers : (n : ℕ) → is_held g.gnos n ≡ is_held h.gnos n
  numbers n = sym (own_tracked g gs a n) ∙ same (pair_in g) n ∙ ap (λ (p : Pair). is_tracked (h ∷ hs) p n) pairs ∙ own_tracked h hs b n

  first_lines : line ≡ other
  first_lines =
      let moved : IsGroupLine h.sid h.tag g.gnos line = subst (λ (t : Option (List ℕ)). IsGroupLine h.sid t g.gnos line) tags (subst (λ (s : List ℕ). IsGroupLine s g.tag g.gnos line) parts.0 is) in
      lines_are_one h.sid h.tag g.gnos h.gnos line other moved too numbers

  -- behind the first groups both have the same
  rest_by : (q : Pair) (n : ℕ) (b : Bool) → is_same (pair_in g) q ≡ b → is_tracked gs q n ≡ is_tracked hs q n
  rest_by q n true first =
      let first_too : is_same (pair_in h) q ≡ true = ap (λ (p : Pair). is_same p q) (sym pairs) ∙ first in
      ap (λ (is : List GnoInterval). is_held is n) (after_first g gs q a first ∙ sym (after_first h hs q b first_too))
  rest_by q n false other =
      let other_too : is_same (pair_in h) q ≡ false = ap (λ (p : Pair). is_same p q) (sym pairs) ∙ other in
      rw (other, other_too) at (same q n)

  rests : SameGtids gs hs
  rests q n = rest_by q n (is_same (pair_in g) q) refl

-- ---- all lines

pub all_lines_are_one : (groups others : List GtidGroup) (lines texts : List ℕ) → AreGroups groups → AreGroups others → SameGtids groups others → AreGroupLines groups lines → AreGroupLines others texts
    → lines ≡ texts
all_lines_are_one [] [] lines texts a b same is too = is ∙ sym too
all_lines_are_one [] (h ∷ hs) lines texts a b same is (other, texts_behind, first, rest, whole) = absurd (not_none h hs other b first same)
all_lines_are_one (g ∷ gs) [] lines texts a b same (line, behind, first, rest, whole) too = absurd (not_none g gs line a first (λ p n. sym (same p n)))
all_lines_are_one (g ∷ gs) (h ∷ hs) lines texts a b same (line, behind, first, rest, whole) (other, behind_too, first_too, rest_too, whole_too) =
    let heads : line ≡ other = first_lines g h gs hs line other a b first first_too same in
    let tails : behind ≡ behind_too = all_lines_are_one gs hs behind behind_too (tail_groups g gs a) (tail_groups h hs b) (rests g h gs hs line other a b first first_too same) rest rest_too in
    whole ∙ ap (λ (s : List ℕ). s ++ behind) heads ∙ ap (λ (s : List ℕ). other ++ s) tails ∙ sym whole_too
