-- What a binary search finds in GTIDs in ascending order.
use Rattle.std.proofs.Common.{◌≡◌, ℕ, Bool, ◌&&◌, eqb, List, length, get_or, Result, Ok, Err, refl, sym, ap, ◌∙◌, inl, inr, arith}
use Rattle.std.specs.Result.{is_ok}
use Rattle.std.specs.List.Sorted.{IsSearchInRange, IsBinarySearchResult, IsNonDecreasingBy}
use Rattle.std.specs.declared.cmp.Ordering.{Ordering}
use Rattle.std.specs.declared.cmp.Ordering.TheVariants.{Less, Equal, Greater}
use Rattle.std.specs.Ordering.{nat_cmp, ordering_then, ordering_index, is_eq}
use Rattle.std.specs.Cmp.{IsTotalOrder, then_total, on_total}
use Rattle.std.proofs.lemmas.Cmp.{nat_cmp_total}
use Rattle.std.proofs.lemmas.List.Folds.{list_any_at, list_any_none}
use Rattle.std.proofs.lemmas.List.Sorted.{searchable_from_sorted}
use Rattle.std.proofs.lemmas.Bool.{cases_lt}
use Rattle.std.proofs.lemmas.Bool.Decides.{nat_tests}
use Rattle.binlog_mariadb.specs.declared.maria_gtid.MariaGtid.{MariaGtid}
use Rattle.binlog_maria_gtids.specs.GtidSets.{is_same_gtid, is_among, compare_gtids, AreInOrder}

pub gtids_total : IsTotalOrder compare_gtids
unfolding compare_gtids
gtids_total =
    then_total (then_total (on_total (λ (g : MariaGtid). g.domain) nat_cmp_total) (on_total (λ (g : MariaGtid). g.server_id) nat_cmp_total))
    (on_total (λ (g : MariaGtid). g.sequence) nat_cmp_total)

both_equal : (a b : Ordering) → is_eq (ordering_then a b) ≡ (is_eq a && is_eq b)
both_equal Less b = refl
both_equal Equal b = refl
both_equal Greater b = refl

number_same : (a b : ℕ) → is_eq (nat_cmp a b) ≡ eqb a b
number_same a b = grind (arith, nat_tests)

-- Two GTIDs are the same exactly if the order says so.
same_by : (g h : MariaGtid) → is_same_gtid g h ≡ is_eq (compare_gtids g h)
unfolding compare_gtids
same_by g h =
    let a = nat_cmp g.domain h.domain in
    let b = nat_cmp g.server_id h.server_id in
    let c = nat_cmp g.sequence h.sequence in
    sym (both_equal (ordering_then a b) c
    ∙ ap (λ (x : Bool). x && is_eq c) (both_equal a b)
    ∙ ap (λ (x : Bool). (x && is_eq b) && is_eq c) (number_same g.domain h.domain)
    ∙ ap (λ (x : Bool). (eqb g.domain h.domain && x) && is_eq c) (number_same g.server_id h.server_id)
    ∙ ap (λ (x : Bool). (eqb g.domain h.domain && eqb g.server_id h.server_id) && x) (number_same g.sequence h.sequence))

same_when : (g h : MariaGtid) (r : Ordering) → compare_gtids g h ≡ r → is_same_gtid g h ≡ is_eq r
same_when g h r is = same_by g h ∙ ap is_eq is

module _ (gs : List MariaGtid) (are : AreInOrder gs) (g : MariaGtid) where
  comparisons_rise : IsNonDecreasingBy (λ h. ordering_index (compare_gtids h g)) gs
  comparisons_rise = searchable_from_sorted gtids_total (λ h. h) gs g are

  -- The search finds the GTID exactly if it is among them.
  pub found_among : (r : Result ℕ ℕ) → IsSearchInRange r (length gs) → IsBinarySearchResult (λ h. compare_gtids h g) gs r → is_ok r ≡ is_among gs g
  found_among (Ok at) within equal =
      sym (list_any_at (λ (h : MariaGtid). is_same_gtid h g) gs at g within (same_when (get_or gs at g) g Equal (equal g)))
  found_among (Err at) within parted =
      let split = parted comparisons_rise in
      sym (list_any_none (λ (h : MariaGtid). is_same_gtid h g) gs (λ j d less. elim (cases_lt j at) [
        | inl before ↦ same_when (get_or gs j d) g Less (split.0 j d (omega arith) before)
        | inr after ↦ same_when (get_or gs j d) g Greater (split.1 j d after less)
      ]))
