-- Changes that stay are apart from what is left behind.
use Rattle.std.proofs.Common.{◌≡◌, ℕ, ◌||◌, Bool, true, false, not, List, [], ◌∷◌, ◌++◌, Some, None, refl, ap, subst, ◌∙◌, arith, ltb-false}
use Rattle.std.specs.Prelude.{nat_lt}
use Rattle.std.specs.List.{list_any, flat_map}
use Rattle.change_statistics.specs.Facts.{Name}
use Rattle.table_changes.specs.Changes.{State}
use Rattle.table_changes.specs.Parts.{Logged, undone, kept, KeepsApart}
use Rattle.binlog_later_changes.specs.Apart.{SeenRows, undone_rows, kept_rows, logged_in, AreApart}
use Rattle.binlog_later_changes.specs.KnownRows.{RowImages}
use Rattle.binlog_later_changes.specs.RowKeys.{Values}
use Rattle.binlog_later_changes.specs.RowsLeft.{Left, LeavesRows, removes_left}

pub keeps_both : (first second : List (Logged Name Values)) (old mid new : State Name Values) → KeepsApart first old mid → KeepsApart second mid new → KeepsApart (first ++ second) old new
keeps_both [] second old mid new one two = subst (λ s. KeepsApart second s new) one two
keeps_both (undone change ∷ first) second old mid new one two = (one.0, one.1, keeps_both first second one.0 mid new one.2 two)
keeps_both (kept change ∷ first) second old mid new one two = (one.0, keeps_both first second old mid new one.1 two)

pub undone_kept : (name : Name) (images : List RowImages) (old new : State Name Values) → LeavesRows name images old new → KeepsApart (logged_in (undone_rows name images)) old new
undone_kept name [] old new same = same
undone_kept name ((None, None) ∷ images) old new (mid, one, more) =
    subst (λ s. KeepsApart (logged_in (undone_rows name images)) s new) (one.raises ∙ one.lowers) (undone_kept name images mid new more)
undone_kept name ((None, Some added) ∷ images) old new (mid, one, more) =
    (mid, record { lowered = one.lowered; lowers = one.lowers; raises = one.raises }, undone_kept name images mid new more)
undone_kept name ((Some removed, None) ∷ images) old new (mid, one, more) =
    (mid, record { lowered = one.lowered; lowers = one.lowers; raises = one.raises }, undone_kept name images mid new more)
undone_kept name ((Some removed, Some added) ∷ images) old new (mid, one, more) =
    (mid, record { lowered = one.lowered; lowers = one.lowers; raises = one.raises }, undone_kept name images mid new more)

pub not_true : (b : Bool) → not b ≡ true → b ≡ false
not_true true is = absurd cc
not_true false is = refl

both_false : (a b : Bool) → (a || b) ≡ false → (a ≡ false) × (b ≡ false)
both_false true b is = absurd cc
both_false false b is = (refl, is)

no_count : (count : ℕ) → nat_lt 0 count ≡ false → count ≡ 0
no_count count is = let most = ltb-false 0 count is in omega (arith, most)

pub kept_kept : (name : Name) (images : List RowImages) (counts : State Name Values) → list_any (removes_left counts name) images ≡ false → KeepsApart (logged_in (kept_rows name images)) counts counts
kept_kept name [] counts none = refl
kept_kept name ((None, None) ∷ images) counts none = kept_kept name images counts none
kept_kept name ((None, Some added) ∷ images) counts none = (tt, kept_kept name images counts none)
kept_kept name ((Some removed, None) ∷ images) counts none =
    let parts = both_false (nat_lt 0 (counts name removed)) (list_any (removes_left counts name) images) none in
    (no_count (counts name removed) parts.0, kept_kept name images counts parts.1)
kept_kept name ((Some removed, Some added) ∷ images) counts none =
    let parts = both_false (nat_lt 0 (counts name removed)) (list_any (removes_left counts name) images) none in
    (no_count (counts name removed) parts.0, kept_kept name images counts parts.1)

pub rows_kept_apart : (rows : List SeenRows) (old new : Left) → AreApart rows old new → KeepsApart (flat_map logged_in rows) old.counts new.counts
rows_kept_apart [] old new same = ap (λ (l : Left). l.counts) same
rows_kept_apart (undone_rows name images ∷ rows) old new (mid, leaves, more) =
    keeps_both (logged_in (undone_rows name images)) (flat_map logged_in rows) old.counts mid.counts new.counts (undone_kept name images old.counts mid.counts leaves.0) (rows_kept_apart rows mid new more)
rows_kept_apart (kept_rows name images ∷ rows) old new (apart, more) =
    keeps_both (logged_in (kept_rows name images)) (flat_map logged_in rows) old.counts old.counts new.counts
    (kept_kept name images old.counts (not_true (list_any (removes_left old.counts name) images) apart)) (rows_kept_apart rows old new more)
