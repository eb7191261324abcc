-- The changes of rows, and of their inverse.
use Rattle.std.proofs.Common.{◌≡◌, List, [], ◌∷◌, ◌++◌, map, Option, None, Some, refl, sym, ◌∙◌, ap, subst, append-nil, ℕ, zero, suc, length, arith}
use Rattle.std.specs.Prelude.{option_map, slice_index_or}
use Rattle.std.specs.List.{AllByRecursion, filter_map, cons_option}
use Rattle.std.proofs.lemmas.List.{reverse-append}
use Rattle.std.proofs.lemmas.List.Elements.{filter_map-append}
use Rattle.binlog_images.specs.Cells.{Cell, absent, null, value, diff_list, RowCells}
use Rattle.table_changes.specs.Changes.{State, Change, update, AppliesAll, inverse_of, inverse}
use Rattle.table_changes.proofs.Inverses.{inverse-first, all_applied_back}
use Rattle.binlog_undo.specs.RowChanges.{TableRow, updated, completed, change_of, row_changes, inverse_images, inverse_row, inverse_rows, Covers, CoversImages, HasOldColumns}

-- A column that was there comes back, whatever it was updated to.
updated_back : (old new : Cell) → (old ≡ absent → new ≡ absent) → updated (updated old new) old ≡ old
updated_back absent new h = ap (λ (c : Cell). updated absent c) (h refl)
updated_back null new h = refl
updated_back (value meaning content) new h = refl
updated_back (diff_list content) new h = refl

-- And so does a row.
completed_back : (old new : TableRow) → Covers old new → completed (completed old new) old ≡ old
completed_back [] [] h = refl
completed_back [] (new ∷ news) h = absurd h
completed_back (old ∷ olds) [] h = absurd h
completed_back (old ∷ olds) (new ∷ news) h =
    ap (λ (c : Cell). c ∷ completed (completed olds news) olds) (updated_back old new h.0) ∙ ap (λ (cs : TableRow). old ∷ cs) (completed_back olds news h.1)

-- A column that the image after doesn't have stays.
pub absent_stays : (old new : TableRow) (k : ℕ) → length old ≡ length new → slice_index_or new k absent ≡ absent
    → slice_index_or (completed old new) k absent ≡ slice_index_or old k absent
absent_stays [] [] k e h = refl
absent_stays [] (new ∷ news) k e h = absurd (omega (arith, e))
absent_stays (old ∷ olds) [] k e h = absurd (omega (arith, e))
absent_stays (old ∷ olds) (new ∷ news) zero e h = ap (updated old) h
absent_stays (old ∷ olds) (new ∷ news) (suc k) e h = absent_stays olds news k (omega (arith, e)) h

updated_by : (old new : Cell) → ¬ (new ≡ absent) → updated old new ≡ new
updated_by old absent h = absurd (h refl)
updated_by old null h = refl
updated_by old (value meaning content) h = refl
updated_by old (diff_list content) h = refl

-- A column that it has is the one after the update.
pub present_is_new : (old new : TableRow) (k : ℕ) → length old ≡ length new → ¬ (slice_index_or new k absent ≡ absent)
    → slice_index_or (completed old new) k absent ≡ slice_index_or new k absent
present_is_new [] [] k e h = refl
present_is_new [] (new ∷ news) k e h = absurd (omega (arith, e))
present_is_new (old ∷ olds) [] k e h = absurd (omega (arith, e))
present_is_new (old ∷ olds) (new ∷ news) zero e h = updated_by old new h
present_is_new (old ∷ olds) (new ∷ news) (suc k) e h = present_is_new olds news k (omega (arith, e)) h

module _ {Table : Type 0} (table : Table) where
  change_back : (before after : Option TableRow) → CoversImages before after
      → change_of table (inverse_images before after).0 (inverse_images before after).1 ≡ option_map inverse_of (change_of table before after)
  change_back None None h = refl
  change_back None (Some new) h = refl
  change_back (Some old) None h = refl
  change_back (Some old) (Some new) h = ap (λ (row : TableRow). Some (update table (completed old new) row)) (completed_back old new h)

  -- One more change, if there is one.
  inverse-cons : (change : Option (Change Table TableRow)) (changes : List (Change Table TableRow))
      → inverse (cons_option change changes) ≡ inverse changes ++ cons_option (option_map inverse_of change) []
  inverse-cons None changes = sym (append-nil (inverse changes))
  inverse-cons (Some change) changes = inverse-first change changes

  pub changes_back : (rows : List RowCells) → AllByRecursion HasOldColumns rows → row_changes table (inverse_rows rows) ≡ inverse (row_changes table rows)
  changes_back [] h = refl
  changes_back (row ∷ rows) h =
      let change : RowCells → Option (Change Table TableRow) = λ other. change_of table other.0 other.1 in
      ap (filter_map change) (reverse-append (inverse_row row ∷ []) (map inverse_row rows))
      ∙ filter_map-append change (inverse_rows rows) (inverse_row row ∷ [])
      ∙ ap (λ (changes : List (Change Table TableRow)). changes ++ cons_option (change (inverse_row row)) []) (changes_back rows h.1)
      ∙ ap (λ (other : Option (Change Table TableRow)). inverse (row_changes table rows) ++ cons_option other []) (change_back row.0 row.1 h.0)
      ∙ sym (inverse-cons (change row) (row_changes table rows))

  pub rows_lead_back : (rows : List RowCells) (old new : State Table TableRow) → AllByRecursion HasOldColumns rows
      → AppliesAll (row_changes table rows) old new → AppliesAll (row_changes table (inverse_rows rows)) new old
  rows_lead_back rows old new h a =
      subst (λ (changes : List (Change Table TableRow)). AppliesAll changes new old) (sym (changes_back rows h)) (all_applied_back (row_changes table rows) old new a)
