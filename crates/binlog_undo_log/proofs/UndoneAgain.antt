-- What undoes rows can be undone itself if its images have all columns.
use Rattle.std.proofs.Common.{◌≡◌, ℕ, zero, suc, ◌+◌, Bool, true, false, List, [], ◌∷◌, ◌++◌, length, map, Option, Some, None, Result, Ok, Err, refl, sym, ap, subst, ◌∙◌, inl, inr}
use Rattle.std.specs.Prelude.{◌&&◌, ◌||◌, not, IsOkUnless}
use Rattle.binlog_columns.specs.Metadata.{Typed}
use Rattle.binlog_images.proofs.Splits.{one_way}
use Rattle.binlog_images.specs.Bits.{is_set}
use Rattle.binlog_images.specs.Cells.{RowShape, RowCells, shape_as, whole}
use Rattle.binlog_images.specs.EventRows.{is_partial}
use Rattle.binlog_images.specs.Events.{event_shape, count_error}
use Rattle.binlog_images.specs.Splits.{AreRows}
use Rattle.binlog_images.specs.declared.rows_error.RowsError.{RowsError}
use Rattle.binlog_images.specs.declared.rows_error.RowsEventError.{RowsEventError}
use Rattle.binlog_rows.specs.Columns.{Bitmap}
use Rattle.binlog_rows.specs.RowsData.{event_in}
use Rattle.binlog_rows.specs.declared.rows_columns.RowsColumns.{RowsColumns}
use Rattle.binlog_rows.specs.declared.rows_event_data.RowsEventData.{RowsEventData}
use Rattle.binlog_rows.specs.declared.rows_event_data.RowsEventData.TheVariants as types
use Rattle.binlog_rows.specs.declared.table_map_event.TableMapEvent.{TableMapEvent}
use Rattle.binlog_undo.proofs.EventChanges.{some_changes, inverse_changes}
use Rattle.binlog_undo.proofs.InverseEvents.{parts_are}
use Rattle.binlog_undo.specs.Coverage.{all_from, is_covered, has_all, covers, has_key, can_undo, completes}
use Rattle.binlog_undo.specs.EventChanges.{HasChanges}
use Rattle.binlog_undo.specs.InverseEvents.{inverse_columns, inverse_event, UndoesEvent}
use Rattle.binlog_undo.specs.Undoing.{IsRefused}
use Rattle.binlog_undo.specs.declared.inverse_event.ForeignKeyChecks.{ForeignKeyChecks}
use Rattle.binlog_undo.specs.declared.inverse_event.InverseEvent.{InverseEvent}
use Rattle.binlog_undo.specs.declared.undo_error.UndoError.{UndoError}
use Rattle.binlog_undo.specs.declared.undo_error.UndoError.TheVariants as errors
use Rattle.binlog_undo_log.specs.FullImages.{IsFull, HasFullImages}
use Rattle.binlog_undo_log.specs.Keys.{GivesByKey}

-- ---- the images

or_self : (b : Bool) → (not b || b) ≡ true
or_self true = refl
or_self false = refl

and_rest : (a b : Bool) → a ≡ true → b ≡ true → (a && b) ≡ true
and_rest true b first second = second
and_rest false b first second = absurd cc

or_first : (a b : Bool) → a ≡ true → (a || b) ≡ true
or_first true b is = refl
or_first false b is = absurd cc

itself_from : (bits : Bitmap) (count index : ℕ) → all_from count index (is_covered bits bits) ≡ true
itself_from bits zero index = refl
itself_from bits (suc count) index =
    and_rest (is_covered bits bits index) (all_from count (index + 1) (is_covered bits bits)) (or_self (is_set bits index)) (itself_from bits count (index + 1))

not_false : (b : Bool) → false ≡ not b → b ≡ true
not_false true is = refl
not_false false is = absurd cc

can_again : (completed : Bool) (count : ℕ) (before after : Option Bitmap) → completed ≡ completes before after
    → let columns : RowsColumns = inverse_columns completed (record { count = count; before = before; after = after }) in
    IsFull columns.before → IsFull columns.after → can_undo [] columns.before columns.after ≡ true
can_again true count None after is full other = absurd cc
can_again true count (Some before) None is full other = absurd cc
can_again true count (Some before) (Some after) is full other =
    and_rest (covers before before) (has_all before || has_key before []) (itself_from before before.0 0) (or_first (has_all before) (has_key before []) full)
can_again false count None None is full other = refl
can_again false count None (Some after) is full other = full
can_again false count (Some before) None is full other = or_first (has_all before) (has_key before []) other
can_again false count (Some before) (Some after) is full other =
    and_rest (covers after before) (has_all after || has_key after []) (not_false (covers after before) is) (or_first (has_all after) (has_key after []) full)

-- ---- the rows

no_error : (rows others : List RowCells) (error : RowsError) → ◌≡◌ {A = List (Result RowCells RowsError)} (map (λ row. Ok row) rows) (map (λ row. Ok row) others ++ Err error ∷ []) → ⊥
no_error [] [] error is = cc
no_error [] (other ∷ others) error is = cc
no_error (row ∷ rows) [] error is = cc
no_error (row ∷ rows) (other ∷ others) error is =
    let rest : ◌≡◌ {A = List (Result RowCells RowsError)} (map (λ r. Ok r) rows) (map (λ r. Ok r) others ++ Err error ∷ []) = cc in no_error rows others error rest

not_both : (b : Bool) → b ≡ true → b ≡ false → ⊥
not_both b is other = cc

no_count : (found : Option RowsEventError) (error : RowsEventError) → found ≡ None → found ≡ Some error → ⊥
no_count found error none some = cc

whole_again : (completed : Bool) (checks : ForeignKeyChecks) (undone : List ℕ) (event : RowsEventData) → is_partial (inverse_event completed checks undone event) ≡ false
whole_again completed checks undone (types.WriteRowsEventV1 event) = refl
whole_again completed checks undone (types.UpdateRowsEventV1 event) = refl
whole_again completed checks undone (types.DeleteRowsEventV1 event) = refl
whole_again completed checks undone (types.WriteRowsEvent event) = refl
whole_again completed checks undone (types.UpdateRowsEvent event) = refl
whole_again completed checks undone (types.DeleteRowsEvent event) = refl
whole_again completed checks undone (types.PartialUpdateRowsEvent event) = refl

-- ---- the event

same_count : (completed : Bool) (columns : RowsColumns) (table : ℕ) → count_error (inverse_columns completed columns).count table ≡ count_error columns.count table
same_count true columns table = refl
same_count false columns table = refl

module _ (key : List ℕ) (columns : List Typed) (checks again : ForeignKeyChecks) (event undoing : RowsEventData) (u : UndoesEvent key columns checks event undoing) (full : HasFullImages undoing) where
  its_columns : (event_in undoing).columns ≡ inverse_columns u.undone.completes (event_in event).columns
  its_columns =
      ap (λ (e : RowsEventData). (event_in e).columns) u.is
      ∙ ap (λ e. e.columns) (parts_are u.undone.completes checks u.undone.bytes event)

  its_images : can_undo [] (event_in undoing).columns.before (event_in undoing).columns.after ≡ true
  its_images =
      ap (λ (c : RowsColumns). can_undo [] c.before c.after) its_columns
      ∙ can_again u.undone.completes (event_in event).columns.count (event_in event).columns.before (event_in event).columns.after u.undoes.completed
      (subst (λ (c : RowsColumns). IsFull c.before) its_columns full.before) (subst (λ (c : RowsColumns). IsFull c.after) its_columns full.after)

  its_count : count_error (event_in undoing).columns.count (length columns) ≡ None
  its_count =
      ap (λ (c : RowsColumns). count_error c.count (length columns)) its_columns
      ∙ same_count u.undone.completes (event_in event).columns (length columns) ∙ u.undoes.count

  is_whole_again : is_partial undoing ≡ false
  is_whole_again = ap is_partial u.is ∙ whole_again u.undone.completes checks u.undone.bytes event

  -- Its changes, of a table of any name, show its rows.
  not_refused : (error : RowsError) → IsRefused (event_shape columns (event_in undoing)) 0 (event_in undoing).rows error → ⊥
  not_refused error h =
      let first = some_changes columns key columns checks event undoing u in
      let back = inverse_changes columns key columns checks event undoing u first.0 first.1 in
      let shape : RowShape = event_shape columns (event_in undoing) in
      let bytes : List ℕ = (event_in undoing).rows in
      let are : AreRows (whole shape) 0 bytes (map (λ row. Ok row) back.rows) =
      subst (λ (p : Bool). AreRows (shape_as p shape) 0 bytes (map (λ row. Ok row) back.rows)) is_whole_again back.are in
      no_error back.rows h.rows error (one_way (map (λ row. Ok row) back.rows) (map (λ row. Ok row) h.rows ++ Err error ∷ []) (whole shape) 0 bytes are h.are)

  pub is_accepted_again : (is_maria_log : Bool) (map_event : TableMapEvent) (answer : Result InverseEvent UndoError) → GivesByKey is_maria_log map_event columns again undoing answer
      → IsOkUnless answer errors.Memory
  is_accepted_again is_maria_log map_event answer (inl h) = absurd (not_both (can_undo [] (event_in undoing).columns.before (event_in undoing).columns.after) its_images h.lacks)
  is_accepted_again is_maria_log map_event (Ok inverse) (inr h) = tt
  is_accepted_again is_maria_log map_event (Err errors.Image) (inr h) = absurd h
  is_accepted_again is_maria_log map_event (Err errors.Memory) (inr h) = refl
  is_accepted_again is_maria_log map_event (Err (errors.Event error)) (inr h) = absurd (no_count (count_error (event_in undoing).columns.count (length columns)) error its_count h)
  is_accepted_again is_maria_log map_event (Err (errors.PartialJson row)) (inr h) = absurd (not_both (is_partial undoing) h.0 is_whole_again)
  is_accepted_again is_maria_log map_event (Err (errors.Rows error)) (inr h) = absurd (not_refused error h)
