-- Rows that have full images are exchanged one after the other.
use Rattle.std.proofs.Common.{◌≡◌, ℕ, ◌+◌, Bool, true, false, List, [], ◌++◌, Option, None, Some, Ok, refl, sym, ◌∙◌, ap, subst, append_assoc}
use Rattle.std.specs.Global.{Vec}
use Rattle.std.specs.Prelude.{◌&&◌, not, IfSome}
use Rattle.binlog_wire.specs.Fields.{IsBytes}
use Rattle.binlog_columns.specs.Metadata.{Typed}
use Rattle.binlog_rows.specs.Columns.{Bitmap}
use Rattle.binlog_rows.specs.RowsData.{event_in}
use Rattle.binlog_rows.specs.declared.rows_event_data.RowsEventData.{RowsEventData}
use Rattle.binlog_images.specs.Cells.{RowShape, RowsShape}
use Rattle.binlog_images.specs.EventRows.{is_partial, GivesRowsOf}
use Rattle.binlog_images.specs.RowsLeft.{row_shape}
use Rattle.binlog_images.specs.declared.rows.Rows.{Rows}
use Rattle.binlog_undo.specs.FullImages.{rows_shape, shape_with, IsFirstRow, sliced_bytes, CanExchange}
use Rattle.binlog_undo.specs.Coverage.{can_undo, completes}
use Rattle.binlog_undo.specs.Outcomes.{GivesUndoing}
use Rattle.binlog_undo.specs.RowBytes.{exchanged}
use Rattle.binlog_undo.specs.Undoing.{Undoes, IsExchangedBy}
use Rattle.binlog_undo.specs.UndoneEvents.{Undone, CanUndoRows}
use Rattle.binlog_undo.specs.declared.full_rows.FullRows.{FullRows}
use Rattle.binlog_undo.specs.declared.full_rows.RowSlices.{RowSlices}
use Rattle.binlog_undo.specs.declared.undoing.Undoing.TheVariants.{Exchange}
use Rattle.binlog_undo.proofs.Covered.{both_true}
use Rattle.binlog_undo.proofs.SoFar.{SoFar, none_so_far, row_so_far, all_so_far}
use Rattle.binlog_undo.proofs.Stored.{first_row_is}
use Rattle.binlog_undo.proofs.UndoneEvents.{event_undone}

-- The rows in front of the rest are undone by these bytes.
pub record ExchangedSoFar (shape : RowShape) (s rest undoing : List ℕ) : Type 0 where
  pub count : ℕ
  pub so_far : SoFar IsExchangedBy shape 0 s count rest undoing

pub none_exchanged : (shape : RowShape) (s undoing : List ℕ) → undoing ≡ [] → IsBytes s → ExchangedSoFar shape s s undoing
none_exchanged shape s undoing none bytes = record { count = 0; so_far = none_so_far IsExchangedBy shape 0 s undoing bytes none }

pub one_exchanged : (shape : RowShape) (s rest undoing mid new : List ℕ) (row : RowSlices) → (IsBytes s → ExchangedSoFar shape s rest undoing) → IsFirstRow shape rest row
    → mid ≡ row.before.now ++ undoing → new ≡ row.after.now ++ mid → IsBytes s → ExchangedSoFar shape s row.rest.now new
one_exchanged shape s rest undoing mid new row h first before after bytes =
    let so = h bytes in
    let is = first_row_is shape rest row so.so_far.fits first in
    let all : new ≡ (row.after.now ++ row.before.now) ++ undoing =
    after ∙ ap (λ (t : List ℕ). row.after.now ++ t) before ∙ sym (append_assoc row.after.now row.before.now undoing) in
    record {
      count = so.count + 1;
      so_far = row_so_far IsExchangedBy shape 0 s so.count rest row.rest.now undoing new (sliced_bytes row) (exchanged (sliced_bytes row)) (first.before.value, first.after.value)
          so.so_far is.0 is.1 is.2 (refl, refl) all;
    }

pub all_exchanged : (shape : RowShape) (s rest undoing result : List ℕ) → (IsBytes s → ExchangedSoFar shape s rest undoing) → rest ≡ [] → result ≡ undoing → IsBytes s
    → Undoes IsExchangedBy shape s result
all_exchanged shape s rest undoing result h none same bytes =
    let so = h bytes in
    subst (λ (t : List ℕ). Undoes IsExchangedBy shape s t) (sym same) (all_so_far IsExchangedBy shape 0 s so.count rest undoing so.so_far none)

-- ---- the same without the bytes

pub record CheckedSoFar (shape : RowShape) (s rest : List ℕ) : Type 0 where
  pub undoing : List ℕ
  pub so_far : ExchangedSoFar shape s rest undoing

pub none_checked : (shape : RowShape) (s : List ℕ) → IsBytes s → CheckedSoFar shape s s
none_checked shape s bytes = record { undoing = []; so_far = none_exchanged shape s [] refl bytes }

pub one_checked : (shape : RowShape) (s rest : List ℕ) (row : RowSlices) → (IsBytes s → CheckedSoFar shape s rest) → IsFirstRow shape rest row → IsBytes s
    → CheckedSoFar shape s row.rest.now
one_checked shape s rest row h first bytes =
    let so = h bytes in
    let mid : List ℕ = row.before.now ++ so.undoing in
    record { undoing = row.after.now ++ mid; so_far = one_exchanged shape s rest so.undoing mid (row.after.now ++ mid) row (λ _. so.so_far) first refl refl bytes }

pub all_checked : (shape : RowShape) (s rest : List ℕ) → (IsBytes s → CheckedSoFar shape s rest) → rest ≡ [] → IsBytes s → CanExchange shape s
all_checked shape s rest h none bytes =
    let so = h bytes in
    record { undoing = so.undoing; undoes = all_exchanged shape s rest so.undoing so.undoing (λ _. so.so_far) none refl bytes }

-- ---- the rows of an event

pub shape_found : (columns : List Typed) (b a : Option Bitmap) (event : RowsEventData) (rows : Rows) (full : Option FullRows) → b ≡ (event_in event).columns.before
    → a ≡ (event_in event).columns.after → GivesRowsOf (is_partial event) columns (event_in event) (Ok rows) → IfSome full (λ f. rows_shape f ≡ shape_with columns b a)
    → IfSome full (λ f. rows_shape f ≡ (row_shape rows).images)
shape_found columns b a event rows (Some f) before after given is =
    is ∙ ap (λ (o : Option Bitmap). shape_with columns o a) before ∙ ap (λ (o : Option Bitmap). shape_with columns (event_in event).columns.before o) after
    ∙ sym (ap (λ (p : RowsShape). p.images) given.1.shape)
shape_found columns b a event rows None before after given is = tt

pub exchanged_found : (rows : Rows) (shape : RowShape) (s : List ℕ) (found : Option (Vec ℕ)) (bytes : Vec ℕ) → shape ≡ (row_shape rows).images → s ≡ rows.rest.now → found ≡ Some bytes
    → IfSome found (λ b. IsBytes s → Undoes IsExchangedBy shape s b.items) → IsBytes rows.rest.now → GivesUndoing IsExchangedBy rows (Ok bytes)
exchanged_found rows shape s found bytes same at is h fits =
    let given : IsBytes s → Undoes IsExchangedBy shape s bytes.items = subst (λ (o : Option (Vec ℕ)). IfSome o (λ b. IsBytes s → Undoes IsExchangedBy shape s b.items)) is h in
    subst (λ (p : RowShape). Undoes IsExchangedBy p rows.rest.now bytes.items) same
    (subst (λ (t : List ℕ). Undoes IsExchangedBy shape t bytes.items) at (given (subst IsBytes (sym at) fits)))

not_true : (b : Bool) → not b ≡ true → b ≡ false
not_true true h = absurd cc
not_true false h = refl

-- The event can be undone.
pub full_undone : (columns : List Typed) (key : List ℕ) (b a : Option Bitmap) (event : RowsEventData) (rows : Rows) (full : FullRows) (s : List ℕ) → b ≡ (event_in event).columns.before
    → a ≡ (event_in event).columns.after → GivesRowsOf (is_partial event) columns (event_in event) (Ok rows)
    → is_partial event ≡ false → can_undo key b a && not (completes b a) ≡ true → rows_shape full ≡ shape_with columns b a → s ≡ rows.rest.now → IsBytes s
    → (IsBytes s → CanExchange (rows_shape full) s) → CanUndoRows key columns event
full_undone columns key b a event rows full s before after given whole can shape at bytes h =
    let both = both_true (can_undo key b a) (not (completes b a)) can in
    let ends : completes b a ≡ false = not_true (completes b a) both.1 in
    let found : CanExchange (rows_shape full) s = h bytes in
    let undone : Undone = record { completes = false; bytes = found.undoing } in
    let same : rows_shape full ≡ (row_shape rows).images = shape_found columns b a event rows (Some full) before after given shape in
    let undoes : Undoes IsExchangedBy (row_shape rows).images rows.rest.now found.undoing =
    subst (λ (p : RowShape). Undoes IsExchangedBy p rows.rest.now found.undoing) same
    (subst (λ (t : List ℕ). Undoes IsExchangedBy (rows_shape full) t found.undoing) at found.undoes) in
    record {
      undone = undone;
      undoes = event_undone Exchange columns key event b a rows undone (can_undo key b a) (is_partial event) before after given refl both.0 refl whole ends
          (sym ends) (λ _. undoes) (subst IsBytes at bytes);
    }
