-- The rows that undo a row event are the inverse rows.
use Rattle.std.proofs.Common.{◌≡◌, ℕ, Bool, true, false, List, [], ◌∷◌, map, reverse, Option, None, Some, Ok, refl, sym, ◌∙◌, ap, subst}
use Rattle.std.specs.Prelude.{not, option_map}
use Rattle.std.specs.List.{AllByRecursion, AllZip}
use Rattle.binlog_wire.specs.Fields.{IsBytes}
use Rattle.binlog_columns.specs.Metadata.{Typed}
use Rattle.binlog_columns.specs.TableColumns.{columns_of}
use Rattle.binlog_rows.specs.Columns.{Bitmap}
use Rattle.binlog_rows.specs.Images.{bitmap_of}
use Rattle.binlog_rows.specs.RowsData.{event_in}
use Rattle.binlog_rows.specs.declared.rows_event_data.RowsEventData.{RowsEventData}
use Rattle.binlog_images.specs.Cells.{ImageShape, RowShape, RowsShape, RowCells, whole}
use Rattle.binlog_images.specs.EventRows.{is_partial, GivesRowsOf}
use Rattle.binlog_images.specs.Events.{event_shape}
use Rattle.binlog_images.specs.RowsLeft.{row_shape}
use Rattle.binlog_images.specs.Splits.{AreRows}
use Rattle.binlog_images.specs.declared.rows.Rows.{Rows}
use Rattle.binlog_undo.specs.Completion.{IsCompletedBy}
use Rattle.binlog_undo.specs.Coverage.{covers, can_undo, completes}
use Rattle.binlog_undo.specs.Outcomes.{undone_by}
use Rattle.binlog_undo.specs.RowBytes.{RowBytes, IsRowBytes, exchanged_shape, exchanged, exchanged_row, HasSameColumns}
use Rattle.binlog_undo.specs.RowChanges.{inverse_row, inverse_rows, HasOldColumns}
use Rattle.binlog_undo.specs.Undoing.{Undoes, IsExchangedBy}
use Rattle.binlog_undo.specs.UndoneEvents.{IsUndone, IsUndoing, Undone, UndoesRows}
use Rattle.binlog_undo.specs.declared.undoing.Undoing.{Undoing}
use Rattle.binlog_undo.specs.declared.undoing.Undoing.TheVariants.{Exchange, Complete}
use Rattle.binlog_undo.proofs.Completed.{completed_undoes}
use Rattle.binlog_undo.proofs.Covered.{both_true, covers_is, same_is}
use Rattle.binlog_undo.proofs.RowBytes.{bytes_are_rows, zip_reversed, exchange_one}
use Rattle.binlog_undo.proofs.SameColumns.{row_exchanged}

-- What undoes each row makes the inverse rows.
abbrev UndoesEach : (RowBytes → RowBytes → Type 0) → RowShape → RowShape → Type 0
UndoesEach R shape new = (bytes others : RowBytes) (cells : RowCells) → R bytes others → IsRowBytes shape bytes cells → IsRowBytes new others (inverse_row cells) × HasOldColumns cells

module _ (R : RowBytes → RowBytes → Type 0) (shape new : RowShape) (undoes : UndoesEach R shape new) where
  each_undone : (bytes others : List RowBytes) (rows : List RowCells) → AllZip R bytes others → AllZip (IsRowBytes shape) bytes rows
      → AllZip (IsRowBytes new) others (map inverse_row rows) × AllByRecursion HasOldColumns rows
  each_undone [] [] [] r h = (tt, tt)
  each_undone [] [] (row ∷ rows) r h = absurd h
  each_undone [] (other ∷ others) rows r h = absurd r
  each_undone (first ∷ bytes) [] rows r h = absurd r
  each_undone (first ∷ bytes) (other ∷ others) [] r h = absurd h
  each_undone (first ∷ bytes) (other ∷ others) (row ∷ rows) r h =
      let here = undoes first other row r.0 h.0 in
      let more = each_undone bytes others rows r.1 h.1 in
      ((here.0, more.0), (here.1, more.1))

  all_undone : (s undone : List ℕ) → (h : Undoes R shape s undone)
      → AreRows (whole shape) 0 s (map (λ row. Ok row) h.rows) × AreRows (whole new) 0 undone (map (λ row. Ok row) (inverse_rows h.rows)) × AllByRecursion HasOldColumns h.rows
  all_undone s undone h =
      let each = each_undone h.bytes h.others h.rows h.each h.are.each in (
        subst (λ (t : List ℕ). AreRows (whole shape) 0 t (map (λ row. Ok row) h.rows)) (sym h.are.all) (bytes_are_rows shape 0 h.bytes h.rows h.are.each),
        subst (λ (t : List ℕ). AreRows (whole new) 0 t (map (λ row. Ok row) (inverse_rows h.rows))) (sym h.all)
            (bytes_are_rows new 0 (reverse h.others) (inverse_rows h.rows) (zip_reversed (IsRowBytes new) h.others (map inverse_row h.rows) each.0)),
        each.1,
      )

-- Exchanged images undo a row whose images have the same columns.
exchange_undoes : (shape : RowShape) → HasSameColumns shape.0 shape.1 → UndoesEach IsExchangedBy shape (exchanged_shape shape)
exchange_undoes shape same bytes others cells by h =
    let is = row_exchanged shape.0 shape.1 bytes h.stored.0 h.stored.1 h.before h.after same in
    let whole : HasOldColumns cells × (inverse_row cells ≡ exchanged_row cells) =
    subst (λ (row : RowCells). HasOldColumns row × (inverse_row row ≡ exchanged_row row)) h.are is in
    let other : exchanged bytes ≡ others =
    ap (λ (w : List ℕ). let b : RowBytes = record { before = w; after = bytes.before } in b) (sym by.0)
    ∙ ap (λ (w : List ℕ). let b : RowBytes = record { before = others.before; after = w } in b) (sym by.1) in (
      subst (λ (b : RowBytes). IsRowBytes (exchanged_shape shape) b (inverse_row cells)) other
          (subst (λ (row : RowCells). IsRowBytes (exchanged_shape shape) (exchanged bytes) row) (sym whole.1) (exchange_one shape bytes cells h)),
      whole.0,
    )

not_false : (b : Bool) → not b ≡ false → b ≡ true
not_false true h = refl
not_false false h = absurd cc

-- The columns of images that are undone by being exchanged.
same_columns : (columns : List Typed) (key : List ℕ) (before after : Option Bitmap) → can_undo key before after ≡ true → completes before after ≡ false
    → HasSameColumns (option_map (λ (bits : Bitmap). let i : ImageShape = (columns, bits) in i) before) (option_map (λ (bits : Bitmap). let i : ImageShape = (columns, bits) in i) after)
same_columns columns key None after can none = tt
same_columns columns key (Some before) None can none = tt
same_columns columns key (Some before) (Some after) can none =
    let first = both_true (covers before after) _ can in
    (refl, same_is before after first.0 (not_false (covers after before) none))

pub undone_is : (undoing : Undoing) (columns : List Typed) (key : List ℕ) (before after : Option Bitmap) (shape : RowShape) (s undone : List ℕ) (completed : Bool)
    → IsUndoing columns before after undoing → can_undo key before after ≡ true
    → shape ≡ (option_map (λ (bits : Bitmap). let i : ImageShape = (columns, bits) in i) before, option_map (λ (bits : Bitmap). let i : ImageShape = (columns, bits) in i) after)
    → completed ≡ completes before after
    → Undoes (undone_by undoing) shape s undone → IsUndone completed shape s undone
undone_is Exchange columns key before after shape s undone completed is can same of h =
    let none : completed ≡ false = of ∙ is in
    let columns_same : HasSameColumns shape.0 shape.1 =
    subst (λ (p : RowShape). HasSameColumns p.0 p.1) (sym same) (same_columns columns key before after can is) in
    let all = all_undone IsExchangedBy shape (exchanged_shape shape) (exchange_undoes shape columns_same) s undone h in
    subst (λ (c : Bool). IsUndone c shape s undone) (sym none) (record { rows = h.rows; are = all.0; undo = all.1; old = all.2; bytes = h })
undone_is (Complete images) columns key before after shape s undone completed is can same of h =
    let some : completed ≡ true = of ∙ is.0 in
    let b : Bitmap = bitmap_of images.before in
    let a : Bitmap = bitmap_of images.after in
    let table : List Typed = columns_of images.columns in
    let can_too : can_undo key (Some b) (Some a) ≡ true = ap (λ (o : Option Bitmap). can_undo key o (Some a)) (sym is.1) ∙ ap (can_undo key before) (sym is.2) ∙ can in
    let first = both_true (covers b a) _ can_too in
    let is_shape : shape ≡ (Some (table, b), Some (table, a)) =
    same
    ∙ ap (λ (o : Option Bitmap). let p : RowShape = (option_map (λ (bits : Bitmap). let i : ImageShape = (columns, bits) in i) o, option_map (λ (bits : Bitmap). let i : ImageShape = (columns, bits) in i) after) in p) is.1
    ∙ ap (λ (o : Option Bitmap). let p : RowShape = (Some (columns, b), option_map (λ (bits : Bitmap). let i : ImageShape = (columns, bits) in i) o) in p) is.2
    ∙ ap (λ (t : List Typed). let p : RowShape = (Some (t, b), Some (t, a)) in p) (sym is.3) in
    let here : Undoes (IsCompletedBy table b a) (Some (table, b), Some (table, a)) s undone = subst (λ (p : RowShape). Undoes (IsCompletedBy table b a) p s undone) is_shape h in
    let all = all_undone (IsCompletedBy table b a) (Some (table, b), Some (table, a)) (Some (table, b), Some (table, b))
    (λ bytes others cells by row. completed_undoes table b a bytes others cells (covers_is b a first.0) by row) s undone here in
    subst (λ (p : RowShape). IsUndone completed p s undone) (sym is_shape)
    (subst (λ (c : Bool). IsUndone c (Some (table, b), Some (table, a)) s undone) (sym some)
    (record { rows = here.rows; are = all.0; undo = all.1; old = all.2; bytes = here }))

-- The event is undone.
pub event_undone : (undoing : Undoing) (columns : List Typed) (key : List ℕ) (event : RowsEventData) (b a : Option Bitmap) (rows : Rows) (undone : Undone) (can partial : Bool)
    → b ≡ (event_in event).columns.before → a ≡ (event_in event).columns.after → GivesRowsOf (is_partial event) columns (event_in event) (Ok rows)
    → can ≡ can_undo key b a → can ≡ true → partial ≡ is_partial event → partial ≡ false → IsUndoing columns b a undoing → undone.completes ≡ completes b a
    → (IsBytes rows.rest.now → Undoes (undone_by undoing) (row_shape rows).images rows.rest.now undone.bytes) → IsBytes rows.rest.now → UndoesRows key columns event undone
event_undone undoing columns key event b a rows undone can partial before after given can_is can_be partial_is whole_is is completed undoes bytes =
    let old : Option Bitmap = (event_in event).columns.before in
    let new : Option Bitmap = (event_in event).columns.after in
    let may : can_undo key old new ≡ true = ap (λ (o : Option Bitmap). can_undo key o new) (sym before) ∙ ap (can_undo key b) (sym after) ∙ sym can_is ∙ can_be in
    let how : IsUndoing columns old new undoing =
    subst (λ (o : Option Bitmap). IsUndoing columns o new undoing) before (subst (λ (o : Option Bitmap). IsUndoing columns b o undoing) after is) in
    let ends : undone.completes ≡ completes old new = completed ∙ ap (λ (o : Option Bitmap). completes o a) before ∙ ap (completes old) after in
    let shape : (row_shape rows).images ≡ event_shape columns (event_in event) = ap (λ (p : RowsShape). p.images) given.1.shape in
    let all : Undoes (undone_by undoing) (event_shape columns (event_in event)) (event_in event).rows undone.bytes =
    subst (λ (s : List ℕ). Undoes (undone_by undoing) (event_shape columns (event_in event)) s undone.bytes) given.1.bytes
    (subst (λ (p : RowShape). Undoes (undone_by undoing) p rows.rest.now undone.bytes) shape (undoes bytes)) in
    record {
      count = given.0;
      images = may;
      is_whole = sym partial_is ∙ whole_is;
      completed = ends;
      rows = undone_is undoing columns key old new (event_shape columns (event_in event)) (event_in event).rows undone.bytes undone.completes how may refl ends all;
    }
