-- The changes of the event that undoes another one are the inverse of its changes.
use Rattle.std.proofs.Common.{◌≡◌, ℕ, Bool, true, false, not, List, [], ◌∷◌, ◌++◌, length, map, reverse, Option, None, Some, Result, Ok, Err, refl, sym, ◌∙◌, ap, subst, append_assoc, arith}
use Rattle.std.specs.List.{AllZip, flat_map}
use Rattle.std.proofs.lemmas.List.{length-append, append_cancel_right, map-append, reverse-append}
use Rattle.binlog_wire.specs.Formats.{Format, anywhere}
use Rattle.binlog_wire.specs.Reading.{Read}
use Rattle.binlog_columns.specs.Metadata.{Typed}
use Rattle.binlog_rows.specs.Columns.{Bitmap}
use Rattle.binlog_rows.specs.RowsData.{event_in}
use Rattle.binlog_rows.specs.declared.rows_event.RowsEvent.{RowsEvent}
use Rattle.binlog_rows.specs.declared.rows_event_data.RowsEventData.{RowsEventData}
use Rattle.binlog_rows.specs.declared.rows_event_data.RowsEventData.TheVariants as types
use Rattle.binlog_images.specs.Cells.{RowShape, RowCells, image_if, whole, shape_as}
use Rattle.binlog_images.specs.EventRows.{is_partial}
use Rattle.binlog_images.specs.Events.{event_shape}
use Rattle.binlog_images.specs.Splits.{AreRows}
use Rattle.binlog_images.specs.declared.rows_error.RowsError.{RowsError}
use Rattle.binlog_images.proofs.Splits.{one_way}
use Rattle.table_changes.specs.Changes.{State, Change, AppliesAll, inverse}
use Rattle.table_changes.proofs.Inverses.{all_applied_back}
use Rattle.binlog_undo.specs.Coverage.{covers, can_undo, completes}
use Rattle.binlog_undo.specs.EventChanges.{HasChanges}
use Rattle.binlog_undo.specs.InverseEvents.{inverse_parts, inverse_event, UndoesEvent}
use Rattle.binlog_undo.specs.RowBytes.{Encodes, RowBytes, row_bytes, IsRowBytes, exchanged_shape, exchanged, exchanged_row}
use Rattle.binlog_undo.specs.RowChanges.{TableRow, row_changes, inverse_rows}
use Rattle.binlog_undo.specs.Undoing.{Undoes, IsExchangedBy}
use Rattle.binlog_undo.specs.UndoneEvents.{undone_shape, IsUndone}
use Rattle.binlog_undo.specs.declared.inverse_event.ForeignKeyChecks.{ForeignKeyChecks}
use Rattle.binlog_undo.proofs.Covered.{both_true}
use Rattle.binlog_undo.proofs.InverseEvents.{parts_are}
use Rattle.binlog_undo.proofs.RowBytes.{exchange_each, zip_reversed}
use Rattle.binlog_undo.proofs.RowChanges.{changes_back}

-- ---- the rows of the inverse event

-- Rows that aren't refused.
abbrev given : List RowCells → List (Result RowCells RowsError)
given rows = map (λ row. Ok row) rows

given_one : (xs ys : List RowCells) → given xs ≡ given ys → xs ≡ ys
given_one [] [] e = refl
given_one [] (y ∷ ys) e = absurd cc
given_one (x ∷ xs) [] e = absurd cc
given_one (x ∷ xs) (y ∷ ys) e =
    let first : x ≡ y = cc in
    let others : given xs ≡ given ys = cc in
    ap (λ (z : RowCells). z ∷ xs) first ∙ ap (λ (zs : List RowCells). y ∷ zs) (given_one xs ys others)

shape_is : (completed : Bool) (checks : ForeignKeyChecks) (undone : List ℕ) (columns : List Typed) (event : RowsEvent)
    → event_shape columns (inverse_parts completed checks undone event) ≡ undone_shape completed (event_shape columns event)
shape_is false checks undone columns event = refl
shape_is true checks undone columns event = refl

is_whole : (completed : Bool) (checks : ForeignKeyChecks) (undone : List ℕ) (event : RowsEventData) → is_partial (inverse_event completed checks undone event) ≡ false
is_whole completed checks undone (types.WriteRowsEventV1 event) = refl
is_whole completed checks undone (types.UpdateRowsEventV1 event) = refl
is_whole completed checks undone (types.DeleteRowsEventV1 event) = refl
is_whole completed checks undone (types.WriteRowsEvent event) = refl
is_whole completed checks undone (types.UpdateRowsEvent event) = refl
is_whole completed checks undone (types.DeleteRowsEvent event) = refl
is_whole completed checks undone (types.PartialUpdateRowsEvent event) = refl

-- These are rows of the event.
abbrev HasRows : List Typed → RowsEventData → List RowCells → Type 0
HasRows columns event rows = AreRows (shape_as (is_partial event) (event_shape columns (event_in event))) 0 (event_in event).rows (given rows)

rows_of_inverse : (completed : Bool) (checks : ForeignKeyChecks) (undone : List ℕ) (columns : List Typed) (event : RowsEventData) (rows : List RowCells)
    → AreRows (whole (undone_shape completed (event_shape columns (event_in event)))) 0 undone (given rows) → HasRows columns (inverse_event completed checks undone event) rows
rows_of_inverse completed checks undone columns event rows h =
    let parts : RowsEvent = inverse_parts completed checks undone (event_in event) in
    let shaped : AreRows (whole (event_shape columns parts)) 0 undone (given rows) =
    subst (λ (shape : RowShape). AreRows (whole shape) 0 undone (given rows)) (sym (shape_is completed checks undone columns (event_in event))) h in
    let here : AreRows (whole (event_shape columns (event_in (inverse_event completed checks undone event)))) 0 (event_in (inverse_event completed checks undone event)).rows (given rows) =
    subst (λ (e : RowsEvent). AreRows (whole (event_shape columns e)) 0 e.rows (given rows)) (sym (parts_are completed checks undone event)) shaped in
    subst (λ (partial : Bool). AreRows (shape_as partial (event_shape columns (event_in (inverse_event completed checks undone event)))) 0 (event_in (inverse_event completed checks undone event)).rows (given rows))
    (sym (is_whole completed checks undone event)) here

-- ---- the changes

module _ {Table : Type 0} (table : Table) (key : List ℕ) (columns : List Typed) (checks : ForeignKeyChecks) (event undoing : RowsEventData) (u : UndoesEvent key columns checks event undoing) where
  -- An event that is undone has changes.
  pub some_changes : (changes : List (Change Table TableRow)) × HasChanges table columns event changes
  some_changes =
      let is = u.undoes.rows in (
        row_changes table is.rows,
        record {
          rows = is.rows;
          are = subst (λ (partial : Bool). AreRows (shape_as partial (event_shape columns (event_in event))) 0 (event_in event).rows (given is.rows)) (sym u.undoes.is_whole) is.are;
          is = refl;
        },
      )

  -- And the event that undoes it has the inverse of them.
  pub inverse_changes : (changes : List (Change Table TableRow)) → HasChanges table columns event changes → HasChanges table columns undoing (inverse changes)
  inverse_changes changes h =
      let is = u.undoes.rows in
      let shape : RowShape = event_shape columns (event_in event) in
      let bytes : List ℕ = (event_in event).rows in
      let whole_rows : AreRows (whole shape) 0 bytes (given h.rows) = subst (λ (partial : Bool). AreRows (shape_as partial shape) 0 bytes (given h.rows)) u.undoes.is_whole h.are in
      let same : h.rows ≡ is.rows = given_one h.rows is.rows (one_way (given h.rows) (given is.rows) (whole shape) 0 bytes whole_rows is.are) in
      record {
        rows = inverse_rows is.rows;
        are = subst (λ (e : RowsEventData). HasRows columns e (inverse_rows is.rows)) (sym u.is)
            (rows_of_inverse u.undone.completes checks u.undone.bytes columns event (inverse_rows is.rows) is.undo);
        is = ap inverse (h.is ∙ ap (row_changes table) same) ∙ sym (changes_back table is.rows is.old);
      }

  -- So it leads back.
  pub changes_lead_back : (changes : List (Change Table TableRow)) (old new : State Table TableRow) → HasChanges table columns event changes → AppliesAll changes old new
      → (back : List (Change Table TableRow)) × HasChanges table columns undoing back × AppliesAll back new old
  changes_lead_back changes old new h a = (inverse changes, inverse_changes changes h, all_applied_back changes old new a)

-- ---- what is undone twice

-- What is left behind a value that was read.
abbrev rest_of : {V : Type 0} → Read V → List ℕ
rest_of (Ok x) = x.1
rest_of (Err d) = []

-- Bytes that encode a value are followed by one rest.
one_rest : {V : Type 0} (f : Format anywhere V) (a b : List ℕ) (x y : V) (r t : List ℕ) → Encodes f a x → Encodes f b y → a ++ r ≡ b ++ t → r ≡ t
one_rest f a b x y r t h k e =
    ap rest_of (sym (f.keeps.complete (a ++ r) x r (h r)) ∙ ap f.reads e ∙ f.keeps.complete (b ++ t) y t (k t))

-- Bytes are the images of rows in one way.
one_split : (shape : RowShape) (xs ys : List RowBytes) (rows others : List RowCells) → AllZip (IsRowBytes shape) xs rows → AllZip (IsRowBytes shape) ys others
    → flat_map row_bytes xs ≡ flat_map row_bytes ys → xs ≡ ys
one_split shape [] [] rows others h k e = refl
one_split shape [] (y ∷ ys) rows [] h k e = absurd k
one_split shape [] (y ∷ ys) rows (other ∷ others) h k e =
    let some = k.0.some in
    absurd (omega (arith, ap length e, length-append (row_bytes y) (flat_map row_bytes ys), some))
one_split shape (x ∷ xs) [] [] others h k e = absurd h
one_split shape (x ∷ xs) [] (row ∷ rows) others h k e =
    let some = h.0.some in
    absurd (omega (arith, ap length e, length-append (row_bytes x) (flat_map row_bytes xs), some))
one_split shape (x ∷ xs) (y ∷ ys) [] others h k e = absurd h
one_split shape (x ∷ xs) (y ∷ ys) (row ∷ rows) [] h k e = absurd k
one_split shape (x ∷ xs) (y ∷ ys) (row ∷ rows) (other ∷ others) h k e =
    let r : List ℕ = flat_map row_bytes xs in
    let t : List ℕ = flat_map row_bytes ys in
    let all : x.before ++ (x.after ++ r) ≡ y.before ++ (y.after ++ t) = sym (append_assoc x.before x.after r) ∙ e ∙ append_assoc y.before y.after t in
    let behind : x.after ++ r ≡ y.after ++ t = one_rest (image_if shape.0) x.before y.before h.0.stored.0 k.0.stored.0 (x.after ++ r) (y.after ++ t) h.0.before k.0.before all in
    let before : x.before ≡ y.before = append_cancel_right x.before y.before (x.after ++ r) (all ∙ ap (λ (s : List ℕ). y.before ++ s) (sym behind)) in
    let rest : r ≡ t = one_rest (image_if shape.1) x.after y.after h.0.stored.1 k.0.stored.1 r t h.0.after k.0.after behind in
    let after : x.after ≡ y.after = append_cancel_right x.after y.after r (behind ∙ ap (λ (s : List ℕ). y.after ++ s) (sym rest)) in
    let first : x ≡ y =
    ap (λ (w : List ℕ). let b : RowBytes = record { before = w; after = x.after } in b) before
    ∙ ap (λ (w : List ℕ). let b : RowBytes = record { before = y.before; after = w } in b) after in
    ap (λ (b : RowBytes). b ∷ xs) first ∙ ap (λ (bs : List RowBytes). y ∷ bs) (one_split shape xs ys rows others h.1 k.1 rest)

others_are : (bytes others : List RowBytes) → AllZip IsExchangedBy bytes others → others ≡ map exchanged bytes
others_are [] [] h = refl
others_are [] (other ∷ others) h = absurd h
others_are (first ∷ bytes) [] h = absurd h
others_are (first ∷ bytes) (other ∷ others) h =
    let one : other ≡ exchanged first =
    ap (λ (w : List ℕ). let b : RowBytes = record { before = w; after = other.after } in b) h.0.0
    ∙ ap (λ (w : List ℕ). let b : RowBytes = record { before = first.after; after = w } in b) h.0.1 in
    ap (λ (b : RowBytes). b ∷ others) one ∙ ap (λ (bs : List RowBytes). exchanged first ∷ bs) (others_are bytes others h.1)

-- The rows with their images exchanged, the last row first.
abbrev back : List RowBytes → List RowBytes
back bytes = reverse (map exchanged bytes)

back-append : (xs ys : List RowBytes) → back (xs ++ ys) ≡ back ys ++ back xs
back-append xs ys = ap reverse (map-append exchanged xs ys) ∙ reverse-append (map exchanged xs) (map exchanged ys)

back_twice : (xs : List RowBytes) → back (back xs) ≡ xs
back_twice [] = refl
back_twice (x ∷ xs) =
    ap back (back-append (x ∷ []) xs) ∙ back-append (back xs) (exchanged x ∷ []) ∙ ap (λ (ys : List RowBytes). x ∷ ys) (back_twice xs)

-- Rows whose images are exchanged twice have their bytes again.
exchanged_twice : (shape : RowShape) (s undone again : List ℕ) → Undoes IsExchangedBy shape s undone → Undoes IsExchangedBy (exchanged_shape shape) undone again → again ≡ s
exchanged_twice shape s undone again h k =
    let made : undone ≡ flat_map row_bytes (back h.bytes) = h.all ∙ ap (λ (bs : List RowBytes). flat_map row_bytes (reverse bs)) (others_are h.bytes h.others h.each) in
    let each : AllZip (IsRowBytes (exchanged_shape shape)) (back h.bytes) (reverse (map exchanged_row h.rows)) =
    zip_reversed (IsRowBytes (exchanged_shape shape)) (map exchanged h.bytes) (map exchanged_row h.rows) (exchange_each shape h.bytes h.rows h.are.each) in
    let same : k.bytes ≡ back h.bytes =
    one_split (exchanged_shape shape) k.bytes (back h.bytes) k.rows (reverse (map exchanged_row h.rows)) k.are.each each (sym k.are.all ∙ made) in
    k.all ∙ ap (λ (bs : List RowBytes). flat_map row_bytes (reverse bs)) (others_are k.bytes k.others k.each)
    ∙ ap (λ (bs : List RowBytes). flat_map row_bytes (back bs)) same ∙ ap (flat_map row_bytes) (back_twice h.bytes) ∙ sym h.are.all

-- Exchanged images aren't completed.
never_completed : (key : List ℕ) (before after : Option Bitmap) → can_undo key before after ≡ true → completes after before ≡ false
never_completed key None None h = refl
never_completed key None (Some after) h = refl
never_completed key (Some before) None h = refl
never_completed key (Some before) (Some after) h = ap not (both_true (covers before after) _ h).0

-- What is undone by exchanged images, and undone again, has the bytes that it had.
pub undone_twice : (key others : List ℕ) (columns : List Typed) (checks again : ForeignKeyChecks) (event undoing redoing : RowsEventData)
    → (u : UndoesEvent key columns checks event undoing) → UndoesEvent others columns again undoing redoing → u.undone.completes ≡ false
    → (event_in redoing).rows ≡ (event_in event).rows
undone_twice key others columns checks again event undoing redoing u v whole =
    let e : RowsEvent = event_in event in
    let shape : RowShape = event_shape columns e in
    let bytes : List ℕ = u.undone.bytes in
    let first : IsUndone false shape e.rows bytes = subst (λ (c : Bool). IsUndone c shape e.rows bytes) whole u.undoes.rows in
    let between : event_in undoing ≡ inverse_parts false checks bytes e =
    ap event_in u.is ∙ parts_are u.undone.completes checks bytes event ∙ ap (λ (c : Bool). inverse_parts c checks bytes e) whole in
    let none : v.undone.completes ≡ false =
    v.undoes.completed ∙ ap (λ (x : RowsEvent). completes x.columns.before x.columns.after) between ∙ never_completed key e.columns.before e.columns.after u.undoes.images in
    let second : IsUndone false (exchanged_shape shape) bytes v.undone.bytes =
    subst (λ (x : RowsEvent). IsUndone false (event_shape columns x) x.rows v.undone.bytes) between
    (subst (λ (c : Bool). IsUndone c (event_shape columns (event_in undoing)) (event_in undoing).rows v.undone.bytes) none v.undoes.rows) in
    ap (λ (d : RowsEventData). (event_in d).rows) v.is ∙ ap (λ (x : RowsEvent). x.rows) (parts_are v.undone.completes again v.undone.bytes undoing)
    ∙ exchanged_twice shape e.rows bytes v.undone.bytes first.bytes second.bytes
