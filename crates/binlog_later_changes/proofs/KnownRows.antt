-- Rows that are read one after the other.
use Rattle.std.proofs.Common.{◌≡◌, ◌≢◌, ◌⊎◌, inl, inr, ℕ, ◌+◌, Bool, true, false, List, [], ◌∷◌, ◌++◌, length, map, Option, None, Some, Result, Ok, Err, refl, sym, ap, subst, ◌∙◌, append_assoc, append-nil, arith}
use Rattle.std.specs.Prelude.{option_map, not, ◌&&◌, IfOk}
use Rattle.std.specs.List.{AllZip, flat_map}
use Rattle.std.proofs.lemmas.List.{length-append, map-append}
use Rattle.binlog_columns.specs.Metadata.{Typed}
use Rattle.binlog_columns.specs.Refusals.{refusal, columns_in}
use Rattle.binlog_columns.specs.declared.column_error.ColumnError.{ColumnError}
use Rattle.binlog_events.specs.Events.{EventView}
use Rattle.binlog_images.specs.Cells.{Cell, ImageShape, image_if, RowShape, RowsShape, RowCells, whole, shape_as}
use Rattle.binlog_images.specs.EventRows.{is_partial, GivesRowsOf, AreAllRows}
use Rattle.binlog_images.specs.Events.{event_shape, count_error}
use Rattle.binlog_images.specs.RowCells.{row_cells}
use Rattle.binlog_images.specs.RowsLeft.{row_shape}
use Rattle.binlog_images.specs.Splits.{first_row}
use Rattle.binlog_images.specs.StoredColumns.{Stored, column_of, stored_image}
use Rattle.binlog_images.specs.StoredRows.{IsStored, GivesStored}
use Rattle.binlog_images.specs.declared.rows.Rows.{Rows}
use Rattle.binlog_images.specs.declared.rows_error.RowsError.{RowsError}
use Rattle.binlog_images.specs.declared.rows_error.RowsEventError.{RowsEventError}
use Rattle.binlog_images.specs.declared.stored_columns.StoredColumn.{StoredColumn}
use Rattle.binlog_images.specs.declared.stored_row.StoredRow.{StoredRow}
use Rattle.binlog_rows.specs.Columns.{Bitmap}
use Rattle.binlog_rows.specs.Images.{bitmap_of}
use Rattle.binlog_rows.specs.RowsData.{event_in}
use Rattle.binlog_rows.specs.declared.rows_event_data.RowsEventData.{RowsEventData}
use Rattle.binlog_rows.specs.declared.table_map_event.TableMapEvent.{TableMapEvent}
use Rattle.binlog_undo.specs.RowBytes.{Encodes, RowBytes, row_bytes, IsRowBytes}
use Rattle.binlog_undo.specs.Undoing.{IsRefused, stored_bytes}
use Rattle.binlog_undo.proofs.Completed.{never_refused}
use Rattle.binlog_undo.proofs.Covered.{both_true}
use Rattle.binlog_undo.proofs.RowBytes.{zip_one_more}
use Rattle.binlog_undo.proofs.SoFar.{SoFar, refused_so_far}
use Rattle.binlog_undo.proofs.Stored.{stored_is}
use Rattle.binlog_wire.specs.Fields.{IsBytes}
use Rattle.binlog_wire.specs.declared.bit_view.BitView.{BitView}
use Rattle.change_statistics.specs.Facts.{Name}
use Rattle.binlog_later_changes.specs.CompleteRows.{has_all_if, is_complete}
use Rattle.binlog_later_changes.specs.KeyedRows.{Keys, code_of, keys_in, keys_of, shape_if, IsFaultIf, GivesKey, GivesKeyIf, GivesKeys, HasKeys, IsUnread, AreKeys, GivesKnown}
use Rattle.binlog_later_changes.specs.KnownRows.{RowImages, image_of, images_of, BeginsWith, HasImages, GivesImages, HasKnown, KnowsRows, KnowsUnlessRefused, KnowsUnlessOld, KnowsMapped, KnowsIfRows, KnowsRowsIf, HasOldTemporal}
use Rattle.binlog_later_changes.specs.RowKeys.{key_code}
use Rattle.binlog_later_changes.specs.declared.known_rows.KeyedRow.{KeyedRow}
use Rattle.binlog_later_changes.specs.declared.known_rows.RowFault.{RowFault}
use Rattle.binlog_later_changes.specs.declared.known_rows.RowFault.TheVariants.{Unreadable, Memory}
use Rattle.binlog_later_changes.specs.declared.row_key.RowKey.{RowKey}

-- ---- an image and a row

pub key_is : (name : Name) (shown items : List StoredColumn) (columns : List Stored) (code : List ℕ) → code ≡ key_code name (map column_of shown) → shown ≡ items → map column_of items ≡ columns
    → code ≡ key_code name columns
key_is name shown items columns code is same stored = is ∙ ap (λ (l : List StoredColumn). key_code name (map column_of l)) same ∙ ap (key_code name) stored

pub key_there : (name : Name) (shape : ImageShape) (s : List ℕ) (key : RowKey) → GivesKey name shape s (Ok key) → GivesKeyIf name (Some shape) s (Ok (Some key))
key_there name shape s key is = ap (λ (c : List ℕ). Some c) is

pub key_fault : (name : Name) (shape : ImageShape) (s : List ℕ) (fault : RowFault) → GivesKey name shape s (Err fault) → GivesKeyIf name (Some shape) s (Err fault)
key_fault name shape s Unreadable is = is
key_fault name shape s Memory is = tt

pub keys_are : (name : Name) (first second : Option ImageShape) (s t : List ℕ) (stored : StoredRow) (removed added : Option RowKey) → s ≡ stored.before.now → t ≡ stored.after.now
    → GivesKeyIf name first s (Ok removed) → GivesKeyIf name second t (Ok added)
    → GivesKeys name (first, second) (stored_bytes stored) (Ok (record { removed = removed; added = added }))
keys_are name first second s t stored removed added before after is other =
    let one : option_map code_of removed ≡ option_map (key_code name) (image_of first stored.before.now) = is ∙ ap (λ (b : List ℕ). option_map (key_code name) (image_of first b)) before in
    let two : option_map code_of added ≡ option_map (key_code name) (image_of second stored.after.now) = other ∙ ap (λ (b : List ℕ). option_map (key_code name) (image_of second b)) after in
    ap (λ (k : Option (List ℕ)). let x : Keys = (k, option_map code_of added) in x) one
    ∙ ap (λ (k : Option (List ℕ)). let x : Keys = (option_map (key_code name) (image_of first stored.before.now), k) in x) two

pub fault_before : (name : Name) (first second : Option ImageShape) (s : List ℕ) (stored : StoredRow) (fault : RowFault) → s ≡ stored.before.now → GivesKeyIf name first s (Err fault)
    → GivesKeys name (first, second) (stored_bytes stored) (Err fault)
fault_before name first second s stored Unreadable before is = inl (subst (λ (b : List ℕ). IsFaultIf first b) before is)
fault_before name first second s stored Memory before is = tt

pub fault_after : (name : Name) (first second : Option ImageShape) (s : List ℕ) (stored : StoredRow) (fault : RowFault) → s ≡ stored.after.now → GivesKeyIf name second s (Err fault)
    → GivesKeys name (first, second) (stored_bytes stored) (Err fault)
fault_after name first second s stored Unreadable after is = inr (subst (λ (b : List ℕ). IsFaultIf second b) after is)
fault_after name first second s stored Memory after is = tt

-- ---- all rows

-- The rows in front of the rest have these keys. The index of the next row is that of the first one and their number.
pub record ReadSoFar (name : Name) (shape : RowShape) (start : ℕ) (s : List ℕ) (index : ℕ) (rest : List ℕ) (keys : List Keys) : Type 0 where
  pub rows : List RowCells
  pub bytes : List RowBytes
  pub each : AllZip (IsRowBytes shape) bytes rows
  pub split : s ≡ flat_map row_bytes bytes ++ rest
  pub keys_are : keys ≡ map (keys_of name) (map (images_of shape) bytes)
  pub fits : IsBytes rest
  pub at : index ≡ start + length rows

-- An image that is encoded can be read.
readable : (shape : Option ImageShape) (s : List ℕ) (stored : Option (Bitmap × List Cell)) → Encodes (image_if shape) s stored → IsFaultIf shape s → ⊥
readable None s stored is fault = fault
readable (Some shape) s stored is fault = never_refused shape s stored is fault

flat-append : (xs ys : List RowBytes) → flat_map row_bytes (xs ++ ys) ≡ flat_map row_bytes xs ++ flat_map row_bytes ys
flat-append [] ys = refl
flat-append (x ∷ xs) ys = ap (λ (t : List ℕ). row_bytes x ++ t) (flat-append xs ys) ∙ sym (append_assoc (row_bytes x) (flat_map row_bytes xs) (flat_map row_bytes ys))

module _ (name : Name) (shape : RowShape) (start : ℕ) (s : List ℕ) where
  pub none_read : (index : ℕ) (keyed : List KeyedRow) → index ≡ start → keyed ≡ [] → IsBytes s → ReadSoFar name shape start s index s (map keys_in keyed)
  none_read index keyed first none fits = record {
    rows = [];
    bytes = [];
    each = tt;
    split = refl;
    keys_are = ap (map keys_in) none;
    fits = fits;
    at = omega (arith, first);
  }

  one_more_read : (index : ℕ) (rest next : List ℕ) (keys : List Keys) (stored : StoredRow) (row : KeyedRow) → ReadSoFar name shape start s index rest keys
      → IsStored index (whole shape) rest stored next → GivesKeys name shape (stored_bytes stored) (Ok row) → ReadSoFar name shape start s (index + 1) next (keys ++ keys_in row ∷ [])
  one_more_read index rest next keys stored row h taken is =
      let read = stored_is index shape rest next stored h.fits taken in
      let bytes : RowBytes = stored_bytes stored in
      let cells : RowCells = row_cells stored.row in
      record {
        rows = h.rows ++ cells ∷ [];
        bytes = h.bytes ++ bytes ∷ [];
        each = zip_one_more (IsRowBytes shape) h.bytes h.rows bytes cells h.each read.0;
        split = h.split ∙ ap (λ (t : List ℕ). flat_map row_bytes h.bytes ++ t) read.1 ∙ sym (append_assoc (flat_map row_bytes h.bytes) (row_bytes bytes) next)
            ∙ ap (λ (t : List ℕ). (flat_map row_bytes h.bytes ++ t) ++ next) (sym (append-nil (row_bytes bytes)))
            ∙ ap (λ (t : List ℕ). t ++ next) (sym (flat-append h.bytes (bytes ∷ [])));
        keys_are = ap (λ (l : List Keys). l ++ keys_in row ∷ []) h.keys_are
            ∙ ap (λ (k : Keys). map (keys_of name) (map (images_of shape) h.bytes) ++ k ∷ []) is
            ∙ sym (ap (map (keys_of name)) (map-append (images_of shape) h.bytes (bytes ∷ [])) ∙ map-append (keys_of name) (map (images_of shape) h.bytes) (images_of shape bytes ∷ []));
        fits = read.2;
        at = let e = h.at in omega (arith, e, length-append h.rows (cells ∷ []));
      }

  -- All rows are read.
  pub all_read : (index : ℕ) (rest : List ℕ) (keyed : List KeyedRow) → ReadSoFar name shape start s index rest (map keys_in keyed) → rest ≡ [] → HasKeys name shape s keyed
  all_read index rest keyed h none = record {
    images = map (images_of shape) h.bytes;
    are = record {
      bytes = h.bytes;
      are = record { rows = h.rows; each = h.each; split = subst (λ (t : List ℕ). s ≡ flat_map row_bytes h.bytes ++ t) none h.split };
      is = refl;
    };
    keys = h.keys_are;
  }

  same_each : (bytes : List RowBytes) → AllZip (λ (b other : RowBytes). other ≡ b) bytes bytes
  same_each [] = tt
  same_each (first ∷ bytes) = (refl, same_each bytes)

  -- A row is refused.
  pub refused_read : (index : ℕ) (rest : List ℕ) (keys : List Keys) (error : RowsError) → ReadSoFar name shape start s index rest keys → ¬ (rest ≡ []) → first_row index (whole shape) rest ≡ Err error
      → IsUnread shape start s Unreadable
  refused_read index rest keys error h some is =
      let so_far : SoFar (λ (b other : RowBytes). other ≡ b) shape start s index rest _ = record {
        rows = h.rows;
        bytes = h.bytes;
        others = h.bytes;
        each_row = h.each;
        split = h.split;
        each = same_each h.bytes;
        all = refl;
        fits = h.fits;
        at = h.at;
      } in
      (error, refused_so_far (λ (b other : RowBytes). other ≡ b) shape start s index rest _ error so_far some is)

  -- Each image of a row that was taken can be read.
  never_unread : (index : ℕ) (rest next : List ℕ) (keys : List Keys) (stored : StoredRow) → ReadSoFar name shape start s index rest keys → IsStored index (whole shape) rest stored next
      → GivesKeys name shape (stored_bytes stored) (Err Unreadable) → ⊥
  never_unread index rest next keys stored h taken fault =
      let row = (stored_is index shape rest next stored h.fits taken).0 in
      elim fault [
        | inl first ↦ readable shape.0 stored.before.now row.stored.0 row.before first
        | inr second ↦ readable shape.1 stored.after.now row.stored.1 row.after second
      ]

-- ---- one turn

module _ (name : Name) (shape : RowShape) (start : ℕ) (s : List ℕ) (old new : Rows) (given : Result StoredRow RowsError) (keyed : List KeyedRow) (same : row_shape old ≡ whole shape)
    (so_far : IsBytes s → ReadSoFar name shape start s old.row old.rest.now (map keys_in keyed)) (gives : GivesStored old (Some given) new) where
  taken : (row : StoredRow) → given ≡ Ok row → IsStored old.row (whole shape) old.rest.now row new.rest.now × (new.row ≡ old.row + 1) × (row_shape new ≡ row_shape old)
  taken row is =
      let all : GivesStored old (Some (Ok row)) new = subst (λ (g : Result StoredRow RowsError). GivesStored old (Some g) new) is gives in
      (subst (λ (p : RowsShape). IsStored old.row p old.rest.now row new.rest.now) same all.0, all.1, all.2)

  pub turn : (row : StoredRow) (keys : KeyedRow) (more : List KeyedRow) → given ≡ Ok row → GivesKeys name shape (stored_bytes row) (Ok keys) → more ≡ keyed ++ keys ∷ []
      → (row_shape new ≡ whole shape) × (IsBytes s → ReadSoFar name shape start s new.row new.rest.now (map keys_in more))
  turn row keys more is are pushed =
      let read = taken row is in (
        read.2 ∙ same,
        λ bytes.
            subst (λ (l : List KeyedRow). ReadSoFar name shape start s new.row new.rest.now (map keys_in l)) (sym pushed)
            (subst (λ (k : List Keys). ReadSoFar name shape start s new.row new.rest.now k) (sym (map-append keys_in keyed (keys ∷ [])))
            (subst (λ (n : ℕ). ReadSoFar name shape start s n new.rest.now (map keys_in keyed ++ keys_in keys ∷ [])) (sym read.1)
            (one_more_read name shape start s old.row old.rest.now new.rest.now (map keys_in keyed) row keys (so_far bytes) read.0 are))),
      )

  pub failed : (row : StoredRow) (fault : RowFault) → given ≡ Ok row → GivesKeys name shape (stored_bytes row) (Err fault) → IsBytes s → IsUnread shape start s fault
  failed row Unreadable is fault bytes = absurd (never_unread name shape start s old.row old.rest.now new.rest.now (map keys_in keyed) row (so_far bytes) (taken row is).0 fault)
  failed row Memory is fault bytes = tt

  pub refused : (error : RowsError) → given ≡ Err error → IsBytes s → IsUnread shape start s Unreadable
  refused error is bytes =
      let all : GivesStored old (Some (Err error)) new = subst (λ (g : Result StoredRow RowsError). GivesStored old (Some g) new) is gives in
      refused_read name shape start s old.row old.rest.now (map keys_in keyed) error (so_far bytes) all.0 (subst (λ (p : RowsShape). first_row old.row p old.rest.now ≡ Err error) same all.1)

-- ---- an event

shape_is : (columns : List Typed) (view : Option BitView) (bits : Option Bitmap) → option_map bitmap_of view ≡ bits
    → shape_if columns view ≡ option_map (λ (b : Bitmap). let i : ImageShape = (columns, b) in i) bits
shape_is columns None bits is = ap (option_map (λ (b : Bitmap). let i : ImageShape = (columns, b) in i)) is
shape_is columns (Some view) bits is = ap (option_map (λ (b : Bitmap). let i : ImageShape = (columns, b) in i)) is

not_true : (b : Bool) → not b ≡ true → b ≡ false
not_true true is = absurd cc
not_true false is = refl

module _ (columns : List Typed) (event : RowsEventData) (before after : Option BitView) (first : option_map bitmap_of before ≡ (event_in event).columns.before)
    (second : option_map bitmap_of after ≡ (event_in event).columns.after) where
  -- The images of the views are those of the event.
  pub views_are : (shape_if columns before, shape_if columns after) ≡ event_shape columns (event_in event)
  views_are =
      ap (λ (o : Option ImageShape). let p : RowShape = (o, shape_if columns after) in p) (shape_is columns before (event_in event).columns.before first)
      ∙ ap (λ (o : Option ImageShape). let p : RowShape = (option_map (λ (b : Bitmap). let i : ImageShape = (columns, b) in i) (event_in event).columns.before, o) in p)
      (shape_is columns after (event_in event).columns.after second)

  whole_rows : is_complete event ≡ true → is_partial event ≡ false
  whole_rows complete =
      let front = both_true (not (is_partial event) && has_all_if (event_in event).columns.before) (has_all_if (event_in event).columns.after) complete in
      not_true (is_partial event) (both_true (not (is_partial event)) (has_all_if (event_in event).columns.before) front.0).0

  pub rows_shape : (rows : Rows) → is_complete event ≡ true → GivesRowsOf (is_partial event) columns (event_in event) (Ok rows) → row_shape rows ≡ whole (shape_if columns before, shape_if columns after)
  rows_shape rows complete given =
      given.1.shape ∙ ap (λ (p : Bool). shape_as p (event_shape columns (event_in event))) (whole_rows complete) ∙ ap whole (sym views_are)

  pub rows_known : (name : Name) (rows : Rows) (keyed : List KeyedRow) → is_complete event ≡ true → GivesRowsOf (is_partial event) columns (event_in event) (Ok rows)
      → HasKeys name (shape_if columns before, shape_if columns after) rows.rest.now keyed → GivesKnown (KnowsRows columns event) name (Some keyed)
  rows_known name rows keyed complete given has = record {
    known = Some has.images;
    is = record {
      complete = complete;
      count = given.0;
      are = subst (λ (p : RowShape). HasImages p (event_in event).rows has.images) views_are
          (subst (λ (s : List ℕ). HasImages (shape_if columns before, shape_if columns after) s has.images) given.1.bytes has.are);
    };
    keys = has.keys;
  }

  pub rows_refused : (name : Name) (rows : Rows) → GivesRowsOf (is_partial event) columns (event_in event) (Ok rows)
      → IsUnread (shape_if columns before, shape_if columns after) rows.row rows.rest.now Unreadable → GivesKnown (KnowsRows columns event) name None
  rows_refused name rows given unread = record {
    known = None;
    is = inr (inr (
      unread.0,
      subst (λ (p : RowShape). IsRefused p 0 (event_in event).rows unread.0) views_are
          (subst (λ (s : List ℕ). IsRefused (shape_if columns before, shape_if columns after) 0 s unread.0) given.1.bytes
          (subst (λ (n : ℕ). IsRefused (shape_if columns before, shape_if columns after) n rows.rest.now unread.0) given.1.first unread.1)),
    ));
    keys = tt;
  }

pub not_complete : (columns : List Typed) (event : RowsEventData) (name : Name) → is_complete event ≡ false → GivesKnown (KnowsRows columns event) name None
not_complete columns event name is = record { known = None; is = inl is; keys = tt }

some_error : (found : Option RowsEventError) (error : RowsEventError) → found ≡ Some error → found ≢ None
some_error found error is none = let bad : None ≡ Some error = sym none ∙ is in absurd cc

pub other_count : (columns : List Typed) (event : RowsEventData) (name : Name) (error : RowsEventError) → GivesRowsOf (is_partial event) columns (event_in event) (Err error)
    → GivesKnown (KnowsRows columns event) name None
other_count columns event name error given =
    record { known = None; is = inr (inl (some_error (count_error (event_in event).columns.count (length columns)) error given)); keys = tt }

-- ---- an event of a log

pub if_ok : {A E : Type 0} (answer : Result A E) (P Q : A → Type 0) → ((value : A) → P value → Q value) → IfOk answer P → IfOk answer Q
if_ok (Ok value) P Q to is = to value is
if_ok (Err e) P Q to is = tt

module _ (event : EventView) (map : TableMapEvent) (rows : RowsEventData) (name : Name) (types metadata : List ℕ) (old : Bool) (types_are : types ≡ map.columns.types)
    (metadata_are : metadata ≡ map.columns.metadata) (has_old : HasOldTemporal event types old) where
  old_there : HasOldTemporal event map.columns.types old
  old_there = subst (λ (t : List ℕ). HasOldTemporal event t old) types_are has_old

  pub mapped_old : old ≡ true → GivesKnown (KnowsMapped event map rows) name None
  mapped_old is = record { known = None; is = (old, old_there, subst (λ (b : Bool). KnowsUnlessOld b map rows None) (sym is) refl); keys = tt }

  refusal_there : refusal 0 types metadata ≡ refusal 0 map.columns.types map.columns.metadata
  refusal_there = ap (λ (t : List ℕ). refusal 0 t metadata) types_are ∙ ap (refusal 0 map.columns.types) metadata_are

  unless_old : old ≡ false → (found : Option ColumnError) → refusal 0 types metadata ≡ found → (known : Option (List RowImages)) → KnowsUnlessRefused found map rows known → KnowsMapped event map rows known
  unless_old isnt found is known knows = (
    old,
    old_there,
    subst (λ (b : Bool). KnowsUnlessOld b map rows known) (sym isnt) (subst (λ (f : Option ColumnError). KnowsUnlessRefused f map rows known) (sym is ∙ refusal_there) knows),
  )

  pub mapped_refused : old ≡ false → (error : ColumnError) → refusal 0 types metadata ≡ Some error → GivesKnown (KnowsMapped event map rows) name None
  mapped_refused isnt error is = record { known = None; is = unless_old isnt (Some error) is None refl; keys = tt }

  pub mapped_known : old ≡ false → (columns : List Typed) (given : Option (List KeyedRow)) → refusal 0 types metadata ≡ None → columns ≡ columns_in types metadata
      → GivesKnown (KnowsRows columns rows) name given → GivesKnown (KnowsMapped event map rows) name given
  mapped_known isnt columns given is are h = record {
    known = h.known;
    is = unless_old isnt None is h.known
        (subst (λ (cs : List Typed). KnowsRows cs rows h.known) (are ∙ ap (λ (t : List ℕ). columns_in t metadata) types_are ∙ ap (columns_in map.columns.types) metadata_are) h.is);
    keys = h.keys;
  }

pub no_rows : (event : EventView) (map : TableMapEvent) (name : Name) → GivesKnown (KnowsIfRows event map None) name None
no_rows event map name = record { known = None; is = refl; keys = tt }

pub unmapped : (event : EventView) (name : Name) (rows : Option RowsEventData) → GivesKnown (KnowsRowsIf event None rows) name None
unmapped event name rows = record { known = None; is = refl; keys = tt }
