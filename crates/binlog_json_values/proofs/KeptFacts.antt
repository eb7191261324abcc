-- The facts of columns, kept and borrowed.
use Rattle.std.proofs.Common.{◌≡◌, ℕ, ◌+◌, Bool, List, [], ◌∷◌, ◌++◌, map, drop, flat_map, codes, Option, Some, None, Result, Ok, Err, IfOk, refl, sym, ap, subst, ◌∙◌}
use Rattle.std.specs.Option.{option_map}
use Rattle.std.specs.List.{slice_get}
use Rattle.std.proofs.lemmas.Option.{slice_get-map}
use Rattle.json.specs.Token.{Token, begin_object, end_object, begin_array, end_array, key}
use Rattle.binlog_images.specs.Cells.{Cell, RowCells}
use Rattle.binlog_images.specs.declared.rows.Rows.{Rows}
use Rattle.binlog_images.specs.declared.rows_error.RowsError.{RowsError}
use Rattle.binlog_optional_metadata.specs.Facts.{Facts, facts_of}
use Rattle.binlog_optional_metadata.specs.declared.column_facts.ColumnFacts.{ColumnFacts}
use Rattle.binlog_json_values.specs.Kept.{AreNamed}
use Rattle.binlog_json_values.specs.Keys.{IsPrinted, ArePrinted}
use Rattle.binlog_json_values.specs.Parts.{Part, exactly, Shows}
use Rattle.binlog_json_values.specs.Rows.{column_name, first_document, first_parts, members_from, image_parts, image_member, before_or_none, row_parts, item_parts, rows_parts}
use Rattle.binlog_json_values.specs.Written.{ShowsRows, ShowsKeptRows}

-- ---- names

pub column_of : (found : Option ColumnFacts) (facts : Facts) → option_map facts_of found ≡ Some facts → (column : ColumnFacts) × (found ≡ Some column) × (facts_of column ≡ facts)
column_of None facts is = absurd cc
column_of (Some column) facts is = (column, refl, cc)

-- The names of columns are those of their facts.
pub names_of : (columns : List ColumnFacts) (kept : List Facts) (lines : List (List Token)) → kept ≡ map facts_of columns → ArePrinted columns lines → AreNamed kept lines
names_of columns kept lines same printed = λ k facts is.
    let there : option_map facts_of (slice_get columns k) ≡ Some facts = sym (slice_get-map facts_of columns k) ∙ ap (λ (l : List Facts). slice_get l k) (sym same) ∙ is in
    let found = column_of (slice_get columns k) facts there in
    subst (λ (f : Facts). IsPrinted lines k (column_name f k)) found.2 (printed k found.0 found.1)

pub printed_of : (columns : List ColumnFacts) (kept : List Facts) (lines : List (List Token)) → map facts_of columns ≡ kept → AreNamed kept lines → ArePrinted columns lines
printed_of columns kept lines same named = λ k column is.
    named k (facts_of column) (ap (λ (l : List Facts). slice_get l k) (sym same) ∙ slice_get-map facts_of columns k ∙ ap (λ (found : Option ColumnFacts). option_map facts_of found) is)

-- ---- rows

members_same : (index : ℕ) (a b : List ColumnFacts) (before cells : List Cell) → map facts_of a ≡ map facts_of b → members_from index a before cells ≡ members_from index b before cells
members_same index [] [] before cells same = refl
members_same index [] (y ∷ ys) before cells same = absurd cc
members_same index (x ∷ xs) [] before cells same = absurd cc
members_same index (x ∷ xs) (y ∷ ys) before cells same =
    let first : facts_of x ≡ facts_of y = cc in
    let others : map facts_of xs ≡ map facts_of ys = cc in
    ap (λ (f : Facts). first_parts f index (first_document before) cells ++ members_from (index + 1) xs (drop 1 before) (drop 1 cells)) first
    ∙ ap (λ (l : List Part). first_parts (facts_of y) index (first_document before) cells ++ l) (members_same (index + 1) xs ys (drop 1 before) (drop 1 cells) others)

image_same : (a b : List ColumnFacts) (before cells : List Cell) → map facts_of a ≡ map facts_of b → image_parts a before cells ≡ image_parts b before cells
unfolding image_parts
image_same a b before cells same = ap (λ (l : List Part). exactly begin_object ∷ [] ++ l ++ exactly end_object ∷ []) (members_same 0 a b before cells same)

member_same : (name : List ℕ) (a b : List ColumnFacts) (before : List Cell) (image : Option (List Cell)) → map facts_of a ≡ map facts_of b
    → image_member name a before image ≡ image_member name b before image
member_same name a b before None same = refl
member_same name a b before (Some cells) same = ap (λ (l : List Part). exactly (key name) ∷ [] ++ l) (image_same a b before cells same)

row_same : (a b : List ColumnFacts) (row : RowCells) → map facts_of a ≡ map facts_of b → row_parts a row ≡ row_parts b row
unfolding row_parts
row_same a b row same = rw (member_same (codes "before") a b (before_or_none row.0) row.0 same, member_same (codes "after") a b (before_or_none row.0) row.1 same) refl

item_same : (a b : List ColumnFacts) (item : Result RowCells RowsError) → map facts_of a ≡ map facts_of b → item_parts a item ≡ item_parts b item
item_same a b (Ok row) same = row_same a b row same
item_same a b (Err error) same = refl

items_same : (a b : List ColumnFacts) (items : List (Result RowCells RowsError)) → map facts_of a ≡ map facts_of b → flat_map (item_parts a) items ≡ flat_map (item_parts b) items
items_same a b [] same = refl
items_same a b (item ∷ items) same =
    ap (λ (l : List Part). l ++ flat_map (item_parts a) items) (item_same a b item same) ∙ ap (λ (l : List Part). item_parts b item ++ l) (items_same a b items same)

rows_same : (a b : List ColumnFacts) (items : List (Result RowCells RowsError)) → map facts_of a ≡ map facts_of b → rows_parts a items ≡ rows_parts b items
rows_same a b items same = ap (λ (l : List Part). exactly begin_array ∷ [] ++ l ++ exactly end_array ∷ []) (items_same a b items same)

-- The rows of a table depend on its columns by their facts alone.
pub shown_by_facts : {E : Type 0} (result : Result Bool E) (a b : List ColumnFacts) (rows : Rows) (old new : List Token) → map facts_of a ≡ map facts_of b
    → IfOk result (λ all_read. ShowsRows a rows all_read old new) → IfOk result (λ all_read. ShowsRows b rows all_read old new)
shown_by_facts (Ok all_read) a b rows old new same shows =
    record { items = shows.items; are = shows.are; read = shows.read; shown = subst (Shows old new) (rows_same a b shows.items same) shows.shown }
shown_by_facts (Err e) a b rows old new same shows = shows

-- They are rows of columns with the facts that are kept.
pub shown_by_kept : {E : Type 0} (result : Result Bool E) (columns : List ColumnFacts) (kept : List Facts) (rows : Rows) (old new : List Token) → map facts_of columns ≡ kept
    → IfOk result (λ all_read. ShowsRows columns rows all_read old new) → IfOk result (λ all_read. ShowsKeptRows kept rows all_read old new)
shown_by_kept (Ok all_read) columns kept rows old new same shows = record { columns = columns; are = same; shown = shows }
shown_by_kept (Err e) columns kept rows old new same shows = shows
