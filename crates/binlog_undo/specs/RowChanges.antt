-- Which changes the rows of a row event are, and the rows that undo them.
-- Source: MySQL's documentation of its source code, `mysql::binlog::event::Rows_event`.
use Rattle.std.specs.Prelude.{◌≡◌, List, [], ◌∷◌, map, reverse, Option, None, Some}
use Rattle.std.specs.List.{filter_map}
use Rattle.binlog_images.specs.Cells.{Cell, absent, null, value, diff_list, RowCells}
use Rattle.table_changes.specs.Changes.{Change, insert, delete, update}

-- A row of a table: its columns, in order.
abbrev pub TableRow : Type 0
TableRow = List Cell

-- A column after an update: as it was if the image after doesn't have it.
abbrev pub updated : Cell → Cell → Cell
updated old absent = old
updated old null = null
updated old (value meaning content) = value meaning content
updated old (diff_list content) = diff_list content

-- A row after an update: the columns of the image after, and those of the image before where the image after has none.
abbrev pub completed : TableRow → TableRow → TableRow
completed [] new = new
completed (old ∷ olds) [] = []
completed (old ∷ olds) (new ∷ news) = updated old new ∷ completed olds news

-- What a row with these images changes in its table: a row with an image after alone is inserted, one with an image before alone
-- is deleted, and one with both is updated.
abbrev pub change_of : {Table : Type 0} → Table → (before after : Option TableRow) → Option (Change Table TableRow)
change_of table None None = None
change_of table None (Some new) = Some (insert table new)
change_of table (Some old) None = Some (delete table old)
change_of table (Some old) (Some new) = Some (update table old (completed old new))

-- The changes of rows, in their order.
abbrev pub row_changes : {Table : Type 0} → Table → List RowCells → List (Change Table TableRow)
row_changes table rows = filter_map (λ row. change_of table row.0 row.1) rows

-- The row that undoes one with these images: the images are exchanged, and an image after that lacks columns is completed.
abbrev pub inverse_images : (before after : Option TableRow) → RowCells
inverse_images None after = (after, None)
inverse_images (Some old) None = (None, Some old)
inverse_images (Some old) (Some new) = (Some (completed old new), Some old)

abbrev pub inverse_row : RowCells → RowCells
inverse_row row = inverse_images row.0 row.1

-- The rows that undo these: the last one is undone first.
abbrev pub inverse_rows : List RowCells → List RowCells
inverse_rows rows = reverse (map inverse_row rows)

-- The first of two lists of columns has each column that the second one has.
abbrev pub Covers : TableRow → TableRow → Type 0
Covers [] [] = Unit {0}
Covers [] (new ∷ news) = ⊥
Covers (old ∷ olds) [] = ⊥
Covers (old ∷ olds) (new ∷ news) = (old ≡ absent → new ≡ absent) × Covers olds news

-- The image before, if there is one, has each column that the image after has.
abbrev pub CoversImages : (before after : Option TableRow) → Type 0
CoversImages (Some old) (Some new) = Covers old new
CoversImages before after = Unit {0}

abbrev pub HasOldColumns : RowCells → Type 0
HasOldColumns row = CoversImages row.0 row.1
