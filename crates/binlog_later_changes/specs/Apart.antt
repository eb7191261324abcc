-- Changes that are undone, and changes that stay and remove no row that was left behind.
use Rattle.std.specs.Prelude.{◌≡◌, true, List, [], ◌∷◌, Option, Some, None, option_map}
use Rattle.std.specs.List.{filter_map}
use Rattle.change_statistics.specs.Facts.{Name}
use Rattle.table_changes.specs.Changes.{Change, insert, delete, update}
use Rattle.table_changes.specs.Parts.{Logged, undone, kept}
use Rattle.binlog_later_changes.specs.KnownRows.{RowImages}
use Rattle.binlog_later_changes.specs.RowKeys.{Values}
use Rattle.binlog_later_changes.specs.RowsLeft.{Left, Leaves, is_apart}

-- The change of a row with these images.
abbrev pub change_by : Name → (removed added : Option Values) → Option (Change Name Values)
change_by name None None = None
change_by name None (Some new) = Some (insert name new)
change_by name (Some old) None = Some (delete name old)
change_by name (Some old) (Some new) = Some (update name old new)

abbrev pub change_of_row : Name → RowImages → Option (Change Name Values)
change_of_row name images = change_by name images.0 images.1

-- Rows of a table that are known: they are undone, or stay.
pub data SeenRows : Type 0 where
  undone_rows : Name → List RowImages → SeenRows
  kept_rows : Name → List RowImages → SeenRows

-- Their changes.
abbrev pub logged_in : SeenRows → List (Logged Name Values)
logged_in (undone_rows name images) = filter_map (λ row. option_map (λ change. undone change) (change_of_row name row)) images
logged_in (kept_rows name images) = filter_map (λ row. option_map (λ change. kept change) (change_of_row name row)) images

-- Each of these rows that stay are apart from those that were left behind in front of them.
abbrev pub AreApart : List SeenRows → Left → Left → Type 0
AreApart [] old new = new ≡ old
AreApart (undone_rows name images ∷ others) old new = (mid : Left) × Leaves name (Some images) old mid × AreApart others mid new
AreApart (kept_rows name images ∷ others) old new = (is_apart old.counts name (Some images) ≡ true) × AreApart others old new
