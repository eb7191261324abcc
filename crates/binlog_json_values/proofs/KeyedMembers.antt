-- The member of a column of a table.
use Rattle.std.proofs.Common.{◌≡◌, ℕ, zero, suc, List, [], ◌∷◌, drop, Option, Some, Result, ap, sym, subst, ◌∙◌}
use Rattle.std.specs.Borrow.{Bor}
use Rattle.std.specs.List.{slice_get}
use Rattle.std.specs.Slice.{IsItemAt}
use Rattle.std.proofs.lemmas.Option.{slice_get-get_or}
use Rattle.binlog_images.specs.Cells.{Cell}
use Rattle.binlog_optional_metadata.specs.declared.column_facts.ColumnFacts.{ColumnFacts}
use Rattle.binlog_optional_metadata.specs.Facts.{facts_of}
use Rattle.json.specs.Token.{Token}
use Rattle.binlog_json_values.specs.Parts.{Part, Writes}
use Rattle.binlog_json_values.specs.Rows.{cell_parts}
use Rattle.binlog_json_values.specs.RowWriting.{first_member}

-- The column with this index is the first of those from there on.
pub member_is : (columns : List ColumnFacts) (k : ℕ) (facts : ColumnFacts) → slice_get columns k ≡ Some facts → (index : ℕ) (before : Option (List ℕ)) (cell : Cell)
    → cell_parts (facts_of facts) index before cell ≡ first_member index (drop k columns) before cell
member_is [] k facts there index before cell = cc
member_is (first ∷ others) zero facts there index before cell = let same : facts ≡ first = cc in ap (λ (f : ColumnFacts). cell_parts (facts_of f) index before cell) same
member_is (first ∷ others) (suc k) facts there index before cell = member_is others k facts there index before cell

-- An item that is found.
pub item_there : {A : Type 0} (items : List A) (index : ℕ) (item : Bor A) → IsItemAt items index (Some item) → slice_get items index ≡ Some item.now
item_there {A} items index item is = slice_get-get_or items index item.now is.3.0 ∙ ap (λ (x : A). Some x) (sym is.1)

-- The member of a column that is found is that of the first column from there on.
pub member_written : {A E : Type 0} (result : Result A E) (columns : List ColumnFacts) (k : ℕ) (facts : ColumnFacts) (before : Option (List ℕ)) (cell : Cell) (old new : List Token) → slice_get columns k ≡ Some facts
    → Writes result old new (cell_parts (facts_of facts) k before cell) → Writes result old new (first_member k (drop k columns) before cell)
member_written result columns k facts before cell old new there written = subst (λ (parts : List Part). Writes result old new parts) (member_is columns k facts there k before cell) written
