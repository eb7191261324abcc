-- Counting the columns of a class.
use Rattle.std.proofs.Common.{◌≡◌, ℕ, ◌+◌, List, [], ◌∷◌, refl, arith}
use Rattle.std.specs.Prelude.{if◌then◌else◌}
use Rattle.binlog_columns.specs.Metadata.{Typed}
use Rattle.binlog_columns.specs.RealTypes.{real_type}
use Rattle.binlog_optional_metadata.specs.Classes.{is_in_class, class_count}
use Rattle.binlog_optional_metadata.specs.declared.column_class.ColumnClass.{ColumnClass}

-- One more column is counted.
pub count_step : (class : ColumnClass) (columns others : List Typed) (column : Typed) → columns ≡ column ∷ others
    → class_count class columns ≡ (if is_in_class class (real_type column) then 1 else 0) + class_count class others
count_step class columns others column split = rw split refl

-- All columns are counted.
pub count_end : (class : ColumnClass) (columns : List Typed) (count all : ℕ) → columns ≡ [] → count + class_count class columns ≡ all → count ≡ all
count_end class columns count all none is =
    let last : count + 0 ≡ all = rw none at is in
    omega (arith, last)
