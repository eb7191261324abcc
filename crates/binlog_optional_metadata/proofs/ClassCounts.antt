-- Columns of a class, counted one at a time.
use Rattle.std.proofs.Common.{◌≡◌, ℕ, ◌+◌, ◌<◌, ◌≤◌, Bool, true, false, cond, List, [], ◌∷◌, ◌++◌, length, get_or, take, ap, ◌∙◌, arith}
use Rattle.std.proofs.lemmas.List.{take_more, length-take-le}
use Rattle.binlog_columns.specs.Metadata.{Typed}
use Rattle.binlog_columns.specs.RealTypes.{real_type}
use Rattle.binlog_optional_metadata.specs.Classes.{is_in_class, class_count}
use Rattle.binlog_optional_metadata.specs.declared.column_class.ColumnClass.{ColumnClass}

at_most_one : (b : Bool) → cond b 1 0 ≤ 1
at_most_one true = omega arith
at_most_one false = omega arith

-- Not more than there are columns.
pub class_count_le : (class : ColumnClass) (columns : List Typed) → class_count class columns ≤ length columns
class_count_le class [] = omega arith
class_count_le class (column ∷ columns) = omega (arith, at_most_one (is_in_class class (real_type column)), class_count_le class columns)

-- One more column.
count_push : (class : ColumnClass) (columns : List Typed) (column : Typed)
    → class_count class (columns ++ column ∷ []) ≡ class_count class columns + cond (is_in_class class (real_type column)) 1 0
count_push class [] column = omega arith
count_push class (first ∷ columns) column = omega (arith, count_push class columns column)

pub class_count_more : (class : ColumnClass) (columns : List Typed) (index : ℕ) (none : Typed) → index < length columns
    → class_count class (take (index + 1) columns) ≡ class_count class (take index columns) + cond (is_in_class class (real_type (get_or columns index none))) 1 0
class_count_more class columns index none below =
    ap (λ (before : List Typed). class_count class before) (take_more columns index none below) ∙ count_push class (take index columns) (get_or columns index none)

-- An index in a class is at most that of the column.
pub class_index_le : (class : ColumnClass) (columns : List Typed) (index : ℕ) → index ≤ length columns → class_count class (take index columns) ≤ index
class_index_le class columns index below = omega (arith, class_count_le class (take index columns), length-take-le index columns below)
