-- The last file that has a table.
use Rattle.std.proofs.Common.{◌≡◌, List, [], ◌∷◌, refl}
use Rattle.column_files.specs.Tables.{Described}
use Rattle.binlog_declared_columns.specs.Tables.{first_of}

-- The first of three.
pub of_three : (a b c : List Described) → first_of (first_of a b) c ≡ first_of a (first_of b c)
of_three [] b c = refl
of_three (x ∷ a) b c = refl
