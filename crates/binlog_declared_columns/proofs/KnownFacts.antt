-- What is known of the columns of a table that a file declares.
use Rattle.std.proofs.Common.{◌≡◌, ℕ, Bool, false, eqb, List, [], ◌∷◌, length, map, Option, refl, subst}
use Rattle.binlog_columns.specs.Metadata.{Typed}
use Rattle.binlog_optional_metadata.specs.AllFields.{AreFields}
use Rattle.binlog_optional_metadata.specs.Counts.{counts_of}
use Rattle.binlog_optional_metadata.specs.FieldsLeft.{FieldContent}
use Rattle.binlog_optional_metadata.specs.declared.column_facts.ColumnFacts.{ColumnFacts}
use Rattle.column_files.specs.Tables.{Described, described}
use Rattle.column_files.specs.declared.tables.DeclaredColumn.{DeclaredColumn}
use Rattle.binlog_declared_columns.specs.Facts.{AreOfBoth}
use Rattle.binlog_declared_columns.specs.Signs.{states_signs}
use Rattle.binlog_declared_columns.specs.Tables.{AreKnown}

pub some_columns : (columns : List DeclaredColumn) → eqb (length columns) 0 ≡ false → map described columns ≡ [] → ⊥
some_columns [] some none = absurd cc
some_columns (column ∷ columns) some none = absurd cc

known_columns : (is_maria_log : Bool) (columns : List Typed) (metadata : List ℕ) (declared : List Described) (stated new : List ColumnFacts) (contradiction : Option ℕ) (fields : List FieldContent)
    → (declared ≡ [] → ⊥) → AreFields (counts_of is_maria_log columns) metadata fields → AreOfBoth is_maria_log (states_signs fields) columns declared stated new contradiction
    → AreKnown is_maria_log columns metadata declared stated new contradiction
known_columns is_maria_log columns metadata [] stated new contradiction fields some are both = absurd (some refl)
known_columns is_maria_log columns metadata (first ∷ declared) stated new contradiction fields some are both = (fields, are, both)

-- The facts of both are what is known.
pub both_known : (is_maria_log : Bool) (columns kept : List Typed) (metadata : List ℕ) (declared found : List Described) (stated new : List ColumnFacts) (contradiction : Option ℕ) (signs : Bool) (fields : List FieldContent)
    → kept ≡ columns → declared ≡ found → (declared ≡ [] → ⊥) → AreFields (counts_of is_maria_log columns) metadata fields → signs ≡ states_signs fields
    → AreOfBoth is_maria_log signs kept declared stated new contradiction → AreKnown is_maria_log columns metadata found stated new contradiction
both_known is_maria_log columns kept metadata declared found stated new contradiction signs fields are_kept are_found some are signs_are both =
    subst (λ (ds : List Described). AreKnown is_maria_log columns metadata ds stated new contradiction) are_found
    (known_columns is_maria_log columns metadata declared stated new contradiction fields some are
    (subst (λ (b : Bool). AreOfBoth is_maria_log b columns declared stated new contradiction) signs_are (subst (λ (cs : List Typed). AreOfBoth is_maria_log signs cs declared stated new contradiction) are_kept both)))
