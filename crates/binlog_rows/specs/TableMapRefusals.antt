-- The errors of a table map: the end of its bytes, or an invalid length-encoded integer in one of its two places.
use Rattle.std.proofs.Common.{ℕ, List, ◌∷◌, ◌≡◌, ◌⊎◌}
use Rattle.binlog_wire.specs.Formats.{Format, anywhere, silent, skip_then, ◌⨾◌, block, then}
use Rattle.binlog_variable_fields.specs.Formats.{lenenc}
use Rattle.binlog_rows.specs.TableMaps.{table}
use Rattle.binlog_rows.specs.declared.mapped_table.MappedTable.{MappedTable}

-- A prefix of the bytes encodes a value, and this byte is next.
abbrev pub IsBefore : {V : Type 0} → Format anywhere V → ℕ → List ℕ → Type 0
IsBefore {V} f b s = (v : V) × (r : List ℕ) × f.spells s v (b ∷ r)

-- The fields before the number of columns.
abbrev pub before_count : ℕ → Format anywhere (MappedTable × Unit {0})
before_count post_header = table post_header ⨾ skip_then 1 (silent tt)

-- The fields before the metadata length.
abbrev pub before_metadata : ℕ → Format anywhere (MappedTable × (ℕ × List ℕ))
before_metadata post_header = table post_header ⨾ skip_then 1 (then lenenc (λ n. block n))

-- The two bytes that begin no length-encoded integer.
abbrev pub BeginsNone : ℕ → Type 0
BeginsNone b = (b ≡ 251) ⊎ (b ≡ 255)

-- Such a byte is in the place of one of the two length-encoded integers.
abbrev pub IsInNumbersPlace : ℕ → ℕ → List ℕ → Type 0
IsInNumbersPlace post_header b s = BeginsNone b × (IsBefore (before_count post_header) b s ⊎ IsBefore (before_metadata post_header) b s)
