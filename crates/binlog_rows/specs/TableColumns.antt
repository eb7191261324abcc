-- The column definitions of a table map.
use Rattle.std.specs.Prelude.{ℕ, List, ◌≡◌, ◌+◌, ◌^◌, ◌<◌, length}
use Rattle.binlog_rows.specs.Columns.{Bitmap}

-- The column definitions of a table map, without the number of columns.
pub record TableColumns : Type 0 where
  -- The column types.
  pub types : List ℕ
  -- The column metadata, such as lengths.
  pub metadata : List ℕ
  -- The null bitmap.
  pub null_bits : Bitmap
  -- The optional metadata, encoded.
  pub optional_metadata : List ℕ

-- There is one bit for each column type, and all bytes together fit into memory.
abbrev pub AreColumns : TableColumns → Type 0
AreColumns c = (c.null_bits.0 ≡ length c.types)
    × (length c.types + length c.metadata + length c.null_bits.1 + length c.optional_metadata < 2 ^ 63)
