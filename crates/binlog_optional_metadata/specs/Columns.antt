-- Columns by their indexes, and numbers of columns.
-- Source: MySQL's documentation of its source code, `mysql::binlog::event::Table_map_event::Optional_metadata_fields`.
use Rattle.std.proofs.Common.{◌≤◌, ℕ, List, refl, arith}
use Rattle.std.specs.Prelude.{nat_lt}
use Rattle.binlog_wire.specs.Formats.{Format, anywhere, last, ◌⨾◌}
use Rattle.binlog_wire.specs.declared.error.Invalid.{Invalid}
use Rattle.binlog_wire.specs.declared.error.Invalid.TheVariants.{FieldRange}
use Rattle.binlog_variable_fields.specs.Formats.{lenenc, tested}
use Rattle.binlog_optional_metadata.specs.ToEnd.{to_end}

-- There is no column with the index.
abbrev pub no_column : Invalid
no_column = FieldRange 0

-- The index of one of this many columns.
abbrev pub column_index : ℕ → Format anywhere ℕ
column_index columns = tested lenenc (λ _. refl) (λ index. nat_lt index columns) no_column

-- The index of one of this many columns, and a number.
abbrev pub indexed_number : ℕ → Format anywhere (ℕ × ℕ)
indexed_number columns = column_index columns ⨾ lenenc

-- The same, of any index.
abbrev pub any_indexed : Format anywhere (ℕ × ℕ)
any_indexed = lenenc ⨾ lenenc

pub index_moves : (columns : ℕ) → 1 ≤ (column_index columns).least
index_moves columns = omega arith

pub indexed_moves : (columns : ℕ) → 1 ≤ (indexed_number columns).least
indexed_moves columns = omega arith

-- Indexes of columns, up to the end.
abbrev pub column_indexes : ℕ → Format last (List ℕ)
column_indexes columns = to_end (column_index columns) (index_moves columns)

-- Numbers of columns, each with the index of its column, up to the end.
abbrev pub indexed_numbers : ℕ → Format last (List (ℕ × ℕ))
indexed_numbers columns = to_end (indexed_number columns) (indexed_moves columns)

-- A number of all columns but those that follow with their own.
abbrev pub default_and_others : ℕ → Format last (ℕ × List (ℕ × ℕ))
default_and_others columns = lenenc ⨾ indexed_numbers columns
