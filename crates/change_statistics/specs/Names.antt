-- The names of a table, as a map has them.
use Rattle.std.specs.Prelude.{◌&&◌, Bool, bytes_eq}
use Rattle.change_statistics.specs.Facts.{Name}
use Rattle.change_statistics.specs.declared.table_name.TableName.{TableName}

abbrev pub name_of : TableName → Name
name_of name = record { database = name.database.items; table = name.table.items }

-- The names are the same.
abbrev pub name_eq : Name → Name → Bool
name_eq name other = bytes_eq name.database other.database && bytes_eq name.table other.table

abbrev pub is_named : Name → TableName → Bool
is_named name key = name_eq name (name_of key)
