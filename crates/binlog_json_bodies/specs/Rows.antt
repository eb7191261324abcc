-- The objects of table maps and of row events.
use Rattle.std.specs.Prelude.{ℕ, Bool, true, false, List, [], ◌++◌, length, take, codes, Option, Some, None}
use Rattle.json.specs.Token.{Token}
use Rattle.binlog_rows.specs.Columns.{Bitmap}
use Rattle.binlog_file.specs.RowsData.{event_in}
use Rattle.binlog_file.specs.declared.RowsEvent.{RowsEvent}
use Rattle.binlog_file.specs.declared.RowsEventData.{RowsEventData}
use Rattle.binlog_file.specs.declared.TableMapEvent.{TableMapEvent}
use Rattle.json_line.specs.Tokens.{number_value, text_value, bytes_value, or_null, member, bytes_member_if_any, object}
use Rattle.binlog_json_bodies.specs.Bits.{bits_value}

-- The table.
abbrev pub mapped_table : TableMapEvent → List Token
mapped_table e =
    member (codes "table_id") (number_value e.table.id)
    ++ member (codes "flags") (number_value e.table.flags)
    ++ member (codes "database_name") (text_value (take 255 e.table.database_name))
    ++ member (codes "table_name") (text_value (take 255 e.table.table_name))

-- The table's columns.
abbrev pub mapped_columns : TableMapEvent → List Token
mapped_columns e =
    member (codes "columns_count") (number_value (length e.columns.types))
    ++ member (codes "columns_type") (bytes_value e.columns.types)
    ++ member (codes "columns_metadata") (bytes_value e.columns.metadata)
    ++ member (codes "null_bitmask") (bits_value (length e.columns.types, e.columns.null_bits.1))
    ++ member (codes "optional_metadata") (bytes_value e.columns.optional_metadata)

-- The object of a table map.
abbrev pub table_map_object : TableMapEvent → List Token
table_map_object e = object (mapped_table e ++ mapped_columns e)

-- The first 65,533 extra bytes; no member if there are none.
abbrev pub extra_data_member : Option (List ℕ) → List Token
extra_data_member None = []
extra_data_member (Some bytes) = bytes_member_if_any (codes "extra_data") (take 65533 bytes)

-- The table.
abbrev pub rows_table : RowsEvent → List Token
rows_table e =
    member (codes "table_id") (number_value e.head.table_id)
    ++ member (codes "flags") (number_value e.head.flags)
    ++ extra_data_member e.head.extra

-- The number of columns, and the columns-present bitmaps of the row images.
abbrev pub images_members : (count : ℕ) → (before after : Option Bitmap) → List Token
images_members count before after =
    member (codes "num_columns") (number_value count)
    ++ member (codes "columns_before_image") (or_null bits_value before)
    ++ member (codes "columns_after_image") (or_null bits_value after)

abbrev pub rows_columns : RowsEvent → List Token
rows_columns e = images_members e.columns.count e.columns.before e.columns.after

-- The object of a row event.
abbrev pub rows_object : RowsEventData → List Token
rows_object e = object (rows_table (event_in e) ++ rows_columns (event_in e) ++ member (codes "rows_data") (bytes_value (event_in e).rows))

-- The same without its stored rows.
abbrev pub short_rows_object : RowsEventData → List Token
short_rows_object e = object (rows_table (event_in e) ++ rows_columns (event_in e))

-- The object of a row event, with its stored rows or without them.
abbrev pub row_event_object : (has_stored_rows : Bool) → RowsEventData → List Token
row_event_object true e = rows_object e
row_event_object false e = short_rows_object e
