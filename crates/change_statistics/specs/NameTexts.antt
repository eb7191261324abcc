-- The text of the names of a table.
use Rattle.std.specs.Prelude.{List, ℕ, ◌++◌, ◌==◌, Bool, ◌||◌, nat_lt, codes, if◌then◌else◌}
use Rattle.std.specs.List.{list_any}
use Rattle.std.specs.Str.{is_utf8}
use Rattle.change_statistics.specs.declared.table_name.TableName.{TableName}

-- The byte is a control character of ASCII. A line feed would end a line, and a terminal obeys the others.
abbrev pub is_control : ℕ → Bool
is_control byte = nat_lt byte 32 || (byte == 127)

-- A name as a text: the text of its bytes if they are UTF-8 without control characters of ASCII, and else a question mark.
abbrev pub name_text : List ℕ → List ℕ
name_text name = if list_any is_control name then codes "?" else if is_utf8 name then name else codes "?"

abbrev pub names_text : TableName → List ℕ
names_text name = codes "table " ++ name_text name.database.items ++ codes "." ++ name_text name.table.items ++ codes " "
