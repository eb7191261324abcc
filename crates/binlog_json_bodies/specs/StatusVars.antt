-- The status variables of a statement.
use Rattle.std.specs.Prelude.{ℕ, zero, suc, List, [], ◌∷◌, ◌++◌, length, take, drop, slice_index, flat_map, codes, cond, nat_eq, Bool, true, false}
use Rattle.byteorder.specs.Endian.{little_number}
use Rattle.json.specs.Token.{Token, string, boolean}
use Rattle.binlog_file.specs.declared.StatusVarKey.{StatusVarKey}
use Rattle.binlog_file.specs.declared.StatusVarKey.TheVariants.{Flags2, SqlMode, Catalog, AutoIncrement, Charset, TimeZone, CatalogNz, LcTimeNames, CharsetDatabase, TableMapForUpdate, MasterDataWritten, Invoker, UpdatedDbNames, Microseconds, CommitTs, CommitTs2, ExplicitDefaultsForTimestamp, DdlLoggedWithXid, DefaultCollationForUtf8mb4, SqlRequirePrimaryKey, DefaultTableEncryption}
use Rattle.binlog_file.specs.StatusVariables.{Variable, variable_bytes, variables}
use Rattle.json_line.specs.Tokens.{number_value, text_value, bytes_value, member, bytes_member_if_any, object, array}

-- The name of a key.
abbrev pub key_name : StatusVarKey → List ℕ
key_name Flags2 = codes "Flags2"
key_name SqlMode = codes "SqlMode"
key_name Catalog = codes "Catalog"
key_name AutoIncrement = codes "AutoIncrement"
key_name Charset = codes "Charset"
key_name TimeZone = codes "TimeZone"
key_name CatalogNz = codes "CatalogNz"
key_name LcTimeNames = codes "LcTimeNames"
key_name CharsetDatabase = codes "CharsetDatabase"
key_name TableMapForUpdate = codes "TableMapForUpdate"
key_name MasterDataWritten = codes "MasterDataWritten"
key_name Invoker = codes "Invoker"
key_name UpdatedDbNames = codes "UpdatedDbNames"
key_name Microseconds = codes "Microseconds"
key_name CommitTs = codes "CommitTs"
key_name CommitTs2 = codes "CommitTs2"
key_name ExplicitDefaultsForTimestamp = codes "ExplicitDefaultsForTimestamp"
key_name DdlLoggedWithXid = codes "DdlLoggedWithXid"
key_name DefaultCollationForUtf8mb4 = codes "DefaultCollationForUtf8mb4"
key_name SqlRequirePrimaryKey = codes "SqlRequirePrimaryKey"
key_name DefaultTableEncryption = codes "DefaultTableEncryption"

-- ---- the parts of a value

-- A number of this width at this offset.
abbrev pub number_in : ℕ → ℕ → List ℕ → List Token
number_in width place value = number_value (little_number width (drop place value))

-- At most 255 bytes.
abbrev pub short_text : List ℕ → List Token
short_text text = text_value (take 255 text)

-- The first text of a value, after its length byte.
abbrev pub first_text : List ℕ → List ℕ
first_text value = take (slice_index value 0) (drop 1 value)

-- The bytes after the first text.
abbrev pub behind_text : List ℕ → List ℕ
behind_text value = drop (slice_index value 0) (drop 1 value)

-- The null-terminated names in these bytes; `name` has the bytes of the current one so far.
abbrev pub names_from : List ℕ → List ℕ → List (List ℕ)
names_from name [] = []
names_from name (zero ∷ s) = name ∷ names_from [] s
names_from name (suc b ∷ s) = names_from (name ++ suc b ∷ []) s

-- The database names after their count; none if there were too many.
abbrev pub names_in : List ℕ → List (List ℕ)
names_in [] = []
names_in (count ∷ s) = cond (nat_eq count 254) [] (names_from [] s)

-- A flag is set if its byte isn't zero.
abbrev pub is_set_in : List ℕ → Bool
is_set_in (zero ∷ []) = false
is_set_in value = true

-- ---- values, by key

-- The value of a variable with this key.
abbrev pub value_of_key : StatusVarKey → List ℕ → List Token
value_of_key Flags2 v = number_in 4 0 v
value_of_key SqlMode v = number_in 8 0 v
value_of_key Catalog v = bytes_value v
value_of_key AutoIncrement v = object (member (codes "increment") (number_in 2 0 v) ++ member (codes "offset") (number_in 2 2 v))
value_of_key Charset v = object
    (member (codes "charset_client") (number_in 2 0 v) ++ member (codes "collation_connection") (number_in 2 2 v) ++ member (codes "collation_server") (number_in 2 4 v))
value_of_key TimeZone v = short_text (first_text v)
value_of_key CatalogNz v = short_text (first_text v)
value_of_key LcTimeNames v = number_in 2 0 v
value_of_key CharsetDatabase v = number_in 2 0 v
value_of_key TableMapForUpdate v = number_in 8 0 v
value_of_key MasterDataWritten v = bytes_value v
value_of_key Invoker v = object (member (codes "username") (short_text (first_text v)) ++ member (codes "hostname") (short_text (first_text (behind_text v))))
value_of_key UpdatedDbNames v = array (flat_map text_value (names_in v))
value_of_key Microseconds v = number_in 3 0 v
value_of_key CommitTs v = bytes_value v
value_of_key CommitTs2 v = bytes_value v
value_of_key ExplicitDefaultsForTimestamp v = boolean (is_set_in v) ∷ []
value_of_key DdlLoggedWithXid v = number_in 8 0 v
value_of_key DefaultCollationForUtf8mb4 v = number_in 2 0 v
value_of_key SqlRequirePrimaryKey v = number_value (slice_index v 0)
value_of_key DefaultTableEncryption v = number_value (slice_index v 0)

-- A key and its value.
abbrev pub entry : List ℕ → List Token → List Token
entry name value = object (member (codes "key") (string name ∷ []) ++ member (codes "value") value)

-- A variable: its key and its value.
abbrev pub variable_object : Variable → List Token
variable_object v = entry (key_name v.key) (value_of_key v.key v.value)

-- The variables, in order.
abbrev pub status_vars_value : List ℕ → List Token
status_vars_value text = array (flat_map variable_object (variables text))

-- The bytes after the variables.
abbrev pub behind_variables : List ℕ → List ℕ
behind_variables text = drop (length (flat_map variable_bytes (variables text))) text

-- The variables, and the bytes after them.
abbrev pub status_vars_members : List ℕ → List Token
status_vars_members text =
    member (codes "status_vars") (status_vars_value text)
    ++ bytes_member_if_any (codes "status_vars_rest") (behind_variables text)
