-- The keys of status variables and their codes, 0 to 20.
-- Source: MySQL's internals documentation, "QUERY_EVENT", and the documentation of its source code,
-- `mysql::binlog::event::Query_event`.
use Rattle.std.specs.Prelude.{◌≡◌, ℕ, ◌≤◌, List, [], ◌∷◌, Result, Ok, Err, refl}
use Rattle.binlog_wire.specs.Laws.Numbers.{IsCode}
use Rattle.binlog_consts.specs.Tables.{value_of, is_code, unknown_above}
use Rattle.binlog_consts.specs.declared.status_var_key.StatusVarKey.{StatusVarKey}
use Rattle.binlog_consts.specs.declared.status_var_key.StatusVarKey.TheVariants.{Flags2, SqlMode, Catalog, AutoIncrement, Charset, TimeZone, CatalogNz, LcTimeNames, CharsetDatabase, TableMapForUpdate, MasterDataWritten, Invoker, UpdatedDbNames, Microseconds, CommitTs, CommitTs2, ExplicitDefaultsForTimestamp, DdlLoggedWithXid, DefaultCollationForUtf8mb4, SqlRequirePrimaryKey, DefaultTableEncryption}
use Rattle.binlog_consts.specs.declared.status_var_key.UnknownStatusVarKey.{UnknownStatusVarKey}

-- The code of a key.
abbrev pub status_var_key_number : StatusVarKey → ℕ
status_var_key_number Flags2 = 0
status_var_key_number SqlMode = 1
status_var_key_number Catalog = 2
status_var_key_number AutoIncrement = 3
status_var_key_number Charset = 4
status_var_key_number TimeZone = 5
status_var_key_number CatalogNz = 6
status_var_key_number LcTimeNames = 7
status_var_key_number CharsetDatabase = 8
status_var_key_number TableMapForUpdate = 9
status_var_key_number MasterDataWritten = 10
status_var_key_number Invoker = 11
status_var_key_number UpdatedDbNames = 12
status_var_key_number Microseconds = 13
status_var_key_number CommitTs = 14
status_var_key_number CommitTs2 = 15
status_var_key_number ExplicitDefaultsForTimestamp = 16
status_var_key_number DdlLoggedWithXid = 17
status_var_key_number DefaultCollationForUtf8mb4 = 18
status_var_key_number SqlRequirePrimaryKey = 19
status_var_key_number DefaultTableEncryption = 20

-- The keys.
abbrev pub status_var_keys : List StatusVarKey
status_var_keys =
    Flags2 ∷
    SqlMode ∷
    Catalog ∷
    AutoIncrement ∷
    Charset ∷
    TimeZone ∷
    CatalogNz ∷
    LcTimeNames ∷
    CharsetDatabase ∷
    TableMapForUpdate ∷
    MasterDataWritten ∷
    Invoker ∷
    UpdatedDbNames ∷
    Microseconds ∷
    CommitTs ∷
    CommitTs2 ∷
    ExplicitDefaultsForTimestamp ∷
    DdlLoggedWithXid ∷
    DefaultCollationForUtf8mb4 ∷
    SqlRequirePrimaryKey ∷
    DefaultTableEncryption ∷
    []

-- The key with this code.
abbrev pub status_var_key_of : ℕ → Result StatusVarKey UnknownStatusVarKey
status_var_key_of = value_of status_var_key_number status_var_keys (λ n. record { 0 = n })

-- Decoding a key's code gives the key.
status_var_key_again : (key : StatusVarKey) → status_var_key_of (status_var_key_number key) ≡ Ok key
status_var_key_again Flags2 = refl
status_var_key_again SqlMode = refl
status_var_key_again Catalog = refl
status_var_key_again AutoIncrement = refl
status_var_key_again Charset = refl
status_var_key_again TimeZone = refl
status_var_key_again CatalogNz = refl
status_var_key_again LcTimeNames = refl
status_var_key_again CharsetDatabase = refl
status_var_key_again TableMapForUpdate = refl
status_var_key_again MasterDataWritten = refl
status_var_key_again Invoker = refl
status_var_key_again UpdatedDbNames = refl
status_var_key_again Microseconds = refl
status_var_key_again CommitTs = refl
status_var_key_again CommitTs2 = refl
status_var_key_again ExplicitDefaultsForTimestamp = refl
status_var_key_again DdlLoggedWithXid = refl
status_var_key_again DefaultCollationForUtf8mb4 = refl
status_var_key_again SqlRequirePrimaryKey = refl
status_var_key_again DefaultTableEncryption = refl

-- A number of 21 or more is the code of no key.
pub status_var_key_past : (n : ℕ) → 21 ≤ n → status_var_key_of n ≡ Err (record { 0 = n })
status_var_key_past n past = unknown_above status_var_key_number status_var_keys (λ m. record { 0 = m }) 21 n refl past

-- The keys have unique codes of one byte.
pub status_var_key_is_code : IsCode 1 status_var_key_number status_var_key_of
status_var_key_is_code = is_code 1 status_var_key_number status_var_keys (λ n. record { 0 = n }) refl status_var_key_again
