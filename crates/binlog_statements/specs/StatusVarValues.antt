-- The value of each status variable.
-- Source: MySQL's internals documentation, "QUERY_EVENT", and the documentation of its source code,
-- `mysql::binlog::event::Query_event`.
use Rattle.std.specs.Prelude.{◌≡◌, ◌≢◌, ◌↔◌, [], ◌∷◌, ◌++◌, drop, IsTrue}
use Rattle.byteorder.specs.Endian.{little_number}
use Rattle.binlog_consts.specs.declared.status_var_key.StatusVarKey.TheVariants as keys
use Rattle.binlog_statements.specs.Layouts.{counted, AreNames}
use Rattle.binlog_statements.specs.StatusVariables.{Variable}
use Rattle.binlog_statements.specs.declared.status_var_val.StatusVarVal.{StatusVarVal}
use Rattle.binlog_statements.specs.declared.status_var_val.StatusVarVal.TheVariants.{Flags2, SqlMode, Catalog, AutoIncrement, Charset, TimeZone, CatalogNz, LcTimeNames, CharsetDatabase, TableMapForUpdate, MasterDataWritten, Invoker, UpdatedDbNames, Microseconds, CommitTs, CommitTs2, ExplicitDefaultsForTimestamp, DdlLoggedWithXid, DefaultCollationForUtf8mb4, SqlRequirePrimaryKey, DefaultTableEncryption}

-- The variable has this value's key, and its bytes encode this value.
abbrev pub Has : Variable → StatusVarVal → Type 0
Has v (Flags2 bits) = (v.key ≡ keys.Flags2) × (bits ≡ little_number 4 v.value)
Has v (SqlMode bits) = (v.key ≡ keys.SqlMode) × (bits ≡ little_number 8 v.value)
Has v (Catalog bytes) = (v.key ≡ keys.Catalog) × (bytes.now ≡ v.value)
Has v (AutoIncrement increment offset) = (v.key ≡ keys.AutoIncrement) × (increment ≡ little_number 2 v.value) × (offset ≡ little_number 2 (drop 2 v.value))
Has v (Charset client connection server) = (v.key ≡ keys.Charset) × (client ≡ little_number 2 v.value) × (connection ≡ little_number 2 (drop 2 v.value))
    × (server ≡ little_number 2 (drop 4 v.value))
Has v (TimeZone text) = (v.key ≡ keys.TimeZone) × (v.value ≡ counted text)
Has v (CatalogNz text) = (v.key ≡ keys.CatalogNz) × (v.value ≡ counted text)
Has v (LcTimeNames number) = (v.key ≡ keys.LcTimeNames) × (number ≡ little_number 2 v.value)
Has v (CharsetDatabase number) = (v.key ≡ keys.CharsetDatabase) × (number ≡ little_number 2 v.value)
Has v (TableMapForUpdate bits) = (v.key ≡ keys.TableMapForUpdate) × (bits ≡ little_number 8 v.value)
Has v (MasterDataWritten bytes) = (v.key ≡ keys.MasterDataWritten) × (bytes ≡ v.value)
Has v (Invoker username hostname) = (v.key ≡ keys.Invoker) × (v.value ≡ counted username ++ counted hostname)
Has v (UpdatedDbNames names) = (v.key ≡ keys.UpdatedDbNames) × AreNames v.value names.items
Has v (Microseconds number) = (v.key ≡ keys.Microseconds) × (number ≡ little_number 3 v.value)
Has v (CommitTs bytes) = (v.key ≡ keys.CommitTs) × (bytes.now ≡ v.value)
Has v (CommitTs2 bytes) = (v.key ≡ keys.CommitTs2) × (bytes.now ≡ v.value)
Has v (ExplicitDefaultsForTimestamp is_set) = (v.key ≡ keys.ExplicitDefaultsForTimestamp) × (IsTrue is_set ↔ (v.value ≢ 0 ∷ []))
Has v (DdlLoggedWithXid number) = (v.key ≡ keys.DdlLoggedWithXid) × (number ≡ little_number 8 v.value)
Has v (DefaultCollationForUtf8mb4 number) = (v.key ≡ keys.DefaultCollationForUtf8mb4) × (number ≡ little_number 2 v.value)
Has v (SqlRequirePrimaryKey number) = (v.key ≡ keys.SqlRequirePrimaryKey) × (v.value ≡ number ∷ [])
Has v (DefaultTableEncryption number) = (v.key ≡ keys.DefaultTableEncryption) × (v.value ≡ number ∷ [])

-- A copy of a value: the same value, or a list of the same names.
abbrev pub IsCopyOf : StatusVarVal → StatusVarVal → Type 0
IsCopyOf (UpdatedDbNames names) (UpdatedDbNames copies) = copies.items ≡ names.items
IsCopyOf value copy = copy ≡ value
