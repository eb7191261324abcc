-- The values of status variables that state no collation of the client's.
use Rattle.std.proofs.Common.{◌≡◌, ℕ, None, refl}
use Rattle.binlog_file.specs.declared.StatusVarVal.{StatusVarVal}
use Rattle.binlog_file.specs.declared.StatusVarVal.TheVariants.{Flags2, SqlMode, Catalog, AutoIncrement, Charset, TimeZone, CatalogNz, LcTimeNames, CharsetDatabase, TableMapForUpdate, MasterDataWritten, Invoker, UpdatedDbNames, Microseconds, CommitTs, CommitTs2, ExplicitDefaultsForTimestamp, DdlLoggedWithXid, DefaultCollationForUtf8mb4, SqlRequirePrimaryKey, DefaultTableEncryption}
use Rattle.binlog_file.specs.StatusVariables.{Variable}
use Rattle.binlog_file.specs.StatusVarValues.{Has}
use Rattle.binlog_json_bodies.specs.ClientSets.{collation_in}

pub no_collation : (v : Variable) (value : StatusVarVal) → Has v value → ((client connection server : ℕ) → value ≡ Charset client connection server → ⊥) → None ≡ collation_in v
no_collation v (Flags2 x) has other = rw (has.0) refl
no_collation v (SqlMode x) has other = rw (has.0) refl
no_collation v (Catalog x) has other = rw (has.0) refl
no_collation v (AutoIncrement x y) has other = rw (has.0) refl
no_collation v (Charset x y z) has other = absurd (other x y z refl)
no_collation v (TimeZone x) has other = rw (has.0) refl
no_collation v (CatalogNz x) has other = rw (has.0) refl
no_collation v (LcTimeNames x) has other = rw (has.0) refl
no_collation v (CharsetDatabase x) has other = rw (has.0) refl
no_collation v (TableMapForUpdate x) has other = rw (has.0) refl
no_collation v (MasterDataWritten x) has other = rw (has.0) refl
no_collation v (Invoker x y) has other = rw (has.0) refl
no_collation v (UpdatedDbNames x) has other = rw (has.0) refl
no_collation v (Microseconds x) has other = rw (has.0) refl
no_collation v (CommitTs x) has other = rw (has.0) refl
no_collation v (CommitTs2 x) has other = rw (has.0) refl
no_collation v (ExplicitDefaultsForTimestamp x) has other = rw (has.0) refl
no_collation v (DdlLoggedWithXid x) has other = rw (has.0) refl
no_collation v (DefaultCollationForUtf8mb4 x) has other = rw (has.0) refl
no_collation v (SqlRequirePrimaryKey x) has other = rw (has.0) refl
no_collation v (DefaultTableEncryption x) has other = rw (has.0) refl
