-- The layouts of status variables' values, by key.
-- Source: MySQL's internals documentation, "QUERY_EVENT", and the documentation of its source code,
-- `mysql::binlog::event::Query_event`.
use Rattle.std.specs.Prelude.{◌≡◌, ◌≢◌, ℕ, zero, suc, ◌+◌, ◌⊎◌, List, [], ◌∷◌, ◌++◌, length, drop, Option, Some, None, All, flat_map, nat_le, nat_eq, if◌then◌else◌}
use Rattle.binlog_wire.specs.Fields.{HasNoZero}
use Rattle.binlog_consts.specs.declared.status_var_key.StatusVarKey.{StatusVarKey}
use Rattle.binlog_consts.specs.declared.status_var_key.StatusVarKey.TheVariants.{Flags2, SqlMode, Catalog, AutoIncrement, Charset, TimeZone, CatalogNz, LcTimeNames, CharsetDatabase, TableMapForUpdate, MasterDataWritten, Invoker, UpdatedDbNames, Microseconds, CommitTs, CommitTs2, ExplicitDefaultsForTimestamp, DdlLoggedWithXid, DefaultCollationForUtf8mb4, SqlRequirePrimaryKey, DefaultTableEncryption}
use Rattle.binlog_statements.specs.declared.layout.Layout.{Layout}
use Rattle.binlog_statements.specs.declared.layout.Layout.TheVariants.{Bytes, TextAnd, TwoTexts, Names}

-- The layout of each key's value.
abbrev pub layout_of : StatusVarKey → Layout
layout_of Flags2 = Bytes 4
layout_of SqlMode = Bytes 8
layout_of Catalog = TextAnd 1
layout_of AutoIncrement = Bytes 4
layout_of Charset = Bytes 6
layout_of TimeZone = TextAnd 0
layout_of CatalogNz = TextAnd 0
layout_of LcTimeNames = Bytes 2
layout_of CharsetDatabase = Bytes 2
layout_of TableMapForUpdate = Bytes 8
layout_of MasterDataWritten = Bytes 4
layout_of Invoker = TwoTexts
layout_of UpdatedDbNames = Names
layout_of Microseconds = Bytes 3
layout_of CommitTs = Bytes 0
layout_of CommitTs2 = Bytes 0
layout_of ExplicitDefaultsForTimestamp = Bytes 1
layout_of DdlLoggedWithXid = Bytes 8
layout_of DefaultCollationForUtf8mb4 = Bytes 2
layout_of SqlRequirePrimaryKey = Bytes 1
layout_of DefaultTableEncryption = Bytes 1

-- ---- which bytes are a value

-- The value has k bytes.
abbrev pub HasLength : ℕ → List ℕ → Type 0
HasLength k value = length value ≡ k

-- A text after its length in one byte.
abbrev pub counted : List ℕ → List ℕ
counted text = length text ∷ text

-- The value is a text after its length in one byte.
abbrev pub IsCounted : List ℕ → Type 0
IsCounted value = (text : List ℕ) × (value ≡ counted text)

-- The value is one part followed by another.
abbrev pub Both : (List ℕ → Type 0) → (List ℕ → Type 0) → List ℕ → Type 0
Both F G value = (first : List ℕ) × (second : List ℕ) × (value ≡ first ++ second) × F first × G second

-- A null-terminated name.
abbrev pub ended : List ℕ → List ℕ
ended name = name ++ 0 ∷ []

-- Null-terminated names after their count in one byte. A count of 254 says that there were too many databases; no
-- names follow it.
abbrev pub AreNames : List ℕ → List (List ℕ) → Type 0
AreNames value names = ((value ≡ 254 ∷ []) × (names ≡ []))
    ⊎ ((length names ≢ 254) × (value ≡ length names ∷ flat_map ended names) × All HasNoZero names)

-- The bytes are a value of this layout.
abbrev pub IsLaidOut : Layout → List ℕ → Type 0
IsLaidOut (Bytes k) value = HasLength k value
IsLaidOut (TextAnd k) value = Both IsCounted (HasLength k) value
IsLaidOut TwoTexts value = Both IsCounted IsCounted value
IsLaidOut Names value = (names : List (List ℕ)) × AreNames value names

-- ---- the length of the value at the start, if there is a whole one

-- The length of a part of k bytes, if they are there.
abbrev pub fixed_len : ℕ → List ℕ → Option ℕ
fixed_len k s = if nat_le k (length s) then Some k else None

-- The length of a text with its length byte, if all of it is there.
abbrev pub text_len : List ℕ → Option ℕ
text_len [] = None
text_len (n ∷ s) = if nat_le n (length s) then Some (suc n) else None

-- Adds n to a length, if there is one.
abbrev pub plus : ℕ → Option ℕ → Option ℕ
plus n None = None
plus n (Some m) = Some (n + m)

-- The length of a part together with the part that follows it.
abbrev pub behind : (List ℕ → Option ℕ) → List ℕ → Option ℕ → Option ℕ
behind g s None = None
behind g s (Some n) = plus n (g (drop n s))

-- The length of one part followed by another, if both are there.
abbrev pub both_len : (List ℕ → Option ℕ) → (List ℕ → Option ℕ) → List ℕ → Option ℕ
both_len f g s = behind g s (f s)

-- The length of n null-terminated names.
abbrev pub names_len : ℕ → List ℕ → Option ℕ
names_len zero s = Some 0
names_len (suc n) [] = None
names_len (suc n) (zero ∷ s) = plus 1 (names_len n s)
names_len (suc n) (suc b ∷ s) = plus 1 (names_len (suc n) s)

-- The length of null-terminated names with their count, if all of them are there.
abbrev pub counted_names_len : List ℕ → Option ℕ
counted_names_len [] = None
counted_names_len (n ∷ s) = if nat_eq n 254 then Some 1 else plus 1 (names_len n s)

-- The length of the value of this layout at the start of the bytes, if there is a whole one.
abbrev pub value_len : Layout → List ℕ → Option ℕ
value_len (Bytes k) s = fixed_len k s
value_len (TextAnd k) s = both_len text_len (fixed_len k) s
value_len TwoTexts s = both_len text_len text_len s
value_len Names s = counted_names_len s

-- All the bytes are one value of this layout.
abbrev pub IsWholeLen : Layout → List ℕ → Type 0
IsWholeLen layout s = value_len layout s ≡ Some (length s)
