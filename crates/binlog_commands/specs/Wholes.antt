-- Which GTIDs are known behind transactions of a file.
use Rattle.std.specs.Prelude.{◌≡◌, ℕ, ◌==◌, ◌<◌, Bool, false, ◌&&◌, ◌||◌, List, [], ◌∷◌, All, Some}
use Rattle.binlog_gtid_sets.specs.GtidGroups.{Pair, is_same}
use Rattle.binlog_maria_gtids.specs.LastGtids.{last_of, origin_of}
use Rattle.binlog_mariadb.specs.declared.maria_gtid.MariaGtid.{MariaGtid}

-- A GTID of MySQL's: a source with its tag, and a number.
pub record Gtid : Type 0 where
  pub pair : Pair
  pub number : ℕ

abbrev pub is_gtid : Gtid → Pair → ℕ → Bool
is_gtid gtid pair n = is_same gtid.pair pair && gtid.number == n

-- The GTIDs that are known behind these transactions, with those of the list in front of them.
abbrev pub is_known : (list : Pair → ℕ → Bool) → List Gtid → Pair → ℕ → Bool
is_known list [] pair n = list pair n
is_known list (gtid ∷ gtids) pair n = is_gtid gtid pair n || is_known list gtids pair n

-- No GTID of the rest is known before it.
abbrev pub AreNew : (list : Pair → ℕ → Bool) (front rest : List Gtid) → Type 0
AreNew list front rest = All (λ gtid. is_known list front gtid.pair gtid.number ≡ false) rest

-- Each GTID of the rest has a higher number than the last one of its domain and server before it.
abbrev pub AreNewer : (before rest : List MariaGtid) → Type 0
AreNewer before rest = All (λ gtid. (n : ℕ) → last_of before (origin_of gtid) ≡ Some n → n < gtid.sequence) rest
