-- The last GTID of an origin in a list.
use Rattle.std.specs.Prelude.{◌≡◌, ℕ, true, false, List, [], ◌∷◌, ◌++◌}
use Rattle.binlog_mariadb.specs.declared.maria_gtid.MariaGtid.{MariaGtid}
use Rattle.binlog_maria_gtids.specs.LastGtids.{Origin, is_of}

-- No GTID of the list has the origin.
abbrev pub HasNone : List MariaGtid → Origin → Type 0
HasNone [] o = Unit {0}
HasNone (gtid ∷ gtids) o = (is_of o gtid ≡ false) × HasNone gtids o

-- A GTID of the list has the origin and this sequence number, and none behind it has the origin.
pub record IsLast (gtids : List MariaGtid) (o : Origin) (sequence : ℕ) : Type 0 where
  pub before : List MariaGtid
  pub gtid : MariaGtid
  pub behind : List MariaGtid
  pub whole : gtids ≡ before ++ gtid ∷ behind
  pub same : is_of o gtid ≡ true
  pub number : gtid.sequence ≡ sequence
  pub none : HasNone behind o
