-- The lines of all GTIDs of a log: those of the groups of MySQL's GTIDs, and behind them those of MariaDB's.
use Rattle.std.specs.Prelude.{◌≡◌, ◌⊎◌, ℕ, Bool, List, ◌++◌, Option, Result, Ok, Err}
use Rattle.std.specs.Io.KnownBytes.{Appends}
use Rattle.binlog_wire.specs.declared.error.Error.{Error}
use Rattle.binlog_wire.specs.declared.error.Error.TheVariants.{Writer}
use Rattle.binlog_ends.specs.Counts.{AppendsFront}
use Rattle.binlog_mariadb.specs.declared.maria_gtid.MariaGtid.{MariaGtid}
use Rattle.binlog_gtid_sets.specs.declared.gtid_group.GtidGroup.{GtidGroup}
use Rattle.binlog_gtid_listing.specs.GroupLines.{AreLines, WritesSomeLines}
use Rattle.binlog_gtid_listing.specs.MariaLines.{maria_lines}

-- All lines are written; or those of some groups, or a front of all lines where the writer failed in those of MariaDB's GTIDs. `has_gaps`
-- says whether the lines of the groups have the numbers that are missing; only then memory runs out.
abbrev pub WritesLogGtids : (has_gaps : Bool) (groups : List GtidGroup) (last others : List MariaGtid) (old : Option (List ℕ)) → Result (Unit {0}) Error → (new : Option (List ℕ)) → Type 0
WritesLogGtids has_gaps groups last others old (Ok done) new =
    (lines : List ℕ) × AreLines has_gaps groups lines × Appends old new (lines ++ maria_lines others last)
WritesLogGtids has_gaps groups last others old (Err error) new =
    WritesSomeLines has_gaps groups old error new
    ⊎ ((lines : List ℕ) × AreLines has_gaps groups lines × (error ≡ Writer) × AppendsFront old new (lines ++ maria_lines others last))
