-- The lines of MariaDB's GTIDs behind those of groups.
use Rattle.std.proofs.Common.{inr, ℕ, Bool, List, Option, Result, Ok, Err}
use Rattle.std.proofs.KnownBytes.{Appends-trans}
use Rattle.binlog_wire.specs.declared.error.Error.{Error}
use Rattle.binlog_mariadb.specs.declared.maria_gtid.MariaGtid.{MariaGtid}
use Rattle.binlog_gtid_sets.specs.declared.gtid_group.GtidGroup.{GtidGroup}
use Rattle.binlog_gtid_listing.specs.GroupLines.{Writes, WritesLines}
use Rattle.binlog_gtid_listing.specs.MariaLines.{maria_lines}
use Rattle.binlog_gtid_listing.specs.LogLines.{WritesLogGtids}
use Rattle.binlog_gtid_listing.proofs.Writing.{behind_stop}

pub lines_behind : (has_gaps : Bool) (groups : List GtidGroup) (last others : List MariaGtid) (old mid new : Option (List ℕ)) (answer : Result (Unit {0}) Error)
    → WritesLines has_gaps groups old (Ok tt) mid → Writes (maria_lines others last) mid answer new → WritesLogGtids has_gaps groups last others old answer new
lines_behind has_gaps groups last others old mid new (Ok done) (lines, listed, written) wrote = (lines, listed, Appends-trans old mid new _ _ written wrote)
lines_behind has_gaps groups last others old mid new (Err error) (lines, listed, written) wrote =
    let stopped = behind_stop lines _ old mid new error written wrote in
    inr (lines, listed, stopped.0, stopped.1)
