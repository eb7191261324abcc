-- The lines of the GTIDs of logs, and what has become of them.
use Rattle.std.specs.Prelude.{◌≡◌, ◌⊎◌, ℕ, Bool, true, false, ◌&&◌, not, List, [], ◌∷◌, Option, Some, None, Result, if◌then◌else◌}
use Rattle.std.specs.declared.io.impls.Sink.{Sink}
use Rattle.binlog_wire.specs.declared.error.Error.{Error}
use Rattle.binlog_ends.specs.Views.{CountedView}
use Rattle.binlog_gtid_sets.specs.declared.gtid_group.GtidGroup.{GtidGroup}
use Rattle.binlog_gtid_sets.specs.GtidGroups.{Pair, is_tracked}
use Rattle.binlog_gtid_listing.specs.LogItems.{log_gtids}
use Rattle.binlog_gtid_listing.specs.LogLines.{WritesLogGtids}
use Rattle.binlog_gtid_listing.specs.declared.log_gtids.LogGtids.{LogGtids}
use Rattle.binlog_mariadb.specs.declared.maria_gtid.MariaGtid.{MariaGtid}
use Rattle.binlog_filters.specs.Taking.{HasNoCondition}
use Rattle.binlog_filters.specs.declared.filter.Filter.{Filter}
use Rattle.binlog_commands.specs.Collecting.{collected, Collects, RefusesCollected}
use Rattle.binlog_commands.specs.declared.gtids.GtidCollector.{GtidCollector}
use Rattle.binlog_cli.specs.Statuses.{worse}
use Rattle.binlog_cli.specs.Outputs.{written, worse_outcome}
use Rattle.binlog_cli.specs.declared.exit_status.Outcome.{Outcome}
use Rattle.binlog_cli.specs.declared.exit_status.Status.{Status}
use Rattle.binlog_cli.specs.declared.exit_status.Status.TheVariants.{NotOpened, Failed}
use Rattle.binlog_inputs.specs.Outputs.{outcome_of_lines}
use Rattle.binlog_inputs.specs.Reading.{ShowsTaken}

-- The line of each group of the set is written, with its gaps or without them, and behind them those of the last of MariaDB's GTIDs that
-- others lack, up to the first that can't be.
pub record WritesSet (has_gaps : Bool) (groups : List GtidGroup) (last others : List MariaGtid) (old : Option (List ℕ)) (outcome : Outcome) (new : Option (List ℕ)) : Type 0 where
  pub answer : Result (Unit {0}) Error
  pub does : WritesLogGtids has_gaps groups last others old answer new
  pub is : outcome ≡ outcome_of_lines answer

-- The groups are those of the GTIDs of one set that another one doesn't have.
abbrev pub AreMissing : (groups others difference : List GtidGroup) → Type 0
AreMissing groups others difference = (pair : Pair) (gno : ℕ) → is_tracked difference pair gno ≡ (is_tracked groups pair gno && not (is_tracked others pair gno))

-- Their lines are written, without gaps, and those of the last of MariaDB's GTIDs that the other log lacks; or memory ran out for them.
abbrev pub WritesDifference : (gtids others : LogGtids) (old : Option (List ℕ)) (outcome : Outcome) (new : Option (List ℕ)) → Type 0
WritesDifference gtids others old outcome new =
    ((difference : List GtidGroup) × AreMissing gtids.mysql others.mysql difference × WritesSet false difference gtids.maria others.maria old outcome new) ⊎ ((outcome ≡ written Failed) × (new ≡ old))

-- ---- another log

-- The log couldn't be read as far as it goes.
abbrev pub is_unread : Status → Bool
is_unread NotOpened = true
is_unread Failed = true
is_unread status = false

-- The status of a log that was read to this outcome.
abbrev pub status_read : Outcome → Status
status_read outcome = if outcome.is_written then outcome.status else worse outcome.status Failed

-- Nothing is written if the log couldn't be read, and else the difference.
abbrev pub WritesUnless : (unread : Bool) (status : Status) (gtids others : LogGtids) (old : Option (List ℕ)) (outcome : Outcome) (new : Option (List ℕ)) → Type 0
WritesUnless true status gtids others old outcome new = (outcome ≡ written status) × (new ≡ old)
WritesUnless false status gtids others old outcome new =
    (lines : Outcome) × WritesDifference gtids others old lines new × (outcome ≡ worse_outcome (written status) lines)

-- An output of which nothing is known.
abbrev pub unknown : CountedView Sink → Option (List ℕ)
unknown output = None

-- The lines of the GTIDs are written that another log lacks, of which all is collected. `bytes` are those of a file.
pub record WritesMissing {N : Type 0} (bytes : N → Option (List ℕ)) (other : N) (gtids : LogGtids) (old : Option (List ℕ)) (outcome : Outcome) (new : Option (List ℕ)) : Type 0 where
  pub filter : Filter
  pub takes_all : HasNoCondition filter
  pub start : GtidCollector (CountedView Sink)
  pub empty : start.gtids ≡ log_gtids [] []
  pub none : start.refused ≡ 0
  pub read : Outcome
  pub found : GtidCollector (CountedView Sink)
  pub shown : ShowsTaken (λ before maps index item after. Collects index item (collected unknown before) (collected unknown after))
      (λ before maps index item error after. RefusesCollected index item (collected unknown before) error (collected unknown after))
      (λ collector. collector.refused) filter false false bytes (other ∷ []) start read found
  pub writes : WritesUnless (is_unread (status_read read)) (status_read read) gtids found.gtids old outcome new

-- The lines of all GTIDs are written, with their gaps, or of those that the log `missing_in` lacks.
abbrev pub WritesWanted : {N : Type 0} (bytes : N → Option (List ℕ)) (missing_in : Option N) (gtids : LogGtids) (old : Option (List ℕ)) (outcome : Outcome) (new : Option (List ℕ)) → Type 0
WritesWanted bytes None gtids old outcome new = WritesSet true gtids.mysql gtids.maria [] old outcome new
WritesWanted bytes (Some other) gtids old outcome new = WritesMissing bytes other gtids old outcome new
