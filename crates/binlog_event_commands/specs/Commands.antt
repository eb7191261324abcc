-- What each command makes of its output: the bytes of its writer, and the status.
use Rattle.std.specs.Prelude.{◌≡◌, ◌⊎◌, ℕ, Bool, true, false, List, [], Option}
use Rattle.std.specs.Io.KnownBytes.{Keeps}
use Rattle.binlog_visits.specs.Visits.{VisitRelation, RefusalRelation}
use Rattle.binlog_ends.specs.Views.{CountedView}
use Rattle.binlog_filters.specs.declared.filter.Filter.{Filter}
use Rattle.binlog_payload_filters.specs.declared.filtered.PayloadFiltered.{PayloadFiltered}
use Rattle.binlog_gtid_listing.specs.LogItems.{log_gtids}
use Rattle.binlog_commands.specs.Collecting.{collected, Collects, RefusesCollected}
use Rattle.binlog_commands.specs.declared.gtids.GtidCollector.{GtidCollector}
use Rattle.binlog_commands.specs.declared.tally.Tally.{Tally}
use Rattle.binlog_payload_visits.specs.declared.checked.Checked.{Checked}
use Rattle.clap.specs.declared.parser.matches.Found.{Found}
use Rattle.binlog_cli.specs.FilterWords.{StatesFilter}
use Rattle.binlog_inputs.specs.Reports.{ReportedView}
use Rattle.binlog_cli.specs.Outputs.{worse_outcome, written, unwritten}
use Rattle.binlog_cli.specs.declared.output.Output.{Output}
use Rattle.binlog_cli.specs.declared.exit_status.Outcome.{Outcome}
use Rattle.binlog_cli.specs.declared.exit_status.Status.{Status}
use Rattle.binlog_cli.specs.declared.exit_status.Status.TheVariants.{Fine, Damaged}
use Rattle.binlog_inputs.specs.Outputs.{bytes_of, Begins, Ends}
use Rattle.binlog_inputs.specs.Reading.{ShowsTaken}
use Rattle.binlog_event_commands.specs.Copying.{CopiesFiles}
use Rattle.binlog_event_commands.specs.Gtids.{WritesWanted}
use Rattle.binlog_event_commands.specs.Verifying.{verifying, VerifiesFiles}

-- The status of a copy to a file that is kept: the logs were read, if they have no more than damage.
abbrev pub is_kept : Status → Bool
is_kept Fine = true
is_kept Damaged = true
is_kept status = false

-- The options state the filter. The files have these names and bytes; `old` and `new` are the bytes of the output's writer.
module _ {B N : Type 0} (contents : B → Option (List ℕ)) (options : Found) (is_verified is_followed : Bool) (bytes : N → Option (List ℕ)) (names : List N) where
  -- A visitor with an output is shown what the filter takes of the files, and its output is finished. `refused` is the number of events
  -- that it has counted as errors, and `IsMade` says what else holds of the visitor as it is made.
  pub record WritesShown {T : Type 0} (visits : VisitRelation T) (refuses : RefusalRelation T) (refused : T → ℕ) (output_of : T → Output B) (IsMade : T → Type 0)
      (old : Option (List ℕ)) (status : Status) (new : Option (List ℕ)) : Type 0 where
    pub filter : Filter
    pub states : StatesFilter options filter
    pub start : T
    pub begins : Begins contents old (output_of start)
    pub made : IsMade start
    pub outcome : Outcome
    pub behind : T
    pub shown : ShowsTaken visits refuses refused filter is_verified is_followed bytes names start outcome behind
    pub ends : Ends contents (output_of behind) outcome status new

  -- ---- `copy`

  -- The file header is written, and behind it what the filter takes of the files, and all descriptions.
  pub record WritesCopy (old : Option (List ℕ)) (status : Status) (new : Option (List ℕ)) : Type 0 where
    pub filter : Filter
    pub states : StatesFilter options filter
    pub output : Output B
    pub begins : Begins contents old output
    pub outcome : Outcome
    pub behind : Output B
    pub copies : CopiesFiles (bytes_of contents) is_verified is_followed bytes names filter output outcome behind
    pub ends : Ends contents behind outcome status new

  -- The output failed in the file header, and the status says so.
  pub record WritesNoHeader (status : Status) (new : Option (List ℕ)) : Type 0 where
    pub output : Output B
    pub ends : Ends contents output (unwritten Fine) status new

  -- The log is written of what the filter takes of the files, or the file header can't be.
  abbrev pub CopiesOr : (old : Option (List ℕ)) (status : Status) (new : Option (List ℕ)) → Type 0
  CopiesOr old status new = WritesCopy old status new ⊎ WritesNoHeader status new

  -- ---- `gtids`

  -- The GTIDs of what the filter takes of the files are collected, and the lines of the errors are written on the way; behind them
  -- the lines of the set.
  pub record WritesGtids (missing_in : Option N) (old : Option (List ℕ)) (status : Status) (new : Option (List ℕ)) : Type 0 where
    pub filter : Filter
    pub states : StatesFilter options filter
    pub start : GtidCollector (CountedView (Output B))
    pub begins : Begins contents old start.output.inner
    pub empty : start.gtids ≡ log_gtids [] []
    pub none : start.refused ≡ 0
    pub read : Outcome
    pub found : GtidCollector (CountedView (Output B))
    pub shown : ShowsTaken (λ before maps index item after. Collects index item (collected (λ output. bytes_of contents output.inner) before) (collected (λ output. bytes_of contents output.inner) after))
        (λ before maps index item error after. RefusesCollected index item (collected (λ output. bytes_of contents output.inner) before) error (collected (λ output. bytes_of contents output.inner) after))
        (λ collector. collector.refused) filter is_verified is_followed bytes names start read found
    pub lines : Outcome
    pub output : Output B
    pub listed : WritesWanted bytes missing_in found.gtids (bytes_of contents found.output.inner) lines (bytes_of contents output)
    pub ends : Ends contents output (worse_outcome read lines) status new

  -- ---- `verify`

  -- The files are verified with what the filter takes of them, and the line of each is written.
  pub record WritesTallies (is_quiet : Bool) (name_of : N → List ℕ) (old : Option (List ℕ)) (status : Status) (new : Option (List ℕ)) : Type 0 where
    pub start : ReportedView (PayloadFiltered (Checked Tally))
    pub states : StatesFilter options start.visitor.filtered.filter
    pub output : Output B
    pub begins : Begins contents old output
    pub outcome : Outcome
    pub behind : ReportedView (PayloadFiltered (Checked Tally))
    pub listed : Output B
    pub verifies : VerifiesFiles is_verified is_followed is_quiet name_of bytes names Fine (verifying start (bytes_of contents output)) outcome (verifying behind (bytes_of contents listed))
    pub ends : Ends contents listed outcome status new

  -- ---- `copy` to a writer or a file

  -- The log is written behind what the writer has, or the file header can't be; the writer is dropped then.
  abbrev pub Copied : (old : Option (List ℕ)) (status : Status) → Type 0
  Copied old status = (new : Option (List ℕ)) × CopiesOr old status new

  -- The log is written, all of it, and the status is that of what was read.
  pub record WritesDraft (old : Option (List ℕ)) (status : Status) (new : Option (List ℕ)) : Type 0 where
    pub filter : Filter
    pub states : StatesFilter options filter
    pub output : Output B
    pub begins : Begins contents old output
    pub behind : Output B
    pub copies : CopiesFiles (bytes_of contents) is_verified is_followed bytes names filter output (written status) behind
    pub whole : Keeps (bytes_of contents behind) new

  -- A file is begun, the log is written into it, and it has the bytes of the log if it is kept. `is_fresh` says which bytes it is begun
  -- with, and `has` which bytes it has.
  pub record WritesFile (is_fresh has : Option (List ℕ) → Type 0) (status : Status) : Type 0 where
    pub begun : Option (List ℕ)
    pub fresh : is_fresh begun
    pub ended : Option (List ℕ)
    pub writes : WritesDraft begun status ended
    pub kept : is_kept status ≡ true → has ended
