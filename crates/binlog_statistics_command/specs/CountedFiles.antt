-- What is counted of files, and written.
use Rattle.std.specs.Prelude.{◌≡◌, ℕ, ◌^◌, Bool, List, Option}
use Rattle.binlog_visits.specs.Visits.{VisitRelation, RefusalRelation}
use Rattle.binlog_payload_visits.specs.PartVisits.{PartVisitRelation, PartRefusalRelation}
use Rattle.binlog_filters.specs.declared.filter.Filter.{Filter}
use Rattle.clap.specs.declared.parser.matches.Found.{Found}
use Rattle.binlog_cli.specs.FilterWords.{StatesFilter}
use Rattle.binlog_cli.specs.Outputs.{worse_outcome}
use Rattle.binlog_cli.specs.declared.output.Output.{Output}
use Rattle.binlog_cli.specs.declared.exit_status.Outcome.{Outcome}
use Rattle.binlog_cli.specs.declared.exit_status.Status.{Status}
use Rattle.binlog_inputs.specs.Outputs.{bytes_of, Begins, Ends}
use Rattle.binlog_change_lines.specs.InsideVisits.{Inside, visitor_of, VisitsInside, RefusesInside}
use Rattle.binlog_inputs.specs.Reading.{ShowsTaken}
use Rattle.binlog_statistics_command.specs.RepeatedStats.{WritesAll}
use Rattle.binlog_inputs.specs.Requests.{StatesTablesOf}

-- A visitor that counts is shown items and parts; no item of which a part is an error is counted yet. The parts are those of the tables that
-- the options ask for, in contents of at most 1 GiB.
pub record CountsFrom {T : Type 0} (found : Found) (counter : T) (start : Inside T) : Type 0 where
  pub counts : visitor_of start ≡ counter
  pub tables : StatesTablesOf found start.visitor.visitor.tables
  pub undamaged : start.visitor.damaged ≡ 0
  pub limit : start.limit ≡ 2 ^ 30

-- The options state the filter. The counts are written once, or again and again after so many seconds, until the log isn't followed any more.
-- The files have these names and bytes; `old` and `new` are the bytes of the output's writer.
module _ {B N : Type 0} (contents : B → Option (List ℕ)) (found : Found) (is_verified is_followed : Bool) (bytes : N → Option (List ℕ)) (names : List N) (period : Option ℕ) where
  -- A visitor that counts, as `counter` from the start on, is shown what the filter takes of the files, and of compressed transactions, and
  -- its counts are written. `writes` says what is written of counts, and with which outcome. An item of which a part is an error is one for
  -- its file.
  pub record WritesCounts {T : Type 0} (visits : VisitRelation T) (visits_part : PartVisitRelation T) (refuses : RefusalRelation T) (refuses_part : PartRefusalRelation T)
      (writes : T → Outcome → Option (List ℕ) → Option (List ℕ) → Type 0) (counter : T) (old : Option (List ℕ)) (status : Status) (new : Option (List ℕ)) : Type 0 where
    pub filter : Filter
    pub states : StatesFilter found filter
    pub start : Inside T
    pub from : CountsFrom found counter start
    pub read : Outcome
    pub counted : Inside T
    pub shown : ShowsTaken (VisitsInside visits visits_part) (RefusesInside visits visits_part refuses refuses_part) (λ inside. inside.visitor.damaged) filter is_verified is_followed bytes names start read counted
    pub output : Output B
    pub begins : Begins contents old output
    pub outcome : Outcome
    pub behind : Output B
    pub written : WritesAll writes period (visitor_of counted) outcome (bytes_of contents output) (bytes_of contents behind)
    pub ends : Ends contents behind (worse_outcome read outcome) status new
