-- The lines of the rows of the files that a command reads.
use Rattle.std.specs.Prelude.{◌≡◌, ◌⊎◌, ℕ, ◌==◌, Bool, List, Option, Result, Ok}
use Rattle.binlog_wire.specs.declared.error.Error.{Error}
use Rattle.binlog_filters.specs.declared.filter.Filter.{Filter}
use Rattle.binlog_change_lines.specs.Written.{Begins, KeepsMost, WritesTaken, RefusesTold, damaged_of, with_positions, writer_of}
use Rattle.binlog_change_lines.specs.declared.change_filter.ChangeFilter.{ChangeFilter}
use Rattle.clap.specs.declared.parser.matches.Found.{Found}
use Rattle.binlog_cli.specs.FilterWords.{StatesFilter}
use Rattle.binlog_cli.specs.declared.output.Output.{Output}
use Rattle.binlog_cli.specs.declared.exit_status.Outcome.{Outcome}
use Rattle.binlog_cli.specs.declared.exit_status.Status.{Status}
use Rattle.binlog_cli.specs.declared.exit_status.Status.TheVariants.{Fine, Failed}
use Rattle.binlog_inputs.specs.Outputs as outputs
use Rattle.binlog_inputs.specs.Positions.{in_file, positions_of}
use Rattle.binlog_inputs.specs.Reading.{unless_followed, is_last, is_last_followed, InOrder, ShowsFile}
use Rattle.binlog_inputs.specs.declared.positions.Positions.{Positions}

-- The same with a filter that takes these positions.
abbrev pub taking : {W : Type 0} → Positions → ChangeFilter W → ChangeFilter W
taking positions old = with_positions old positions.start positions.stop

-- `contents` are the bytes of an output.
module _ {W : Type 0} (contents : W → Option (List ℕ)) where
  -- The lines are written of the rows that the filter takes of a file, of which it is shown all items. An item of which a part is an error
  -- is one for the file. `old` has begun with the file.
  abbrev pub WritesFile : (is_verified : Bool) (known : Option (List ℕ)) (old : ChangeFilter W) (answer : Result Status Error) (new : ChangeFilter W) → Type 0
  WritesFile = ShowsFile (WritesTaken contents) (RefusesTold contents) (λ lines. damaged_of lines)

  -- The same, with the name of the file, or memory ran out for it, and nothing is written.
  abbrev pub ChangesFile : (is_verified : Bool) (known : Option (List ℕ)) (name : List ℕ) (old : ChangeFilter W) (answer : Result Status Error) (new : ChangeFilter W) → Type 0
  ChangesFile is_verified known name old answer new =
      ((answer ≡ Ok Failed) × KeepsMost old new) ⊎ ((begun : ChangeFilter W) × Begins name old begun × WritesFile is_verified known begun answer new)

  -- Files are taken in order, from this index on, and only the last one is followed. `name_of` and `bytes` are the name and the bytes of
  -- each. The start position that is asked for is one of the first file, with the index 0, and the stop position one of the last file.
  abbrev pub ChangesFrom : {N : Type 0} (is_verified is_followed : Bool) (name_of : N → List ℕ) (bytes : N → Option (List ℕ)) (asked : Positions) (index : ℕ) (names : List N) (status : Status) (old : ChangeFilter W) (result : Outcome) (new : ChangeFilter W) → Type 0
  ChangesFrom is_verified is_followed name_of bytes asked =
      InOrder (λ index behind name old answer new. ChangesFile is_verified (unless_followed (is_last_followed is_followed behind) (bytes name)) (name_of name)
      (taking (in_file asked (index == 0) (is_last behind)) old) answer new)

  -- All files are taken in order, where the positions that the filter takes before them are asked for.
  abbrev pub ChangesFiles : {N : Type 0} (is_verified is_followed : Bool) (name_of : N → List ℕ) (bytes : N → Option (List ℕ)) (names : List N) (status : Status) (old : ChangeFilter W) (result : Outcome) (new : ChangeFilter W) → Type 0
  ChangesFiles is_verified is_followed name_of bytes names status old = ChangesFrom is_verified is_followed name_of bytes (positions_of old.filtered.filtered.filter) 0 names status old

-- The lines of the rows that the filter takes of files are written to an output, which is finished. The options state the filter;
-- `old` and `new` are the bytes of the output's writer, and `IsMade` says what else holds of the lines as they are made.
pub record WritesChanges {B N : Type 0} (contents : B → Option (List ℕ)) (options : Found) (is_verified is_followed : Bool) (name_of : N → List ℕ) (bytes : N → Option (List ℕ)) (names : List N)
    (IsMade : ChangeFilter (Output B) → Type 0) (old : Option (List ℕ)) (status : Status) (new : Option (List ℕ)) : Type 0 where
  pub filter : Filter
  pub states : StatesFilter options filter
  pub start : ChangeFilter (Output B)
  pub filtered : start.filtered.filtered.filter ≡ filter
  pub begins : outputs.Begins contents old (writer_of start).output
  pub made : IsMade start
  pub outcome : Outcome
  pub behind : ChangeFilter (Output B)
  pub changes : ChangesFiles (outputs.bytes_of contents) is_verified is_followed name_of bytes names Fine start outcome behind
  pub ends : outputs.Ends contents (writer_of behind).output outcome status new
