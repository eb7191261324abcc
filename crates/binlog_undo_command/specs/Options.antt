-- What the options of `binlog undo` ask for.
use Rattle.std.specs.Prelude.{◌≡◌, ◌≢◌, ◌⊎◌, ℕ, Bool, true, false, List, [], Option, Some, None, codes}
use Rattle.clap.specs.Matches.{first_value, one_text}
use Rattle.clap.specs.declared.parser.matches.Found.{Found}
use Rattle.binlog_cli.specs.FilterWords.{NeverBegins, StatesFilter}
use Rattle.binlog_cli.specs.TableWords.{texts_given, HasNoTable, StatesTables}
use Rattle.binlog_cli.specs.declared.exit_status.Status.{Status}
use Rattle.binlog_cli.specs.declared.exit_status.Status.TheVariants.{Usage}
use Rattle.binlog_undo.specs.declared.inverse_event.ForeignKeyChecks.{ForeignKeyChecks}
use Rattle.binlog_undo.specs.declared.inverse_event.ForeignKeyChecks.TheVariants.{AsLogged, Off}
use Rattle.binlog_filters.specs.declared.filter.Filter.{Filter}
use Rattle.binlog_undo_command.specs.LogPlaces.{start_at, stop_at}
use Rattle.binlog_undo_command.specs.declared.log_place.LogPlace.{LogPlace}
use Rattle.binlog_undo_command.specs.Reasons.{AreSkipNames, StatesSkips}
use Rattle.binlog_undo_index.specs.declared.skips.Skips.{Skips}
use Rattle.binlog_undo_log.specs.Files.{IsFresh}
use Rattle.binlog_undo_log.specs.declared.choice.Choice.{Choice}
use Rattle.binlog_undo_log.specs.declared.scan.UndoScan.{UndoScan}

-- A flag with this text, if it is there, is given or not.
abbrev pub StatesFlag : Option (List ℕ) → Bool → Type 0
StatesFlag text is_given = (text ≡ None → is_given ≡ false) × (text ≡ Some (codes "true") → is_given ≡ true) × (text ≡ Some (codes "false") → is_given ≡ false)

-- The flag with this text, if it is there, turns the checks of foreign keys off.
abbrev pub StatesChecks : Option (List ℕ) → ForeignKeyChecks → Type 0
StatesChecks text checks = (text ≡ None → checks ≡ AsLogged) × (text ≡ Some (codes "true") → checks ≡ Off) × (text ≡ Some (codes "false") → checks ≡ AsLogged)

-- The transactions are those of the filter that the options state, and the tables those of `--table` without those of `--exclude-table`.
-- The start position is one of the first log alone, and the stop position of the last one.
pub record StatesChoice (place : LogPlace) (found : Found) (choice : Choice) : Type 0 where
  pub filter : Filter
  pub states : StatesFilter found filter
  pub transactions : choice.transactions ≡ record filter {
    start_position = start_at place filter.start_position;
    stop_position = stop_at place filter.stop_position;
    tables = None;
  }
  pub tables : choice.tables ≡ filter.tables
  pub excluded : StatesTables (texts_given found (codes "exclude-table")) [] choice.excluded
  pub plain : StatesFlag (one_text found (codes "plain-old-temporal")) choice.has_plain_temporal

-- A pass in front of the first item of a log at this place, for what the options ask for.
pub record StatesScan (place : LogPlace) (found : Found) (scan : UndoScan) : Type 0 where
  pub choice : Choice
  pub chosen : StatesChoice place found choice
  pub checks : ForeignKeyChecks
  pub checked : StatesChecks (one_text found (codes "no-foreign-key-checks")) checks
  pub skips : Skips
  pub known : AreSkipNames (texts_given found (codes "skip"))
  pub skipped : StatesSkips (texts_given found (codes "skip")) skips
  pub fresh : IsFresh choice checks skips scan

-- A word of the options of this command alone can't be read: it names no table that is left out, or no reason that can be skipped.
abbrev pub HasNoWord : Found → Type 0
HasNoWord found = HasNoTable (texts_given found (codes "exclude-table")) ⊎ (AreSkipNames (texts_given found (codes "skip")) → ⊥)

-- The status of a command that can't begin: its options can't be read, or memory ran out.
abbrev pub RefusesOptions : Found → Status → Type 0
RefusesOptions found status = NeverBegins found status ⊎ ((status ≡ Usage) × HasNoWord found)

-- ---- `-o` and `--dry-run`

-- The log that is written is the one that is named, which isn't standard output. In a dry run there is none.
abbrev pub IsOutput : (is_dry : Bool) (named output : Option (List ℕ)) → Type 0
IsOutput true named output = output ≡ None
IsOutput false named None = ⊥
IsOutput false named (Some name) = (named ≡ Some name) × (name ≢ codes "-")

-- The name of the log that is written, if one is.
pub record StatesOutput (found : Found) (output : Option (List ℕ)) : Type 0 where
  pub is_dry : Bool
  pub flag : StatesFlag (one_text found (codes "dry-run")) is_dry
  pub is : IsOutput is_dry (first_value found (codes "output")) output

-- No log is named that could be written.
abbrev pub NamesNoOutput : Found → Type 0
NamesNoOutput found = (first_value found (codes "output") ≡ None) ⊎ (first_value found (codes "output") ≡ Some (codes "-"))

-- The run isn't dry, as far as its flag says.
abbrev pub IsNotDry : Found → Type 0
IsNotDry found = (one_text found (codes "dry-run") ≡ None) ⊎ (one_text found (codes "dry-run") ≡ Some (codes "false"))
