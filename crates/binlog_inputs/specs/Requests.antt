-- What the words of the command line ask for.
use Rattle.clap.specs.declared.parser.matches.Found.{Found}
use Rattle.binlog_cli.specs.FilterWords.{StatesFilter}
use Rattle.binlog_filters.specs.declared.filter.Filter.{Filter}
use Rattle.binlog_filters.specs.declared.tables.TableFilter.{TableFilter}
use Rattle.binlog_cli.specs.declared.exit_status.Status.{Status}
use Rattle.binlog_cli.specs.declared.exit_status.Status.TheVariants.{Failed, Usage}
use Rattle.std.specs.Prelude.{◌≡◌, ◌≢◌, ◌⊎◌, ℕ, Bool, true, false, List, Option, Some, None, codes, if◌then◌else◌}
use Rattle.std.specs.IoError.{error_kind}
use Rattle.std.specs.declared.io.Error.{Error as IoError}
use Rattle.std.specs.declared.io.ErrorKind.TheVariants as io

-- A flag that has this text, if it is there, is set or not.
abbrev pub Flags : Option (List ℕ) → Bool → Type 0
Flags text is_set = (text ≡ None → is_set ≡ false) × (text ≡ Some (codes "true") → is_set ≡ true) × (text ≡ Some (codes "false") → is_set ≡ false)

-- The size of the buffer of lines, in bytes: none if they have to be seen at once.
abbrev pub lines_capacity : (is_followed : Bool) → ℕ
lines_capacity is_followed = if is_followed then 0 else 65536

-- These are the conditions of tables of the filter that the options state.
abbrev pub StatesTablesOf : (options : Found) → Option TableFilter → Type 0
StatesTablesOf options tables = (filter : Filter) × StatesFilter options filter × (tables ≡ filter.tables)

-- The status if the words of the command line, or a file that they name, can't be read for this reason: that memory ran out, or another one.
abbrev pub EndsUnread : (error : IoError) (status : Status) → Type 0
EndsUnread error status =
    ((error_kind error ≡ io.OutOfMemory) × (status ≡ Failed)) ⊎ ((error_kind error ≢ io.OutOfMemory) × (status ≡ Usage))
