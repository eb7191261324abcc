-- The filter that the options of a command state.
use Rattle.std.specs.Prelude.{◌≡◌, ◌⊎◌, ℕ, ◌<◌, ◌≤◌, ◌^◌, ◌↔◌, true, false, List, [], Option, Some, None, option_map, unwrap_or, codes}
use Rattle.std.specs.Str.Parse.{IsNumeral, without_leading_plus, digits_value}
use Rattle.clap.specs.Matches.{first_value, matched_of, one_text, raw_values}
use Rattle.clap.specs.declared.parser.matches.Found.{Found}
use Rattle.binlog_filters.specs.declared.filter.Filter.{Filter}
use Rattle.binlog_cli.specs.declared.exit_status.Status.{Status}
use Rattle.binlog_cli.specs.declared.exit_status.Status.TheVariants.{Failed, Usage}
use Rattle.binlog_cli.specs.GtidWords.{StatesGtids, StatesNoGtids}
use Rattle.binlog_cli.specs.TableWords.{HasNoTable, StatesTables, texts_given}
use Rattle.binlog_cli.specs.Times.{StatesNoTime, StatesTime}
use Rattle.binlog_event_types.specs.TypeNames.{AreNamed, HasNoType}

-- A text is a number below 2^64 in decimal; a plus may stand before it.
pub record IsNumber (text : List ℕ) (n : ℕ) : Type 0 where
  pub digits : IsNumeral 10 (without_leading_plus text)
  pub value : n ≡ digits_value 10 (without_leading_plus text)
  pub fits : n < 2 ^ 64

-- The number of an option with this text, if it is given.
abbrev pub StatesNumber : Option (List ℕ) → Option ℕ → Type 0
StatesNumber None number = number ≡ None
StatesNumber (Some text) (Some n) = IsNumber text n
StatesNumber (Some text) None = (n : ℕ) → IsNumber text n → ⊥

-- The names of types that are asked for.
abbrev pub type_names : Found → List (List ℕ)
type_names found = unwrap_or (option_map raw_values (matched_of found (codes "type"))) []

-- The filter has the condition of each option that is given, and no other. With counts by table it takes the events with which transactions
-- begin.
pub record StatesFilter (found : Found) (filter : Filter) : Type 0 where
  pub start : (number : Option ℕ) × StatesNumber (one_text found (codes "start-position")) number × (filter.start_position ≡ unwrap_or number 0)
  pub stop : StatesNumber (one_text found (codes "stop-position")) filter.stop_position
  pub first : (time : Option ℕ) × StatesTime (first_value found (codes "start-datetime")) time × (filter.start_time ≡ unwrap_or time 0)
  pub last : StatesTime (first_value found (codes "stop-datetime")) filter.stop_time
  pub server : StatesNumber (one_text found (codes "server-id")) filter.server_id
  pub types : AreNamed (type_names found) filter.types.items
  pub included : StatesGtids (first_value found (codes "include-gtids")) filter.include_gtids
  pub excluded : StatesGtids (first_value found (codes "exclude-gtids")) filter.exclude_gtids
  pub tables : StatesTables (texts_given found (codes "table")) (texts_given found (codes "database")) filter.tables
  pub copies : filter.is_for_copy ≡ false
  pub begins : filter.takes_begins ≡ true ↔ first_value found (codes "by") ≡ Some (codes "table")

-- The number of the server id is too large for one.
abbrev pub StatesNoServer : Option (List ℕ) → Type 0
StatesNoServer text = (n : ℕ) × StatesNumber text (Some n) × (2 ^ 32 ≤ n)

-- An option is given with a value that can't be read: no time, a server id that is too large, a name that no type has, no set of
-- GTIDs, no table.
abbrev pub StatesNoFilter : Found → Type 0
StatesNoFilter found =
    StatesNoTime (first_value found (codes "start-datetime"))
    ⊎ (StatesNoTime (first_value found (codes "stop-datetime"))
    ⊎ (StatesNoServer (one_text found (codes "server-id"))
    ⊎ (HasNoType (type_names found)
    ⊎ (StatesNoGtids (first_value found (codes "include-gtids"))
    ⊎ (StatesNoGtids (first_value found (codes "exclude-gtids"))
    ⊎ HasNoTable (texts_given found (codes "table")))))))

-- The status of a command that can't begin: its options state no filter, or memory or its output failed.
abbrev pub NeverBegins : Found → Status → Type 0
NeverBegins found status = ((status ≡ Usage) × StatesNoFilter found) ⊎ (status ≡ Failed)
