-- What the options of `binlog stats` ask for.
use Rattle.std.specs.Prelude.{◌≡◌, ◌⊎◌, ℕ, Bool, true, false, ◌&&◌, ◌||◌, not, List, Option, Some, None, is_none, is_some, nat_lt, codes}
use Rattle.clap.specs.Matches.{first_value, matched_of, one_text}
use Rattle.clap.specs.declared.parser.matches.Found.{Found}
use Rattle.binlog_cli.specs.FilterWords.{StatesNumber}
use Rattle.binlog_summaries.specs.Intervals.{IsInterval}
use Rattle.binlog_summaries.specs.declared.options.Grouping.{Grouping}
use Rattle.binlog_summaries.specs.declared.options.Grouping.TheVariants.{Types, Tables, Intervals, Transactions}
use Rattle.binlog_summaries.specs.declared.options.StatsOptions.{StatsOptions}

-- What is counted together has this name.
abbrev pub IsNameOf : Grouping → List ℕ → Type 0
IsNameOf Types name = name ≡ codes "type"
IsNameOf Tables name = name ≡ codes "table"
IsNameOf (Intervals seconds) name = IsInterval name seconds
IsNameOf Transactions name = name ≡ codes "transaction"

-- What is counted together by this value of `--by`: events by type if it isn't given.
abbrev pub StatesGrouping : Option (List ℕ) → Grouping → Type 0
StatesGrouping None grouping = grouping ≡ Types
StatesGrouping (Some name) grouping = IsNameOf grouping name

-- The value is given and names nothing that is counted together.
abbrev pub NamesNoGrouping : Option (List ℕ) → Type 0
NamesNoGrouping value = (name : List ℕ) × (value ≡ Some name) × ((grouping : Grouping) → ¬ (IsNameOf grouping name))

-- A flag that has this text, if it is there, is set or not.
abbrev pub Flags : Option (List ℕ) → Bool → Type 0
Flags text is_set = (text ≡ None → is_set ≡ false) × (text ≡ Some (codes "true") → is_set ≡ true) × (text ≡ Some (codes "false") → is_set ≡ false)

-- Tables or databases are asked for.
abbrev pub asks_tables : Found → Bool
asks_tables found = is_some (matched_of found (codes "table")) || is_some (matched_of found (codes "database"))

-- The options ask for this.
pub record StatesOptions (found : Found) (options : StatsOptions) : Type 0 where
  pub grouping : StatesGrouping (first_value found (codes "by")) options.grouping
  pub top : StatesNumber (one_text found (codes "top")) options.top
  pub json : Flags (one_text found (codes "json")) options.is_json
  pub tables : options.has_tables ≡ asks_tables found

-- Types and intervals aren't cut. Intervals have at least a second. Transactions have all of their events, whatever the tables are.
abbrev pub fits_as : Grouping → Option ℕ → (has_tables : Bool) → Bool
fits_as Types top has_tables = is_none top
fits_as Tables top has_tables = true
fits_as (Intervals seconds) top has_tables = nat_lt 0 seconds && is_none top
fits_as Transactions top has_tables = not has_tables

abbrev pub fits : StatsOptions → Bool
fits options = fits_as options.grouping options.top options.has_tables

-- The options ask for nothing that is counted together, cut what isn't cut, or ask for tables of transactions.
abbrev pub RefusesOptions : Found → Type 0
RefusesOptions found = NamesNoGrouping (first_value found (codes "by")) ⊎ ((options : StatsOptions) × StatesOptions found options × (fits options ≡ false))
