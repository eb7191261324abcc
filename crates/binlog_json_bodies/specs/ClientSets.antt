-- The character set of the client that sent a statement, as the status variables state it.
use Rattle.std.specs.Prelude.{◌≡◌, ℕ, Bool, List, [], ◌∷◌, take, Option, None, Some, option_map, MatchOption}
use Rattle.std.specs.Borrow.{Bor}
use Rattle.std.specs.Option.{option_or, option_and_then}
use Rattle.byteorder.specs.Endian.{little_number}
use Rattle.binlog_file.specs.declared.FormatDescriptionEvent.{FormatDescriptionEvent}
use Rattle.binlog_file.specs.declared.StatusVarKey.{StatusVarKey}
use Rattle.binlog_file.specs.declared.StatusVarKey.TheVariants.{Charset}
use Rattle.binlog_file.specs.StatusVariables.{Variable}
use Rattle.binlog_event_types.specs.MariaVersions.{is_maria}
use Rattle.character_sets.specs.Collations.{set_of_collation_in}
use Rattle.character_sets.specs.declared.character_set.CharacterSet.{CharacterSet}
use Rattle.binlog_json_bodies.specs.KnownVariables.{Known, listed, unlisted, first_unlisted, first_known, known_variables}

-- Whether MariaDB wrote the log of this description.
abbrev pub is_of_maria : FormatDescriptionEvent → Bool
is_of_maria d = is_maria (take 50 d.server_version)

-- ---- the client's collation

-- Its number, in the value of a variable with this key.
abbrev pub collation_under : StatusVarKey → List ℕ → Option ℕ
collation_under Charset value = Some (little_number 2 value)
collation_under key value = None

-- Its number, if this variable states it.
abbrev pub collation_in : Variable → Option ℕ
collation_in v = collation_under v.key v.value

-- That which the last of these variables that has one states.
abbrev pub last_collation : List Variable → Option ℕ
last_collation [] = None
last_collation (v ∷ vars) = option_or (last_collation vars) (collation_in v)

-- Its number, if this variable states it; an unlisted one never does.
abbrev pub stated : Known → Option ℕ
stated (listed v) = collation_in v
stated (unlisted number value) = None

-- That which the last of these variables that has one states.
abbrev pub last_stated : List Known → Option ℕ
last_stated [] = None
last_stated (v ∷ vars) = option_or (last_stated vars) (stated v)

-- Its number in encoded status variables, listed or not; None if they state none.
unfoldable pub client_collation : (status_vars : List ℕ) → Option ℕ
client_collation status_vars = last_stated (known_variables status_vars)

-- ---- one variable after the other

-- What a first variable states, and the bytes after it.
abbrev pub stated_first : Known × List ℕ → Option ℕ × List ℕ
stated_first x = (stated x.0, x.1)

-- What the first variable of a text states, and the bytes after it, if the text begins with a whole one.
unfoldable pub first_stated : List ℕ → Option (Option ℕ × List ℕ)
first_stated text = option_map stated_first (first_known text)

-- The same of an unlisted variable.
unfoldable pub unlisted_stated : List ℕ → Option (Option ℕ × List ℕ)
unlisted_stated text = option_map stated_first (first_unlisted text)

-- A function gives what is first, and where the bytes after it are.
abbrev pub GivesFirst : Option (Option ℕ × Bor (List ℕ)) → Option (Option ℕ × List ℕ) → Type 0
GivesFirst result first = MatchOption result (first ≡ None) (λ x. first ≡ Some (x.0, x.1.now))

-- ---- the client's character set

-- None if no collation is stated, or the server has none of that number.
abbrev pub client_set : (is_maria : Bool) → (status_vars : List ℕ) → Option CharacterSet
client_set is_maria status_vars = option_and_then (set_of_collation_in is_maria) (client_collation status_vars)
