-- What is counted of whole lists of facts.
use Rattle.std.specs.Prelude.{ℕ, ◌-◌, Bool, true, false, List, [], ◌∷◌, length, slice_get, filter, sum_by, Option, is_none, if◌then◌else◌}
use Rattle.std.specs.List.{list_any}
use Rattle.change_statistics.specs.Facts.{Name, Rows, nothing, unknown, rows, Fact}
use Rattle.change_statistics.specs.Names.{name_eq}
use Rattle.change_statistics.specs.Counting.{rows_as}
use Rattle.change_statistics.specs.declared.facts.ChangeKind.{ChangeKind}

-- ---- one fact

abbrev pub is_rows_of : Name → Rows → Bool
is_rows_of name (rows other kind count) = name_eq other name
is_rows_of name said = false

-- The event has rows of the table with this name.
abbrev pub is_of : Name → Fact → Bool
is_of name fact = is_rows_of name fact.rows

-- A transaction begins with the event.
abbrev pub begins : Fact → Bool
begins fact = fact.begins

abbrev pub bytes : Fact → ℕ
bytes fact = fact.bytes

abbrev pub size : Fact → ℕ
size fact = fact.size

abbrev pub time : Fact → ℕ
time fact = fact.time

abbrev pub rows_said : ChangeKind → Rows → ℕ
rows_said kind (rows name is count) = rows_as kind is count
rows_said kind said = 0

-- The number of rows of the event that change their table like this; 0 if they can't be read.
abbrev pub rows_in : ChangeKind → Fact → ℕ
rows_in kind fact = rows_said kind fact.rows

abbrev pub is_unread_in : Rows → Bool
is_unread_in (rows name kind count) = is_none count
is_unread_in said = false

-- The event has rows of a table, and they can't be read.
abbrev pub is_unread : Fact → Bool
is_unread fact = is_unread_in fact.rows

abbrev pub is_unknown_in : Rows → Bool
is_unknown_in unknown = true
is_unknown_in said = false

-- The event may have rows of a table that isn't known.
abbrev pub is_unknown : Fact → Bool
is_unknown fact = is_unknown_in fact.rows

abbrev pub has_uncounted_in : Rows → Bool
has_uncounted_in nothing = false
has_uncounted_in unknown = true
has_uncounted_in (rows name kind count) = is_none count

-- The event has or may have rows which aren't counted: they can't be read, or their table isn't known.
abbrev pub has_uncounted : Fact → Bool
has_uncounted fact = has_uncounted_in fact.rows

-- ---- facts of events one after another

-- Those of the events that have rows of a table.
abbrev pub of_table : Name → List Fact → List Fact
of_table name facts = filter (is_of name) facts

-- The number of the bytes that the events have, by themselves.
abbrev pub sizes_of : List Fact → ℕ
sizes_of facts = sum_by size facts

-- Those before the first event with which a transaction begins.
abbrev pub until_begin : List Fact → List Fact
until_begin [] = []
until_begin (fact ∷ facts) = if fact.begins then [] else fact ∷ until_begin facts

-- The transactions: each has the event with which it begins, and those behind it before the next one begins.
abbrev pub transactions_in : List Fact → List (List Fact)
transactions_in [] = []
transactions_in (fact ∷ facts) = if fact.begins then (fact ∷ until_begin facts) ∷ transactions_in facts else transactions_in facts

-- An event of the transaction has rows of the table.
abbrev pub touches : Name → List Fact → Bool
touches name transaction = list_any (is_of name) transaction

abbrev pub first_of : List Fact → Option Fact
first_of facts = slice_get facts 0

abbrev pub last_of : List Fact → Option Fact
last_of facts = slice_get facts (length facts - 1)
