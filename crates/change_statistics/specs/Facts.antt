-- What statistics see of an event.
use Rattle.std.specs.Prelude.{ℕ, ◌-◌, Bool, List, Option, Some, None, nat_le, if◌then◌else◌}
use Rattle.change_statistics.specs.declared.facts.ChangeKind.{ChangeKind}
use Rattle.change_statistics.specs.declared.facts.Change.{Change}
use Rattle.change_statistics.specs.declared.facts.Change.TheVariants as changes
use Rattle.change_statistics.specs.declared.facts.EventFacts.{EventFacts}
use Rattle.change_statistics.specs.declared.facts.TableChange.{TableChange}

-- The names of a table.
pub record Name : Type 0 where
  pub database : List ℕ
  pub table : List ℕ

-- What an event says of changes of rows: nothing; that it may have rows, of a table that isn't known; or that it has rows of a table,
-- which change the table so, and so many of them, if they can be read.
pub data Rows : Type 0 where
  nothing : Rows
  unknown : Rows
  rows : Name → ChangeKind → Option ℕ → Rows

-- What statistics see of an event: whether a transaction begins with it, the text of the GTID of that one, which is empty if it has none;
-- the number of bytes that it takes in its log, and of its own, which are others inside a compressed transaction; the position behind it in
-- its log, as it states, its time, and what it says of changes of rows.
pub record Fact : Type 0 where
  pub begins : Bool
  pub gtid : List ℕ
  pub bytes : ℕ
  pub size : ℕ
  pub end : ℕ
  pub time : ℕ
  pub rows : Rows

abbrev pub name_in : TableChange → Name
name_in change = record { database = change.database.now; table = change.table.now }

abbrev pub rows_of : Change → Rows
rows_of changes.Nothing = nothing
rows_of changes.Unknown = unknown
rows_of (changes.Rows change) = rows (name_in change) change.kind change.count

-- The facts of an event, as contracts see them.
abbrev pub fact_of : EventFacts → Fact
fact_of event = record { begins = event.begins_transaction; gtid = event.gtid.now; bytes = event.bytes; size = event.size; end = event.end_position; time = event.time; rows = rows_of event.change }

-- The position where the event begins, by its bytes; None if it states that it ends before so many.
abbrev pub begin_of : Fact → Option ℕ
begin_of fact = if nat_le fact.bytes fact.end then Some (fact.end - fact.bytes) else None
