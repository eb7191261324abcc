-- Transactions of row events alone, as a log has them that is written to undo another one.
use Rattle.std.specs.Prelude.{◌≡◌, ℕ, true, false, List, [], ◌∷◌, ◌++◌, flat_map, None}
use Rattle.std.specs.List.{AllByRecursion}
use Rattle.binlog_transactions.specs.declared.mark.Mark.{Mark}
use Rattle.binlog_transactions.specs.declared.mark.Mark.TheVariants as marks
use Rattle.binlog_transactions.specs.declared.statements.StatementKind.TheVariants as kinds
use Rattle.binlog_undo_index.specs.Groups.{Kept, Group, groups_in, told_events, change_list, kept_if_any}
use Rattle.binlog_undo_index.specs.Positions.{splits}
use Rattle.binlog_undo_index.specs.declared.places.ChangePlace.{ChangePlace}
use Rattle.binlog_undo_index.specs.declared.rules.Positions.{Positions}
use Rattle.binlog_undo_index.specs.declared.seen.SeenEvent.{SeenEvent}

-- ---- a transaction

pub record RowTransaction : Type 0 where
  pub first : SeenEvent
  pub others : List SeenEvent
  pub last : SeenEvent

abbrev pub events_of : RowTransaction → List SeenEvent
events_of transaction = transaction.first ∷ transaction.others ++ transaction.last ∷ []

-- A table map, or a row event.
abbrev pub IsOfRows : Mark → Type 0
IsOfRows marks.TableMap = Unit {0}
IsOfRows (marks.Rows rows) = Unit {0}
IsOfRows _ = ⊥

-- A BEGIN, table maps and row events, and an XID. The first event and the last one take the transaction, no position is within it, and
-- none of its events is refused.
pub record IsRowTransaction (positions : Positions) (transaction : RowTransaction) : Type 0 where
  pub begins : transaction.first.mark ≡ marks.Statement kinds.Begin
  pub rows : AllByRecursion (λ event. IsOfRows event.mark) transaction.others
  pub ends : transaction.last.mark ≡ marks.Xid
  pub takes_first : transaction.first.takes_first ≡ true
  pub takes_last : transaction.last.takes_last ≡ true
  pub unsplit : splits positions transaction.first.place transaction.last.end ≡ false
  pub accepted : AllByRecursion (λ event. event.refusal ≡ None) (events_of transaction)

-- ---- what is kept of it

abbrev pub changes_of_event : SeenEvent → List ChangePlace
changes_of_event event = change_list event.change

-- The places of its row events that are undone, if there are some.
abbrev pub kept_rows : RowTransaction → List Kept
kept_rows transaction = kept_if_any transaction.last.place (flat_map changes_of_event (events_of transaction))

-- ---- a log of them

-- A description, or the end of the log.
pub record IsBorder (event : SeenEvent) : Type 0 where
  pub is : event.mark ≡ marks.Border
  pub accepted : event.refusal ≡ None

-- The groups of a log of such transactions, one after the other, between these events.
abbrev pub row_groups : SeenEvent → List RowTransaction → SeenEvent → List Group
row_groups first transactions last = groups_in [] (told_events None (first ∷ flat_map events_of transactions ++ last ∷ []))
