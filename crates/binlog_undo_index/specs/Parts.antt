-- What an index has, and what an event makes of it.
use Rattle.std.specs.Prelude.{ℕ, Bool, true, false, ◌&&◌, List, [], ◌∷◌, ◌++◌, length, Option, Some, None}
use Rattle.binlog_transactions.specs.Pieces.{step}
use Rattle.binlog_transactions.specs.declared.refusal.Refusal.{Refusal}
use Rattle.binlog_transactions.specs.declared.transaction.Transaction.{Transaction}
use Rattle.binlog_transactions.specs.declared.turn.Place.{Place}
use Rattle.binlog_transactions.specs.declared.turn.Place.TheVariants.{Outside, First, Within, Last, Alone}
use Rattle.binlog_transactions.specs.declared.turn.Turn.{Turn}
use Rattle.binlog_undo_index.specs.Groups.{counted_if, of_transaction, with_map_at, open_at, split_of, refused_if, refused_unfinished, change_list}
use Rattle.binlog_undo_index.specs.declared.index.UndoIndex.{UndoIndex}
use Rattle.binlog_undo_index.specs.declared.begun.Begun.{Begun}
use Rattle.binlog_undo_index.specs.declared.places.ChangePlace.{ChangePlace}
use Rattle.binlog_undo_index.specs.declared.places.TransactionPlace.{TransactionPlace}
use Rattle.binlog_undo_index.specs.declared.reason.Reason.{Reason}
use Rattle.binlog_undo_index.specs.declared.reason.Refused.{Refused}
use Rattle.binlog_undo_index.specs.declared.rules.Rules.{Rules}
use Rattle.binlog_undo_index.specs.declared.seen.SeenEvent.{SeenEvent}
use Rattle.binlog_undo_index.specs.declared.skips.Skips.{Skips}

-- What an index has: of the transaction that is read its table maps, its refusal and its changes; and of those before it the changes,
-- the transactions and the refusals.
pub record Parts : Type 0 where
  pub rules : Rules
  pub maps : List (ℕ × ℕ)
  pub begun : Option Begun
  pub open_changes : List ChangePlace
  pub changes : List ChangePlace
  pub transactions : List TransactionPlace
  pub refusals : List Refused

abbrev pub parts_of : UndoIndex → Parts
parts_of index = record {
  rules = index.rules;
  maps = index.maps.entries;
  begun = index.begun;
  open_changes = index.open_changes.items;
  changes = index.changes.items;
  transactions = index.transactions.items;
  refusals = index.refusals.items;
}

abbrev pub no_parts : Rules → Parts
no_parts rules = record { rules = rules; maps = []; begun = None; open_changes = []; changes = []; transactions = []; refusals = [] }

abbrev pub reset : Parts → Parts
reset parts = record parts { maps = []; begun = None; open_changes = [] }

-- The transaction that is read, or the one that begins with an event.
abbrev pub opened : SeenEvent → Option Begun → Begun
opened event None = open_at event
opened event (Some begun) = begun

abbrev pub with_refused : Refused → Parts → Parts
with_refused refused parts = record parts { refusals = parts.refusals ++ refused ∷ [] }

-- The transaction behind an event of it, with the refusals of that.
abbrev pub begun_behind : Skips → SeenEvent → Option Refusal → Begun → Begun
begun_behind skips event refusal begun =
    record begun { end = event.end; refused = counted_if skips event event.refusal (counted_if skips event (of_transaction refusal) begun.refused) }

abbrev pub with_event : SeenEvent → Option Refusal → Parts → Parts
with_event event refusal parts = record parts { begun = Some (begun_behind parts.rules.skips event refusal (opened event parts.begun)) }

abbrev pub with_map : SeenEvent → Parts → Parts
with_map event parts = record parts { maps = with_map_at event.table_id event.read_at parts.maps }

abbrev pub with_change : SeenEvent → Parts → Parts
with_change event parts = record parts { open_changes = parts.open_changes ++ change_list event.change }

abbrev pub added : SeenEvent → Option Refusal → Parts → Parts
added event refusal parts = with_change event (with_map event (with_event event refusal parts))

abbrev pub transaction_list : ℕ → List ChangePlace → List TransactionPlace
transaction_list last [] = []
transaction_list last (change ∷ changes) = record { last = last; changes = length (change ∷ changes) } ∷ []

abbrev pub kept_open : ℕ → Parts → Parts
kept_open last parts = record parts {
  changes = parts.changes ++ parts.open_changes;
  transactions = parts.transactions ++ transaction_list last parts.open_changes;
}

abbrev pub ended_taken : ℕ → Option Refused → Parts → Parts
ended_taken last (Some refused) parts = with_refused refused parts
ended_taken last None parts = kept_open last parts

abbrev pub ended_if : Bool → ℕ → Option Refused → Parts → Parts
ended_if true last refused parts = ended_taken last refused parts
ended_if false last refused parts = parts

-- A transaction that a position is within is refused for that, whatever else there is.
abbrev pub ended_unless : Option Refused → SeenEvent → Begun → Parts → Parts
ended_unless (Some refused) event begun parts = with_refused refused parts
ended_unless None event begun parts = ended_if (begun.is_taken && event.takes_last) event.place begun.refused parts

abbrev pub ended_open : SeenEvent → Begun → Parts → Parts
ended_open event begun parts = ended_unless (split_of parts.rules.positions begun) event begun parts

abbrev pub ended_as : SeenEvent → Option Begun → Parts → Parts
ended_as event None parts = parts
ended_as event (Some begun) parts = ended_open event begun parts

abbrev pub ended : SeenEvent → Parts → Parts
ended event parts = reset (ended_as event parts.begun parts)

abbrev pub cut : Parts → Parts
cut parts = reset (record parts { refusals = parts.refusals ++ refused_unfinished parts.rules parts.begun })

abbrev pub refused_beside : SeenEvent → Option Reason → Parts → Parts
refused_beside event reason parts = record parts { refusals = parts.refusals ++ refused_if parts.rules.skips event reason }

abbrev pub passed_if : Bool → SeenEvent → Option Refusal → Parts → Parts
passed_if true event refusal parts = refused_beside event event.refusal (refused_beside event (of_transaction refusal) parts)
passed_if false event refusal parts = parts

abbrev pub passed : SeenEvent → Option Refusal → Parts → Parts
passed event refusal parts = passed_if event.takes_first event refusal (reset parts)

abbrev pub cut_if : Bool → Parts → Parts
cut_if true parts = cut parts
cut_if false parts = parts

abbrev pub placed : Place → SeenEvent → Option Refusal → Parts → Parts
placed Outside event refusal parts = passed event refusal parts
placed First event refusal parts = added event refusal (reset parts)
placed Within event refusal parts = added event refusal parts
placed Last event refusal parts = ended event (added event refusal parts)
placed Alone event refusal parts = ended event (added event refusal (reset parts))

-- Behind an event of which this is said.
abbrev pub noted : SeenEvent → Turn → Parts → Parts
noted event turn parts = placed turn.place event turn.refusal (cut_if turn.cuts parts)

-- Behind all of these events, in front of which this transaction is there, or none.
abbrev pub noted_all : Option Transaction → List SeenEvent → Parts → Parts
noted_all current [] parts = parts
noted_all current (event ∷ events) parts = noted_all (step current event.mark).1 events (noted event (step current event.mark).0 parts)
