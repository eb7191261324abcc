-- The groups of events that the transactions of a log are, and what is kept of each.
use Rattle.std.specs.Prelude.{ℕ, Bool, true, false, ◌&&◌, not, List, [], ◌∷◌, ◌++◌, flat_map, Option, Some, None}
use Rattle.std.specs.Ordering.{nat_cmp}
use Rattle.std.specs.BTreeMap.{insert_entry}
use Rattle.binlog_transactions.specs.Pieces.{step}
use Rattle.binlog_transactions.specs.declared.refusal.Refusal.{Refusal}
use Rattle.binlog_transactions.specs.declared.refusal.Refusal.TheVariants as refusals
use Rattle.binlog_transactions.specs.declared.transaction.Transaction.{Transaction}
use Rattle.binlog_transactions.specs.declared.turn.Place.{Place}
use Rattle.binlog_transactions.specs.declared.turn.Place.TheVariants.{Outside, First, Within, Last, Alone}
use Rattle.binlog_transactions.specs.declared.turn.Turn.{Turn}
use Rattle.binlog_undo_index.specs.declared.begun.Begun.{Begun}
use Rattle.binlog_undo_index.specs.declared.places.ChangePlace.{ChangePlace}
use Rattle.binlog_undo_index.specs.declared.reason.Reason.{Reason}
use Rattle.binlog_undo_index.specs.declared.reason.Reason.TheVariants as reasons
use Rattle.binlog_undo_index.specs.declared.reason.Refused.{Refused}
use Rattle.binlog_undo_index.specs.declared.rules.Positions.{Positions}
use Rattle.binlog_undo_index.specs.declared.rules.Rules.{Rules}
use Rattle.binlog_undo_index.specs.declared.seen.SeenEvent.{SeenEvent}
use Rattle.binlog_undo_index.specs.declared.skips.Skips.{Skips}
use Rattle.binlog_undo_index.specs.Positions.{splits}
use Rattle.binlog_undo_index.specs.Skips.{is_skipped}

-- ---- the groups of a log

-- An event, and what is said of it among the transactions of its log.
pub record Told : Type 0 where
  pub event : SeenEvent
  pub turn : Turn

-- The events of a log, each with what is said of it. A transaction, or none, is there in front of them.
abbrev pub told_events : Option Transaction → List SeenEvent → List Told
told_events current [] = []
told_events current (event ∷ events) =
    record { event = event; turn = (step current event.mark).0 } ∷ told_events (step current event.mark).1 events

-- An event of no transaction; a transaction, of which the last event is apart from those in front of it; and one without a last event.
pub data Group : Type 0 where
  outside : Told → Group
  whole : List Told → Told → Group
  unfinished : List Told → Group

-- A transaction that is cut off, with these events.
abbrev pub cut_off : Bool → List Told → List Group
cut_off true begun = unfinished begun ∷ []
cut_off false begun = []

-- The groups that end with an event, behind these events of its transaction.
abbrev pub ended_with : Place → List Told → Told → List Group
ended_with Outside begun told = outside told ∷ []
ended_with First begun told = []
ended_with Within begun told = []
ended_with Last begun told = whole begun told ∷ []
ended_with Alone begun told = whole [] told ∷ []

-- The events of the transaction that is read behind the event.
abbrev pub still_open : Place → List Told → Told → List Told
still_open Outside begun told = []
still_open First begun told = told ∷ []
still_open Within begun told = begun ++ told ∷ []
still_open Last begun told = []
still_open Alone begun told = []

-- The events of the transaction that is there in front of an event, unless the event cuts it off.
abbrev pub uncut : Bool → List Told → List Told
uncut true begun = []
uncut false begun = begun

-- The groups that end in front of an event and with it.
abbrev pub ended_at : List Told → Told → List Group
ended_at begun told = cut_off told.turn.cuts begun ++ ended_with told.turn.place (uncut told.turn.cuts begun) told

abbrev pub open_after : List Told → Told → List Told
open_after begun told = still_open told.turn.place (uncut told.turn.cuts begun) told

-- The groups of these events, behind the first ones of a transaction.
abbrev pub groups_in : List Told → List Told → List Group
groups_in begun [] = []
groups_in begun (told ∷ others) = ended_at begun told ++ groups_in (open_after begun told) others

-- The events of the transaction that is read behind all.
abbrev pub open_behind : List Told → List Told → List Told
open_behind begun [] = begun
open_behind begun (told ∷ others) = open_behind (open_after begun told) others

-- ---- refusals

abbrev pub refused_at : Skips → SeenEvent → Reason → Refused
refused_at skips event reason = record { index = event.index; place = event.place; reason = reason; is_skipped = is_skipped skips reason }

-- Of two refusals the first one counts, unless that one alone is skipped.
abbrev pub counted_of : Refused → Refused → Bool → Option Refused
counted_of found other true = Some other
counted_of found other false = Some found

abbrev pub counted : Option Refused → Refused → Option Refused
counted None other = Some other
counted (Some found) other = counted_of found other (found.is_skipped && not other.is_skipped)

abbrev pub counted_if : Skips → SeenEvent → Option Reason → Option Refused → Option Refused
counted_if skips event None found = found
counted_if skips event (Some reason) found = counted found (refused_at skips event reason)

abbrev pub of_transaction : Option Refusal → Option Reason
of_transaction None = None
of_transaction (Some refusal) = Some (reasons.Transaction refusal)

-- Behind an event, for both of its reasons.
abbrev pub counted_behind : Skips → Option Refused → Told → Option Refused
counted_behind skips found told = counted_if skips told.event told.event.refusal (counted_if skips told.event (of_transaction told.turn.refusal) found)

-- Of the events of a transaction.
abbrev pub counted_in : Skips → Option Refused → List Told → Option Refused
counted_in skips found [] = found
counted_in skips found (told ∷ others) = counted_in skips (counted_behind skips found told) others

-- ---- a transaction

-- Before the first event of a transaction.
abbrev pub open_at : SeenEvent → Begun
open_at event = record { index = event.index; place = event.place; end = event.end; is_taken = event.takes_first; refused = None }

-- Where the last of these events ends, or else this place.
abbrev pub end_of : ℕ → List Told → ℕ
end_of end [] = end
end_of end (told ∷ others) = end_of told.event.end others

-- What is known of a transaction behind these events: of its first event, where its last one ends, and which refusal counts.
abbrev pub open_of : Skips → List Told → Option Begun
open_of skips [] = None
open_of skips (told ∷ others) = Some (record (open_at told.event) { end = end_of told.event.end others; refused = counted_in skips None (told ∷ others) })

-- ---- positions

-- The refusal of a transaction that a position is within, with its end.
abbrev pub split_if : Bool → Begun → Option Refused
split_if true begun = Some (record { index = begun.index; place = begun.place; reason = reasons.Straddles begun.end; is_skipped = false })
split_if false begun = None

abbrev pub split_of : Positions → Begun → Option Refused
split_of positions begun = split_if (splits positions begun.place begun.end) begun

-- The row events that are undone.
abbrev pub change_list : Option ChangePlace → List ChangePlace
change_list None = []
change_list (Some change) = change ∷ []

abbrev pub changes_at : Told → List ChangePlace
changes_at told = change_list told.event.change

abbrev pub changes_in : List Told → List ChangePlace
changes_in events = flat_map changes_at events

-- ---- what is kept

-- A transaction that is undone: the place of its last event, and those of its row events, in order.
pub record Kept : Type 0 where
  pub last : ℕ
  pub changes : List ChangePlace

abbrev pub kept_if_any : ℕ → List ChangePlace → List Kept
kept_if_any last [] = []
kept_if_any last (change ∷ changes) = record { last = last; changes = change ∷ changes } ∷ []

abbrev pub kept_unless : ℕ → List ChangePlace → Option Refused → List Kept
kept_unless last changes None = kept_if_any last changes
kept_unless last changes (Some refused) = []

abbrev pub kept_if : Bool → ℕ → List ChangePlace → Option Refused → List Kept
kept_if true last changes refused = kept_unless last changes refused
kept_if false last changes refused = []

abbrev pub kept_beside : Option Refused → List Kept → List Kept
kept_beside (Some refused) kept = []
kept_beside None kept = kept

abbrev pub kept_as : Rules → SeenEvent → List ChangePlace → Option Begun → List Kept
kept_as rules event changes None = []
kept_as rules event changes (Some begun) =
    kept_beside (split_of rules.positions begun) (kept_if (begun.is_taken && event.takes_last) event.place changes begun.refused)

-- The transaction with these events is kept if no position is within it, its first event and its last one take it, no refusal counts,
-- and it has changes.
abbrev pub kept_of : Rules → Group → List Kept
kept_of rules (outside told) = []
kept_of rules (whole events told) = kept_as rules told.event (changes_in (events ++ told ∷ [])) (open_of rules.skips (events ++ told ∷ []))
kept_of rules (unfinished events) = []

abbrev pub kept_in : Rules → List Group → List Kept
kept_in rules groups = flat_map (kept_of rules) groups

-- ---- what is refused

abbrev pub option_list : Option Refused → List Refused
option_list None = []
option_list (Some refused) = refused ∷ []

abbrev pub list_if : Bool → List Refused → List Refused
list_if true refused = refused
list_if false refused = []

abbrev pub refused_if : Skips → SeenEvent → Option Reason → List Refused
refused_if skips event None = []
refused_if skips event (Some reason) = refused_at skips event reason ∷ []

abbrev pub refused_over : Option Refused → List Refused → List Refused
refused_over (Some refused) others = refused ∷ []
refused_over None others = others

abbrev pub refused_as : Rules → SeenEvent → Option Begun → List Refused
refused_as rules event None = []
refused_as rules event (Some begun) =
    refused_over (split_of rules.positions begun) (list_if (begun.is_taken && event.takes_last) (option_list begun.refused))

-- At the first event of a transaction that isn't finished.
abbrev pub unfinished_at : Skips → Begun → Refused
unfinished_at skips begun =
    record { index = begun.index; place = begun.place; reason = reasons.Transaction refusals.Unfinished; is_skipped = is_skipped skips (reasons.Transaction refusals.Unfinished) }

abbrev pub counted_unfinished : Bool → Skips → Begun → Option Refused
counted_unfinished true skips begun = counted begun.refused (unfinished_at skips begun)
counted_unfinished false skips begun = None

abbrev pub unfinished_beside : Option Refused → Option Refused → Option Refused
unfinished_beside (Some refused) other = Some refused
unfinished_beside None other = other

abbrev pub unfinished_of : Rules → Begun → Option Refused
unfinished_of rules begun = unfinished_beside (split_of rules.positions begun) (counted_unfinished begun.is_taken rules.skips begun)

abbrev pub refused_unfinished : Rules → Option Begun → List Refused
refused_unfinished rules None = []
refused_unfinished rules (Some begun) = option_list (unfinished_of rules begun)

-- A transaction that a position is within is refused for that, whether it is taken or not. One that isn't finished is refused for that,
-- unless another refusal counts. An event of no transaction is refused for both of its reasons.
abbrev pub refused_of : Rules → Group → List Refused
refused_of rules (outside told) =
    list_if told.event.takes_first (refused_if rules.skips told.event (of_transaction told.turn.refusal) ++ refused_if rules.skips told.event told.event.refusal)
refused_of rules (whole events told) = refused_as rules told.event (open_of rules.skips (events ++ told ∷ []))
refused_of rules (unfinished events) = refused_unfinished rules (open_of rules.skips events)

abbrev pub refused_in : Rules → List Group → List Refused
refused_in rules groups = flat_map (refused_of rules) groups

-- ---- table maps

-- The places of table maps by their ids, behind an event: a later map of an id takes the place of an earlier one.
abbrev pub with_map_at : Option ℕ → ℕ → List (ℕ × ℕ) → List (ℕ × ℕ)
with_map_at None place maps = maps
with_map_at (Some id) place maps = insert_entry nat_cmp maps id place

abbrev pub maps_in : List (ℕ × ℕ) → List Told → List (ℕ × ℕ)
maps_in maps [] = maps
maps_in maps (told ∷ others) = maps_in (with_map_at told.event.table_id told.event.read_at maps) others
