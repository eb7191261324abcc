-- What an index has of the groups of events that it was told of.
use Rattle.std.specs.Prelude.{◌≡◌, List, [], map, flat_map, length}
use Rattle.binlog_transactions.specs.declared.mark.Mark.{Mark}
use Rattle.binlog_transactions.specs.declared.turn.Turn.{Turn}
use Rattle.binlog_undo_index.specs.Groups.{Told, Group, Kept, kept_in, refused_in, changes_in, maps_in, open_of}
use Rattle.binlog_undo_index.specs.Parts.{Parts}
use Rattle.binlog_undo_index.specs.declared.places.ChangePlace.{ChangePlace}
use Rattle.binlog_undo_index.specs.declared.places.TransactionPlace.{TransactionPlace}
use Rattle.binlog_undo_index.specs.declared.rules.Rules.{Rules}
use Rattle.binlog_undo_index.specs.declared.seen.SeenEvent.{SeenEvent}

abbrev pub mark_of : SeenEvent → Mark
mark_of event = event.mark

abbrev pub turn_of : Told → Turn
turn_of told = told.turn

-- The place of a transaction, and how many row events it has.
abbrev pub place_of : Kept → TransactionPlace
place_of kept = record { last = kept.last; changes = length kept.changes }

abbrev pub changes_of : Kept → List ChangePlace
changes_of kept = kept.changes

-- The places are those of these transactions, in order.
pub record Keeps (kept : List Kept) (transactions : List TransactionPlace) (changes : List ChangePlace) : Type 0 where
  pub transactions_are : transactions ≡ map place_of kept
  pub changes_are : changes ≡ flat_map changes_of kept

-- What an index has where these groups have ended, and these events are those of the transaction that is read.
abbrev pub parts_for : Rules → List Group → List Told → Parts
parts_for rules groups begun = record {
  rules = rules;
  maps = maps_in [] begun;
  begun = open_of rules.skips begun;
  open_changes = changes_in begun;
  changes = flat_map changes_of (kept_in rules groups);
  transactions = map place_of (kept_in rules groups);
  refusals = refused_in rules groups;
}
