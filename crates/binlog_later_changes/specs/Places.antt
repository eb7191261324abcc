-- The row events of a log that are undone, and weren't met yet.
use Rattle.std.specs.Prelude.{◌≡◌, ℕ, ◌==◌, ◌&&◌, Bool, true, false, List, [], ◌∷◌, ◌++◌, map, take, drop, if◌then◌else◌}
use Rattle.binlog_undo_index.specs.declared.places.ChangePlace.{ChangePlace}
use Rattle.binlog_undo_index.specs.declared.places.TransactionPlace.{TransactionPlace}
use Rattle.binlog_later_changes.specs.declared.undone_events.RowsPlace.{RowsPlace}
use Rattle.binlog_later_changes.specs.declared.undone_events.RowsPlace.TheVariants.{InLog, InContent}
use Rattle.binlog_later_changes.specs.declared.undone_events.UndoneEvents.{UndoneEvents}

-- That of a row event that is kept, of a transaction with this last event.
abbrev pub rows_place : (last : ℕ) (is_inside : Bool) → ChangePlace → RowsPlace
rows_place last true change = InContent last change.rows
rows_place last false change = InLog change.rows

abbrev pub is_in_log : ℕ → RowsPlace → Bool
is_in_log wanted (InLog place) = place == wanted
is_in_log wanted (InContent event place) = false

abbrev pub is_in_content : (wanted_event wanted : ℕ) → RowsPlace → Bool
is_in_content wanted_event wanted (InLog place) = false
is_in_content wanted_event wanted (InContent event place) = event == wanted_event && place == wanted

abbrev pub same_place : RowsPlace → RowsPlace → Bool
same_place (InLog place) second = is_in_log place second
same_place (InContent event place) second = is_in_content event place second

-- Those of these transactions: each has as many of the changes as it states, and has them in the log or inside its last event.
abbrev pub places_in : List TransactionPlace → List Bool → List ChangePlace → List RowsPlace
places_in [] are_inside changes = []
places_in (transaction ∷ transactions) [] changes = []
places_in (transaction ∷ transactions) (is_inside ∷ are_inside) changes =
    map (rows_place transaction.last is_inside) (take transaction.changes changes) ++ places_in transactions are_inside (drop transaction.changes changes)

-- Those that are left.
abbrev pub places_of : UndoneEvents → List RowsPlace
places_of undone = map (rows_place undone.last undone.is_inside) undone.own.now ++ places_in undone.transactions.now undone.are_inside.now undone.changes.now

-- Whether a row event at this place is the next one of these, and those behind it.
abbrev pub is_next : RowsPlace → List RowsPlace → Bool
is_next place [] = false
is_next place (first ∷ others) = same_place first place

abbrev pub left_behind : RowsPlace → List RowsPlace → List RowsPlace
left_behind place [] = []
left_behind place (first ∷ others) = if same_place first place then others else first ∷ others

-- A row event is left of the transaction that is met, or none is left of any.
abbrev pub IsSettled : UndoneEvents → Type 0
IsSettled undone = undone.own.now ≡ [] → places_of undone ≡ []
