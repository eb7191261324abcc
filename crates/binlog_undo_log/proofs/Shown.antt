-- Which events are written where all that is undone is one transaction.
use Rattle.std.proofs.Common.{◌≡◌, ℕ, Bool, true, false, List, [], ◌∷◌, ◌++◌, Ok, refl, sym, ◌∙◌, ap, subst}
use Rattle.std.specs.Prelude.{◌||◌, not}
use Rattle.binlog_columns.specs.Metadata.{Typed}
use Rattle.binlog_columns.specs.Refusals.{columns_in}
use Rattle.binlog_consts.specs.declared.event_type.EventType.{EventType}
use Rattle.binlog_event_format.specs.declared.format_description.FormatDescriptionEvent.{FormatDescriptionEvent}
use Rattle.binlog_rows.specs.declared.rows_event_data.RowsEventData.{RowsEventData}
use Rattle.binlog_rows.specs.declared.rows_event_data.RowsEventData.TheVariants as types
use Rattle.binlog_undo.specs.InverseEvents.{GivesInverse, type_of}
use Rattle.binlog_undo.specs.declared.inverse_event.ForeignKeyChecks.{ForeignKeyChecks}
use Rattle.binlog_undo_index.specs.declared.places.ChangePlace.{ChangePlace}
use Rattle.binlog_undo_log.proofs.Keys.{some_key}
use Rattle.binlog_undo_log.specs.Output.{is_bound, shown_if, shown}
use Rattle.binlog_undo_log.specs.Places.{FramesOf}
use Rattle.binlog_undo_log.specs.Undoing.{UndoesChange, UndoesRows, undone_events}
use Rattle.binlog_undo.specs.Transactions.{Event}

if_over : (is : Bool) (event : Event) (events others : List Event) → shown_if is event (events ++ others) ≡ shown_if is event events ++ others
if_over true event events others = refl
if_over false event events others = refl

pub shown_over : (has_bounds : Bool) (events others : List Event) → shown has_bounds (events ++ others) ≡ shown has_bounds events ++ shown has_bounds others
shown_over has_bounds [] others = refl
shown_over has_bounds (event ∷ events) others =
    ap (λ (s : List Event). shown_if (has_bounds || not (is_bound event.event_type)) event s) (shown_over has_bounds events others)
    ∙ if_over (has_bounds || not (is_bound event.event_type)) event (shown has_bounds events) (shown has_bounds others)

always : (has_bounds bound : Bool) → bound ≡ false → (has_bounds || not bound) ≡ true
always true bound h = refl
always false true h = absurd cc
always false false h = refl

-- An event that doesn't begin or end a transaction is written.
one_shown : (has_bounds : Bool) (event : Event) (events : List Event) → is_bound event.event_type ≡ false → shown has_bounds (event ∷ events) ≡ event ∷ shown has_bounds events
one_shown has_bounds event events is =
    ap (λ (b : Bool). shown_if b event (shown has_bounds events)) (always has_bounds (is_bound event.event_type) is)

rows_are_no_bound : (event : RowsEventData) → is_bound (type_of event) ≡ false
rows_are_no_bound (types.WriteRowsEventV1 event) = refl
rows_are_no_bound (types.UpdateRowsEventV1 event) = refl
rows_are_no_bound (types.DeleteRowsEventV1 event) = refl
rows_are_no_bound (types.WriteRowsEvent event) = refl
rows_are_no_bound (types.UpdateRowsEvent event) = refl
rows_are_no_bound (types.DeleteRowsEvent event) = refl
rows_are_no_bound (types.PartialUpdateRowsEvent event) = refl

pair_shown : (has_bounds : Bool) (first second : Event) → is_bound first.event_type ≡ false → is_bound second.event_type ≡ false
    → shown has_bounds (first ∷ second ∷ []) ≡ first ∷ second ∷ []
pair_shown has_bounds first second one two =
    one_shown has_bounds first (second ∷ []) one ∙ ap (λ (s : List Event). first ∷ s) (one_shown has_bounds second [] two)

-- What undoes a row event is written.
pub change_shown : (has_bounds : Bool) (is_at : FramesOf) (fde : FormatDescriptionEvent) (checks : ForeignKeyChecks) (change : ChangePlace) (events : List Event)
    → UndoesChange is_at fde checks change events → shown has_bounds events ≡ events
change_shown has_bounds is_at fde checks change events h =
    let rows : UndoesRows checks h.map_event h.undoes.map h.event h.undoes.undoes.rows events = h.undoes.undoes.undoes in
    let columns : List Typed = columns_in h.undoes.map.columns.types h.undoes.map.columns.metadata in
    let by_key = some_key rows.is_maria_log h.undoes.map columns checks h.undoes.undoes.rows rows.inverse rows.undoes.undoes in
    let key : List ℕ = by_key.0 in
    let gives : GivesInverse key columns checks h.undoes.undoes.rows (Ok rows.inverse) = by_key.1 in
    let type : is_bound rows.inverse.event_type ≡ false = ap is_bound gives.2.event_type ∙ rows_are_no_bound gives.0 in
    subst (λ (e : List Event). shown has_bounds e ≡ e) (sym rows.are) (pair_shown has_bounds _ _ refl type)
