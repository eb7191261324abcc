-- What undoes places of a file.
use Rattle.std.proofs.Common.{◌≡◌, inl, inr, ℕ, List, [], ◌∷◌, ◌++◌, map, flat_map, length, refl, sym, ◌∙◌, ap, subst, arith}
use Rattle.binlog_event_format.specs.declared.format_description.FormatDescriptionEvent.{FormatDescriptionEvent}
use Rattle.binlog_events.specs.Events.{EventView}
use Rattle.binlog_undo.specs.declared.inverse_event.ForeignKeyChecks.{ForeignKeyChecks}
use Rattle.binlog_undo_index.specs.Groups.{Kept}
use Rattle.binlog_undo_index.specs.Index.{Keeps, place_of, changes_of}
use Rattle.binlog_undo_index.specs.declared.places.ChangePlace.{ChangePlace}
use Rattle.binlog_undo_index.specs.declared.places.TransactionPlace.{TransactionPlace}
use Rattle.binlog_undo_log.specs.Places.{FramesOf}
use Rattle.binlog_undo_log.specs.Undoing.{IsEventAt, UndoesChange, UndoesChanges, UndoesOwn, UndoesTransaction, UndoesAll, UndoesKept}
use Rattle.binlog_undo.specs.Transactions.{Event}

-- Each frame of the one is at the same place of the other.
abbrev pub AreAmong : FramesOf → FramesOf → Type 0
AreAmong others is_at = (place : ℕ) (frame : List ℕ) → others place frame → is_at place frame

module _ (others is_at : FramesOf) (among : AreAmong others is_at) (fde : FormatDescriptionEvent) (checks : ForeignKeyChecks) where
  pub event_from : (place : ℕ) (event : EventView) → IsEventAt others fde place event → IsEventAt is_at fde place event
  event_from place event h = record { frame = h.frame; at = among place h.frame h.at; is = h.is; right = h.right }

  pub change_from : (change : ChangePlace) (events : List Event) → UndoesChange others fde checks change events → UndoesChange is_at fde checks change events
  change_from change events h = record {
    map_event = h.map_event;
    map_at = event_from change.table_map h.map_event h.map_at;
    event = h.event;
    event_at = event_from change.rows h.event h.event_at;
    undoes = h.undoes;
  }

  pub changes_from : (changes : List ChangePlace) (events : List Event) → UndoesChanges others fde checks changes events → UndoesChanges is_at fde checks changes events
  changes_from [] events h = h
  changes_from (change ∷ changes) events h = (h.0, h.1, changes_from changes h.0 h.2, change_from change h.1 h.3, h.4)

  pub own_from : (event : EventView) (changes : List ChangePlace) (events : List Event) → UndoesOwn others fde checks event changes events → UndoesOwn is_at fde checks event changes events
  own_from event changes events (inl h) = inl (h.0, changes_from changes events h.1)
  own_from event changes events (inr h) = inr h

  pub transaction_from : (last : ℕ) (changes : List ChangePlace) (events : List Event) → UndoesTransaction others fde checks last changes events
      → UndoesTransaction is_at fde checks last changes events
  transaction_from last changes events h = record {
    event = h.event;
    event_at = event_from last h.event h.event_at;
    xid = h.xid;
    reads = h.reads;
    undone = h.undone;
    undoes = own_from h.event changes h.undone h.undoes;
    are = h.are;
  }

  pub all_from : (transactions : List TransactionPlace) (changes : List ChangePlace) (events : List Event) → UndoesAll others fde checks transactions changes events
      → UndoesAll is_at fde checks transactions changes events
  all_from [] changes events h = h
  all_from (transaction ∷ transactions) changes events h =
      (h.0, h.1, h.2, h.3, h.4, h.5, all_from transactions h.1 h.2 h.6, transaction_from transaction.last h.0 h.3 h.7, h.8)

-- ---- the transactions that were kept

-- Two lists of changes with the same number in front are the same.
same_front : (xs ys more others : List ChangePlace) → length xs ≡ length ys → xs ++ more ≡ ys ++ others → (xs ≡ ys) × (more ≡ others)
same_front [] [] more others long is = (refl, is)
same_front [] (y ∷ ys) more others long is = absurd (omega arith)
same_front (x ∷ xs) [] more others long is = absurd (omega arith)
same_front (x ∷ xs) (y ∷ ys) more others long is =
    let lengths : length xs ≡ length ys = omega arith in
    let tails : xs ++ more ≡ ys ++ others = cc in
    let first : x ≡ y = cc in
    let rest = same_front xs ys more others lengths tails in
    (ap (λ (z : ChangePlace). z ∷ xs) first ∙ ap (λ (zs : List ChangePlace). y ∷ zs) rest.0, rest.1)

module _ (is_at : FramesOf) (fde : FormatDescriptionEvent) (checks : ForeignKeyChecks) where
  all_kept : (kept : List Kept) (changes : List ChangePlace) (events : List Event) → changes ≡ flat_map changes_of kept
      → UndoesAll is_at fde checks (map place_of kept) changes events → UndoesKept is_at fde checks kept events
  all_kept [] changes events is h = h.1
  all_kept (first ∷ kept) changes events is h =
      let own : List ChangePlace = h.0 in
      let same = same_front own first.changes h.1 (flat_map changes_of kept) h.5 (sym h.4 ∙ is) in
      (h.2, h.3, all_kept kept h.1 h.2 same.1 h.6, subst (λ (c : List ChangePlace). UndoesTransaction is_at fde checks first.last c h.3) same.0 h.7, h.8)

  pub kept_are_undone : (kept : List Kept) (transactions : List TransactionPlace) (changes : List ChangePlace) (events : List Event)
      → Keeps kept transactions changes → UndoesAll is_at fde checks transactions changes events → UndoesKept is_at fde checks kept events
  kept_are_undone kept transactions changes events are h =
      all_kept kept changes events are.changes_are (subst (λ (t : List TransactionPlace). UndoesAll is_at fde checks t changes events) are.transactions_are h)
