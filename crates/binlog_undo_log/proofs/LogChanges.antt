-- The events that are written are the inverse changes.
use Rattle.std.proofs.Common.{◌≡◌, ℕ, List, [], ◌∷◌, ◌++◌, Ok, refl, sym, ◌∙◌, ap, subst, append-nil, inl, inr}
use Rattle.std.proofs.lemmas.Grind.{flat_map-append}
use Rattle.std.proofs.lemmas.Bool.{eqb-true}
use Rattle.std.specs.List.{AllByRecursion, flat_map}
use Rattle.binlog_columns.specs.Refusals.{columns_in}
use Rattle.binlog_consts.specs.declared.event_type.EventType.{EventType}
use Rattle.binlog_consts.specs.declared.event_type.EventType.TheVariants.{TABLE_MAP_EVENT}
use Rattle.binlog_event_format.specs.Headers.{header_of}
use Rattle.binlog_event_format.specs.declared.format_description.FormatDescriptionEvent.{FormatDescriptionEvent}
use Rattle.binlog_event_format.specs.PostHeaders.{post_header}
use Rattle.binlog_events.specs.Events.{EventView}
use Rattle.binlog_payloads.specs.InnerEvents.{inner_fde}
use Rattle.binlog_rows.specs.Forms.{default_length}
use Rattle.binlog_rows.specs.Rows.{rows as rows_format}
use Rattle.binlog_rows.specs.RowsData.{event_in, form_in}
use Rattle.binlog_rows.specs.TableMaps.{table_map}
use Rattle.binlog_rows.specs.declared.rows_event_data.RowsEventData.{RowsEventData}
use Rattle.binlog_rows.specs.declared.rows_event_data.RowsEventData.TheVariants as types
use Rattle.binlog_undo.proofs.EventChanges.{some_changes, inverse_changes}
use Rattle.binlog_undo.specs.InverseEvents.{GivesInverse, type_of}
use Rattle.binlog_columns.specs.Metadata.{Typed}
use Rattle.binlog_rows.specs.declared.table_map_event.TableMapEvent.{TableMapEvent}
use Rattle.binlog_undo.specs.declared.inverse_event.ForeignKeyChecks.{ForeignKeyChecks}
use Rattle.binlog_undo_log.proofs.Keys.{some_key}
use Rattle.binlog_undo_log.proofs.ReadMaps.{same_post_header, map_is_read}
use Rattle.binlog_undo_log.specs.Heads.{rows_length}
use Rattle.binlog_undo_index.specs.Groups.{Kept}
use Rattle.binlog_undo_index.specs.declared.places.ChangePlace.{ChangePlace}
use Rattle.binlog_undo_log.specs.LogChanges.{LogChange, name_of, HasTableChanges, IsChanged, AreChanged, AreTransactionChanges, AreKeptChanges, LogPiece, beside, pair, piece_events, piece_changes, IsPieceOf, ArePairChanges, IsBesideRows, AreLogChanges}
use Rattle.binlog_undo_log.specs.Places.{FramesOf, IsFrameIn, AtPlaces}
use Rattle.binlog_undo_log.specs.Undoing.{UndoesRows, UndoesChange, UndoesChanges, UndoesOwn, UndoesTransaction, UndoesKept, begin_event, commit_event, undone_events}
use Rattle.binlog_undo.specs.Transactions.{Event}
use Rattle.table_changes.proofs.Inverses.{inverse-append}
use Rattle.table_changes.specs.Changes.{inverse}

-- ---- pieces

module _ (d : FormatDescriptionEvent) where
  abbrev IsPiece : LogPiece Event → Type 0
  IsPiece piece = IsPieceOf IsBesideRows (ArePairChanges d) piece

  all_over : (xs ys : List (LogPiece Event)) → AllByRecursion IsPiece xs → AllByRecursion IsPiece ys → AllByRecursion IsPiece (xs ++ ys)
  all_over [] ys h k = k
  all_over (x ∷ xs) ys h k = (h.0, all_over xs ys h.1 k)

  no_changes : AreLogChanges d [] []
  no_changes = record { pieces = []; each = tt; events_are = refl; changes_are = refl }

  one_beside : (event : Event) → IsBesideRows event → AreLogChanges d (event ∷ []) []
  one_beside event is = record { pieces = beside event ∷ []; each = (is, tt); events_are = refl; changes_are = refl }

  one_pair : (map_event rows_event : Event) (changes : List LogChange) → ArePairChanges d map_event rows_event changes → AreLogChanges d (map_event ∷ rows_event ∷ []) changes
  one_pair map_event rows_event changes are = record {
    pieces = pair map_event rows_event changes ∷ [];
    each = (are, tt);
    events_are = refl;
    changes_are = sym (append-nil changes);
  }

  log_over : (events others : List Event) (changes more : List LogChange) → AreLogChanges d events changes → AreLogChanges d others more
      → AreLogChanges d (events ++ others) (changes ++ more)
  log_over events others changes more h k = record {
    pieces = h.pieces ++ k.pieces;
    each = all_over h.pieces k.pieces h.each k.each;
    events_are = ap (λ (e : List Event). e ++ others) h.events_are ∙ ap (λ (e : List Event). flat_map piece_events h.pieces ++ e) k.events_are
        ∙ sym (flat_map-append piece_events h.pieces k.pieces);
    changes_are = ap (λ (c : List LogChange). c ++ more) h.changes_are ∙ ap (λ (c : List LogChange). flat_map piece_changes h.pieces ++ c) k.changes_are
        ∙ sym (flat_map-append piece_changes h.pieces k.pieces);
  }

  log_as : (events others : List Event) (changes : List LogChange) → events ≡ others → AreLogChanges d events changes → AreLogChanges d others changes
  log_as events others changes same h = subst (λ (e : List Event). AreLogChanges d e changes) same h

-- Rows that are written are read under the post-header length of binlog version 4.
pub length_of_rows : (event : RowsEventData) → rows_length (type_of event) ≡ default_length (form_in event)
length_of_rows (types.WriteRowsEventV1 event) = refl
length_of_rows (types.UpdateRowsEventV1 event) = refl
length_of_rows (types.DeleteRowsEventV1 event) = refl
length_of_rows (types.WriteRowsEvent event) = refl
length_of_rows (types.UpdateRowsEvent event) = refl
length_of_rows (types.DeleteRowsEvent event) = refl
length_of_rows (types.PartialUpdateRowsEvent event) = refl

-- ---- what undoes the log

module _ (is_at : FramesOf) (fde : FormatDescriptionEvent) (checks : ForeignKeyChecks) where
  -- The changes of what is undone, and the inverse of them in what is written.
  abbrev Undone : (List LogChange → Type 0) → List Event → Type 0
  Undone are events = (changes : List LogChange) × are changes × AreLogChanges fde events (inverse changes)

  change_undone : (change : ChangePlace) (events : List Event) → UndoesChange is_at fde checks change events → Undone (IsChanged is_at fde change) events
  change_undone change events h =
      let map : TableMapEvent = h.undoes.map in
      let columns : List Typed = columns_in map.columns.types map.columns.metadata in
      let source : RowsEventData = h.undoes.undoes.rows in
      let rows : UndoesRows checks h.map_event map h.event source events = h.undoes.undoes.undoes in
      let by_key = some_key rows.is_maria_log map columns checks source rows.inverse rows.undoes.undoes in
      let key : List ℕ = by_key.0 in
      let gives : GivesInverse key columns checks source (Ok rows.inverse) = by_key.1 in
      let undoing : RowsEventData = gives.0 in
      let length : post_header fde (type_of undoing) ≡ default_length (form_in undoing) =
      ap (post_header fde) (sym gives.2.event_type) ∙ sym (same_post_header fde h.event_at.frame h.event rows.inverse.event_type h.event_at.is)
      ∙ eqb-true _ _ rows.length ∙ ap rows_length gives.2.event_type ∙ length_of_rows undoing in
      let read = subst (λ (n : ℕ). (rows_format (form_in undoing) n).spells rows.inverse.body.items (event_in undoing) []) (sym length) gives.2.is_read in
      let found = some_changes (name_of map) key columns checks source undoing gives.1 in
      let back : HasTableChanges map undoing (inverse found.0) = inverse_changes (name_of map) key columns checks source undoing gives.1 found.0 found.1 in (
        found.0,
        record {
          map_event = h.map_event;
          map_at = h.map_at;
          map = map;
          map_read = h.undoes.read;
          event = h.event;
          event_at = h.event_at;
          read = source;
          event_read = h.undoes.undoes.read;
          are = found.1;
        },
        log_as fde (undone_events h.map_event h.event rows.inverse) events (inverse found.0) (sym rows.are)
            (one_pair fde _ _ (inverse found.0) (record {
              map = map;
              map_type = refl;
              map_read = map_is_read fde h.map_at.frame h.map_event map h.map_at.is h.undoes.read;
              event = undoing;
              event_type = gives.2.event_type;
              event_read = read;
              are = back;
            })),
      )

  changes_undone : (changes : List ChangePlace) (events : List Event) → UndoesChanges is_at fde checks changes events → Undone (AreChanged is_at fde changes) events
  changes_undone [] events h = ([], refl, log_as fde [] events [] (sym h) (no_changes fde))
  changes_undone (change ∷ changes) events h =
      let first = change_undone change h.1 h.3 in
      let others = changes_undone changes h.0 h.2 in (
        first.0 ++ others.0,
        (first.0, others.0, first.1, others.1, refl),
        subst (λ (c : List LogChange). AreLogChanges fde events c) (sym (inverse-append first.0 others.0))
            (log_as fde (h.0 ++ h.1) events (inverse others.0 ++ inverse first.0) (sym h.4) (log_over fde h.0 h.1 (inverse others.0) (inverse first.0) others.2 first.2)),
      )

-- Events under another description with the same post-header lengths.
pieces_under : (d e : FormatDescriptionEvent) (pieces : List (LogPiece Event)) → ((type : EventType) → post_header d type ≡ post_header e type)
    → AllByRecursion (IsPieceOf IsBesideRows (ArePairChanges d)) pieces → AllByRecursion (IsPieceOf IsBesideRows (ArePairChanges e)) pieces
pieces_under d e [] same h = tt
pieces_under d e (beside event ∷ pieces) same h = (h.0, pieces_under d e pieces same h.1)
pieces_under d e (pair map_event rows_event changes ∷ pieces) same h = (
  record {
    map = h.0.map;
    map_type = h.0.map_type;
    map_read = subst (λ (n : ℕ). (table_map n).reads map_event.body ≡ Ok (h.0.map, [])) (same TABLE_MAP_EVENT) h.0.map_read;
    event = h.0.event;
    event_type = h.0.event_type;
    event_read = subst (λ (n : ℕ). (rows_format (form_in h.0.event) n).spells rows_event.body (event_in h.0.event) []) (same (type_of h.0.event)) h.0.event_read;
    are = h.0.are;
  },
  pieces_under d e pieces same h.1,
)

log_under : (d e : FormatDescriptionEvent) (events : List Event) (changes : List LogChange) → ((type : EventType) → post_header d type ≡ post_header e type)
    → AreLogChanges d events changes → AreLogChanges e events changes
log_under d e events changes same h = record { pieces = h.pieces; each = pieces_under d e h.pieces same h.each; events_are = h.events_are; changes_are = h.changes_are }

-- The changes of what is undone, of places in the file or in a content, and the inverse of them in what is written.
abbrev AreOwn : FramesOf → FormatDescriptionEvent → EventView → List ChangePlace → List LogChange → Type 0
AreOwn is_at fde event changes own = AtPlaces (λ (among : FramesOf) (d : FormatDescriptionEvent). AreChanged among d changes own) is_at fde event

own_undone : (is_at : FramesOf) (fde : FormatDescriptionEvent) (checks : ForeignKeyChecks) (event : EventView) (changes : List ChangePlace) (events : List Event)
    → ((type : EventType) → post_header event.fde type ≡ post_header fde type) → UndoesOwn is_at fde checks event changes events
    → (own : List LogChange) × AreOwn is_at fde event changes own × AreLogChanges fde events (inverse own)
own_undone is_at fde checks event changes events same (inl h) =
    let found = changes_undone is_at fde checks changes events h.1 in (found.0, inl (h.0, found.1), found.2)
own_undone is_at fde checks event changes events same (inr h) =
    let found = changes_undone (IsFrameIn h.content) (inner_fde event.fde) checks changes events h.in_it in
    (found.0, inr (record { content = h.content; has = h.has; in_it = found.1 }), log_under (inner_fde event.fde) fde events (inverse found.0) same found.2)

module _ (is_at : FramesOf) (fde : FormatDescriptionEvent) (checks : ForeignKeyChecks) where
  transaction_undone : (last : ℕ) (changes : List ChangePlace) (events : List Event) → UndoesTransaction is_at fde checks last changes events
      → (own : List LogChange) × AreTransactionChanges is_at fde last changes own × AreLogChanges fde events (inverse own)
  transaction_undone last changes events h =
      let begin : Event = begin_event (header_of h.event.frame) in
      let commit : Event = commit_event (header_of h.event.frame) h.xid in
      let within = own_undone is_at fde checks h.event changes h.undone (λ type. same_post_header fde h.event_at.frame h.event type h.event_at.is) h.undoes in
      let behind : AreLogChanges fde (h.undone ++ commit ∷ []) (inverse within.0) =
      subst (λ (c : List LogChange). AreLogChanges fde (h.undone ++ commit ∷ []) c) (append-nil (inverse within.0))
      (log_over fde h.undone (commit ∷ []) (inverse within.0) [] within.2 (one_beside fde commit (inr refl))) in (
        within.0,
        record { event = h.event; event_at = h.event_at; are = within.1 },
        log_as fde (begin ∷ h.undone ++ commit ∷ []) events (inverse within.0) (sym h.are)
            (log_over fde (begin ∷ []) (h.undone ++ commit ∷ []) [] (inverse within.0) (one_beside fde begin (inl refl)) behind),
      )

  pub kept_undone : (kept : List Kept) (events : List Event) → UndoesKept is_at fde checks kept events
      → (changes : List LogChange) × AreKeptChanges is_at fde kept changes × AreLogChanges fde events (inverse changes)
  kept_undone [] events h = ([], refl, log_as fde [] events [] (sym h) (no_changes fde))
  kept_undone (first ∷ others) events h =
      let here = transaction_undone first.last first.changes h.1 h.3 in
      let more = kept_undone others h.0 h.2 in (
        here.0 ++ more.0,
        (here.0, more.0, here.1, more.1, refl),
        subst (λ (c : List LogChange). AreLogChanges fde events c) (sym (inverse-append here.0 more.0))
            (log_as fde (h.0 ++ h.1) events (inverse more.0 ++ inverse here.0) (sym h.4) (log_over fde h.0 h.1 (inverse more.0) (inverse here.0) more.2 here.2)),
      )
