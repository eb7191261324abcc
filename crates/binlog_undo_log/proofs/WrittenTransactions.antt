-- The transactions of a log that is written: a BEGIN, pairs of a table map and rows, and an XID.
use Rattle.std.proofs.Common.{◌≡◌, ℕ, List, [], ◌∷◌, ◌++◌, Result, Ok, refl, sym, ◌∙◌, ap, subst, append-nil, inl, inr}
use Rattle.std.specs.Prelude.{IsOkUnless, Bool, None}
use Rattle.std.proofs.lemmas.Grind.{flat_map-append}
use Rattle.std.proofs.lemmas.Bool.{eqb-true}
use Rattle.std.specs.List.{AllByRecursion, flat_map}
use Rattle.binlog_columns.specs.Metadata.{Typed}
use Rattle.binlog_columns.specs.Refusals.{refusal, columns_in}
use Rattle.binlog_consts.specs.declared.event_type.EventType.{EventType}
use Rattle.binlog_consts.specs.declared.event_type.EventType.TheVariants.{TABLE_MAP_EVENT}
use Rattle.binlog_event_format.specs.Headers.{header_of}
use Rattle.binlog_event_format.specs.PostHeaders.{post_header}
use Rattle.binlog_event_format.specs.declared.format_description.FormatDescriptionEvent.{FormatDescriptionEvent}
use Rattle.binlog_event_format.specs.declared.header.BinlogEventHeader.{BinlogEventHeader}
use Rattle.binlog_events.specs.Events.{EventView}
use Rattle.binlog_events.specs.Parts.{data_of}
use Rattle.binlog_payloads.specs.InnerEvents.{inner_fde}
use Rattle.binlog_rows.specs.Forms.{default_length}
use Rattle.binlog_rows.specs.Rows.{rows as rows_format}
use Rattle.binlog_rows.specs.RowsData.{event_in, form_in}
use Rattle.binlog_rows.specs.TableMaps.{table_map}
use Rattle.binlog_rows.specs.declared.rows_event_data.RowsEventData.{RowsEventData}
use Rattle.binlog_rows.specs.declared.table_map_event.TableMapEvent.{TableMapEvent}
use Rattle.binlog_undo.proofs.EventChanges.{some_changes, inverse_changes}
use Rattle.binlog_undo.proofs.InverseEvents.{parts_are}
use Rattle.binlog_undo.specs.InverseEvents.{GivesInverse, type_of}
use Rattle.binlog_undo.specs.declared.inverse_event.ForeignKeyChecks.{ForeignKeyChecks}
use Rattle.binlog_undo.specs.declared.inverse_event.InverseEvent.{InverseEvent}
use Rattle.binlog_undo.specs.declared.undo_error.UndoError.{UndoError}
use Rattle.binlog_undo.specs.declared.undo_error.UndoError.TheVariants as errors
use Rattle.binlog_undo_index.specs.Groups.{Kept}
use Rattle.binlog_undo_index.specs.declared.places.ChangePlace.{ChangePlace}
use Rattle.binlog_undo_log.proofs.Keys.{some_key}
use Rattle.binlog_undo_log.proofs.LogChanges.{length_of_rows}
use Rattle.binlog_undo_log.proofs.ReadMaps.{same_post_header, map_is_read}
use Rattle.binlog_undo_log.proofs.UndoneAgain.{is_accepted_again}
use Rattle.binlog_undo_log.specs.FullImages.{HasFullImages}
use Rattle.binlog_undo_log.specs.Heads.{rows_length}
use Rattle.binlog_undo_log.specs.Keys.{GivesByKey}
use Rattle.binlog_undo_log.specs.LogChanges.{LogChange, name_of, HasTableChanges, IsChanged, AreChanged, AreTransactionChanges, AreKeptChanges}
use Rattle.binlog_undo_log.specs.Places.{FramesOf, IsFrameIn, AtPlaces}
use Rattle.binlog_undo_log.specs.Undoing.{UndoesRows, UndoesChange, UndoesChanges, UndoesOwn, UndoesTransaction, UndoesKept, begin_event, commit_event, undone_events}
use Rattle.binlog_undo.specs.Headings.{source_heading}
use Rattle.binlog_undo.specs.Transactions.{Event}
use Rattle.table_changes.proofs.Inverses.{inverse-append}
use Rattle.table_changes.specs.Changes.{inverse}

-- A table map and rows behind it, and their changes.
pub record WrittenPair : Type 0 where
  pub map_event : Event
  pub rows_event : Event
  pub changes : List LogChange

pub record WrittenTransaction : Type 0 where
  pub header : BinlogEventHeader
  pub xid : ℕ
  pub pairs : List WrittenPair

abbrev pub events_of : WrittenPair → List Event
events_of pair = pair.map_event ∷ pair.rows_event ∷ []

abbrev pub changes_of : WrittenPair → List LogChange
changes_of pair = pair.changes

abbrev pub events_in : WrittenTransaction → List Event
events_in transaction = begin_event transaction.header ∷ flat_map events_of transaction.pairs ++ commit_event transaction.header transaction.xid ∷ []

abbrev pub changes_in : WrittenTransaction → List LogChange
changes_in transaction = flat_map changes_of transaction.pairs

-- The rows are read under this description, are of the table of this table map, and can be undone if their images have all columns.
pub record IsPair (d : FormatDescriptionEvent) (pair : WrittenPair) : Type 0 where
  pub map : TableMapEvent
  pub map_type : pair.map_event.event_type ≡ TABLE_MAP_EVENT
  pub map_read : (table_map (post_header d TABLE_MAP_EVENT)).reads pair.map_event.body ≡ Ok (map, [])
  pub rows : RowsEventData
  pub rows_type : pair.rows_event.event_type ≡ type_of rows
  pub rows_read : (rows_format (form_in rows) (post_header d (type_of rows))).spells pair.rows_event.body (event_in rows) []
  pub same : map.table.id ≡ (event_in rows).head.table_id
  pub columns : refusal 0 map.columns.types map.columns.metadata ≡ None
  pub accepted : HasFullImages rows → (is_maria_log : Bool) (checks : ForeignKeyChecks) (answer : Result InverseEvent UndoError)
      → GivesByKey is_maria_log map (columns_in map.columns.types map.columns.metadata) checks rows answer → IsOkUnless answer errors.Memory
  pub are : HasTableChanges map rows pair.changes

abbrev pub AreIn : FormatDescriptionEvent → WrittenTransaction → Type 0
AreIn d transaction = AllByRecursion (IsPair d) transaction.pairs

-- The events are those of pairs, which are the inverse of changes of which this holds.
pub record HasPairs (are : List LogChange → Type 0) (d : FormatDescriptionEvent) (events : List Event) : Type 0 where
  pub changes : List LogChange
  pub are_changes : are changes
  pub pairs : List WrittenPair
  pub each : AllByRecursion (IsPair d) pairs
  pub events_are : events ≡ flat_map events_of pairs
  pub inverse_are : inverse changes ≡ flat_map changes_of pairs

all_over : {A : Type 0} (P : A → Type 0) (xs ys : List A) → AllByRecursion P xs → AllByRecursion P ys → AllByRecursion P (xs ++ ys)
all_over P [] ys h k = k
all_over P (x ∷ xs) ys h k = (h.0, all_over P xs ys h.1 k)

module _ (is_at : FramesOf) (fde : FormatDescriptionEvent) (checks : ForeignKeyChecks) where
  change_pair : (change : ChangePlace) (events : List Event) → UndoesChange is_at fde checks change events → HasPairs (IsChanged is_at fde change) fde events
  change_pair change events h =
      let map : TableMapEvent = h.undoes.map in
      let columns : List Typed = columns_in map.columns.types map.columns.metadata in
      let source : RowsEventData = h.undoes.undoes.rows in
      let rows : UndoesRows checks h.map_event map h.event source events = h.undoes.undoes.undoes in
      let by_key = some_key rows.is_maria_log map columns checks source rows.inverse rows.undoes.undoes in
      let key : List ℕ = by_key.0 in
      let gives : GivesInverse key columns checks source (Ok rows.inverse) = by_key.1 in
      let undoing : RowsEventData = gives.0 in
      let length : post_header fde (type_of undoing) ≡ default_length (form_in undoing) =
      ap (post_header fde) (sym gives.2.event_type) ∙ sym (same_post_header fde h.event_at.frame h.event rows.inverse.event_type h.event_at.is)
      ∙ eqb-true _ _ rows.length ∙ ap rows_length gives.2.event_type ∙ length_of_rows undoing in
      let found = some_changes (name_of map) key columns checks source undoing gives.1 in
      let table_id : (event_in undoing).head.table_id ≡ (event_in source).head.table_id =
      ap (λ (e : RowsEventData). (event_in e).head.table_id) gives.1.is
      ∙ ap (λ e. e.head.table_id) (parts_are gives.1.undone.completes checks gives.1.undone.bytes source) in
      let pair : WrittenPair = record {
        map_event = record { heading = source_heading (header_of h.map_event.frame); event_type = TABLE_MAP_EVENT; body = data_of h.map_event.fde.footer h.map_event.frame };
        rows_event = record { heading = source_heading (header_of h.event.frame); event_type = rows.inverse.event_type; body = rows.inverse.body.items };
        changes = inverse found.0;
      } in
      let is : IsPair fde pair = record {
        map = map;
        map_type = refl;
        map_read = map_is_read fde h.map_at.frame h.map_event map h.map_at.is h.undoes.read;
        rows = undoing;
        rows_type = gives.2.event_type;
        rows_read = subst (λ (n : ℕ). (rows_format (form_in undoing) n).spells rows.inverse.body.items (event_in undoing) []) (sym length) gives.2.is_read;
        same = rows.undoes.same ∙ sym table_id;
        columns = rows.undoes.columns;
        accepted = λ full is_maria_log again answer gives_again. is_accepted_again key columns checks again source undoing gives.1 full is_maria_log map answer gives_again;
        are = inverse_changes (name_of map) key columns checks source undoing gives.1 found.0 found.1;
      } in
      record {
        changes = found.0;
        are_changes = record {
          map_event = h.map_event;
          map_at = h.map_at;
          map = map;
          map_read = h.undoes.read;
          event = h.event;
          event_at = h.event_at;
          read = source;
          event_read = h.undoes.undoes.read;
          are = found.1;
        };
        pairs = pair ∷ [];
        each = (is, tt);
        events_are = rows.are;
        inverse_are = sym (append-nil (inverse found.0));
      }

  changes_pairs : (changes : List ChangePlace) (events : List Event) → UndoesChanges is_at fde checks changes events → HasPairs (AreChanged is_at fde changes) fde events
  changes_pairs [] events h = record { changes = []; are_changes = refl; pairs = []; each = tt; events_are = h; inverse_are = refl }
  changes_pairs (change ∷ changes) events h =
      let first = change_pair change h.1 h.3 in
      let others = changes_pairs changes h.0 h.2 in
      record {
        changes = first.changes ++ others.changes;
        are_changes = (first.changes, others.changes, first.are_changes, others.are_changes, refl);
        pairs = others.pairs ++ first.pairs;
        each = all_over (IsPair fde) others.pairs first.pairs others.each first.each;
        events_are = h.4 ∙ ap (λ (e : List Event). e ++ h.1) others.events_are ∙ ap (λ (e : List Event). flat_map events_of others.pairs ++ e) first.events_are
            ∙ sym (flat_map-append events_of others.pairs first.pairs);
        inverse_are = inverse-append first.changes others.changes ∙ ap (λ (c : List LogChange). c ++ inverse first.changes) others.inverse_are
            ∙ ap (λ (c : List LogChange). flat_map changes_of others.pairs ++ c) first.inverse_are ∙ sym (flat_map-append changes_of others.pairs first.pairs);
      }

-- Under another description with the same post-header lengths.
pub pairs_under : (d e : FormatDescriptionEvent) (pairs : List WrittenPair) → ((type : EventType) → post_header d type ≡ post_header e type) → AllByRecursion (IsPair d) pairs → AllByRecursion (IsPair e) pairs
pairs_under d e [] same h = tt
pairs_under d e (pair ∷ pairs) same h = (
  record {
    map = h.0.map;
    map_type = h.0.map_type;
    map_read = subst (λ (n : ℕ). (table_map n).reads pair.map_event.body ≡ Ok (h.0.map, [])) (same TABLE_MAP_EVENT) h.0.map_read;
    rows = h.0.rows;
    rows_type = h.0.rows_type;
    rows_read = subst (λ (n : ℕ). (rows_format (form_in h.0.rows) n).spells pair.rows_event.body (event_in h.0.rows) []) (same (type_of h.0.rows)) h.0.rows_read;
    same = h.0.same;
    columns = h.0.columns;
    accepted = h.0.accepted;
    are = h.0.are;
  },
  pairs_under d e pairs same h.1,
)

abbrev AreOwn : FramesOf → FormatDescriptionEvent → EventView → List ChangePlace → List LogChange → Type 0
AreOwn is_at fde event changes own = AtPlaces (λ (among : FramesOf) (d : FormatDescriptionEvent). AreChanged among d changes own) is_at fde event

own_pairs : (is_at : FramesOf) (fde : FormatDescriptionEvent) (checks : ForeignKeyChecks) (event : EventView) (changes : List ChangePlace) (events : List Event)
    → ((type : EventType) → post_header event.fde type ≡ post_header fde type) → UndoesOwn is_at fde checks event changes events → HasPairs (AreOwn is_at fde event changes) fde events
own_pairs is_at fde checks event changes events same (inl h) =
    let found = changes_pairs is_at fde checks changes events h.1 in
    record { changes = found.changes; are_changes = inl (h.0, found.are_changes); pairs = found.pairs; each = found.each; events_are = found.events_are; inverse_are = found.inverse_are }
own_pairs is_at fde checks event changes events same (inr h) =
    let found = changes_pairs (IsFrameIn h.content) (inner_fde event.fde) checks changes events h.in_it in
    record {
      changes = found.changes;
      are_changes = inr (record { content = h.content; has = h.has; in_it = found.are_changes });
      pairs = found.pairs;
      each = pairs_under (inner_fde event.fde) fde found.pairs same found.each;
      events_are = found.events_are;
      inverse_are = found.inverse_are;
    }

-- The events are those of transactions, whose changes are the inverse of those of the transactions that were kept.
pub record HasTransactions (is_at : FramesOf) (fde : FormatDescriptionEvent) (kept : List Kept) (events : List Event) : Type 0 where
  pub changes : List LogChange
  pub are_changes : AreKeptChanges is_at fde kept changes
  pub transactions : List WrittenTransaction
  pub each : AllByRecursion (AreIn fde) transactions
  pub events_are : events ≡ flat_map events_in transactions
  pub inverse_are : inverse changes ≡ flat_map changes_in transactions

module _ (is_at : FramesOf) (fde : FormatDescriptionEvent) (checks : ForeignKeyChecks) where
  transaction_found : (kept : Kept) (events : List Event) → UndoesTransaction is_at fde checks kept.last kept.changes events
      → (own : List LogChange) × AreTransactionChanges is_at fde kept.last kept.changes own × (transaction : WrittenTransaction) × AreIn fde transaction
      × (events ≡ events_in transaction) × (inverse own ≡ changes_in transaction)
  transaction_found kept events h =
      let header : BinlogEventHeader = header_of h.event.frame in
      let within = own_pairs is_at fde checks h.event kept.changes h.undone (λ type. same_post_header fde h.event_at.frame h.event type h.event_at.is) h.undoes in (
        within.changes,
        record { event = h.event; event_at = h.event_at; are = within.are_changes },
        record { header = header; xid = h.xid; pairs = within.pairs },
        within.each,
        h.are ∙ ap (λ (e : List Event). begin_event header ∷ e ++ commit_event header h.xid ∷ []) within.events_are,
        within.inverse_are,
      )

  pub kept_transactions : (kept : List Kept) (events : List Event) → UndoesKept is_at fde checks kept events → HasTransactions is_at fde kept events
  kept_transactions [] events h = record { changes = []; are_changes = refl; transactions = []; each = tt; events_are = h; inverse_are = refl }
  kept_transactions (first ∷ others) events h =
      let here = transaction_found first h.1 h.3 in
      let more = kept_transactions others h.0 h.2 in
      let transaction : WrittenTransaction = here.2 in
      let single : List WrittenTransaction = transaction ∷ [] in
      record {
        changes = here.0 ++ more.changes;
        are_changes = (here.0, more.changes, here.1, more.are_changes, refl);
        transactions = more.transactions ++ single;
        each = all_over (AreIn fde) more.transactions single more.each (here.3, tt);
        events_are = h.4 ∙ ap (λ (e : List Event). e ++ h.1) more.events_are
            ∙ ap (λ (e : List Event). flat_map events_in more.transactions ++ e) (here.4 ∙ sym (append-nil (events_in transaction)))
            ∙ sym (flat_map-append events_in more.transactions single);
        inverse_are = inverse-append here.0 more.changes ∙ ap (λ (c : List LogChange). c ++ inverse here.0) more.inverse_are
            ∙ ap (λ (c : List LogChange). flat_map changes_in more.transactions ++ c) (here.5 ∙ sym (append-nil (changes_in transaction)))
            ∙ sym (flat_map-append changes_in more.transactions single);
      }
