-- The steps of the visits of the row events that are undone.
use Rattle.std.proofs.Common.{◌≡◌, inl, inr, ℕ, true, false, List, [], ◌∷◌, ◌++◌, length, Option, Some, None, Result, Ok, Err, OnOk, refl, sym, subst}
use Rattle.std.specs.Prelude.{◌==◌}
use Rattle.std.proofs.lemmas.Bool.{eqb-true}
use Rattle.std.proofs.lemmas.List.{nil_from_length}
use Rattle.binlog_consts.specs.declared.version.BinlogVersion.TheVariants.{Version4}
use Rattle.binlog_event_format.specs.FormatDescription.{default_description}
use Rattle.binlog_event_format.specs.declared.format_description.FormatDescriptionEvent.{FormatDescriptionEvent}
use Rattle.binlog_events.specs.Events.{EventView, event_at}
use Rattle.binlog_payloads.specs.Contents.{content_of}
use Rattle.binlog_payloads.specs.Events.{payload_in}
use Rattle.binlog_payloads.specs.Fields.{Payload}
use Rattle.binlog_payloads.specs.InnerEvents.{inner_fde}
use Rattle.binlog_rows.specs.declared.table_map_event.TableMapEvent.{TableMapEvent}
use Rattle.binlog_undo_index.specs.declared.places.ChangePlace.{ChangePlace}
use Rattle.binlog_undo_index.specs.declared.places.TransactionPlace.{TransactionPlace}
use Rattle.binlog_undo_log.proofs.Undone.{AreAmong}
use Rattle.binlog_undo_log.specs.Compressed.{most_bytes}
use Rattle.binlog_undo_log.specs.Files.{IsDescribed}
use Rattle.binlog_undo_log.specs.Places.{FramesOf, IsFrameIn, InContent}
use Rattle.binlog_undo_log.specs.Undoing.{HasRightChecksum, IsEventAt, ReadsMap}
use Rattle.binlog_undo_log.specs.Visiting.{MappedRows, RowsRelation, VisitsEach, VisitsThose, AreMapped, AreAt, AreAtEach, AreOwn, AreOfTransaction, AreOfAll, AreUnder, AreIfAny}
use Rattle.binlog_undo_log.specs.declared.undo_error.UndoLogError.{UndoLogError}

abbrev Answer : Type 0
Answer = Result (Unit {0}) UndoLogError

-- What follows from a fact, where that holds if there is no error.
pub on_answer : {P Q : Type 0} (answer : Answer) → (P → Q) → OnOk answer P → OnOk answer Q
on_answer (Ok done) follows fact = follows fact
on_answer (Err error) follows fact = tt

-- ---- places

module _ (others is_at : FramesOf) (among : AreAmong others is_at) (fde : FormatDescriptionEvent) where
  event_from : (place : ℕ) (event : EventView) → IsEventAt others fde place event → IsEventAt is_at fde place event
  event_from place event h = record { frame = h.frame; at = among place h.frame h.at; is = h.is; right = h.right }

  at_from : (change : ChangePlace) (rows : List MappedRows) → AreAt others fde change rows → AreAt is_at fde change rows
  at_from change rows h = record {
    map_event = h.map_event;
    map_at = event_from change.table_map h.map_event h.map_at;
    event = h.event;
    event_at = event_from change.rows h.event h.event_at;
    are = h.are;
  }

  each_from : (changes : List ChangePlace) (rows : List MappedRows) → AreAtEach others fde changes rows → AreAtEach is_at fde changes rows
  each_from [] rows h = h
  each_from (change ∷ changes) rows h = (h.0, h.1, each_from changes h.0 h.2, at_from change h.1 h.3, h.4)

  own_from : (event : EventView) (changes : List ChangePlace) (rows : List MappedRows) → AreOwn others fde event changes rows → AreOwn is_at fde event changes rows
  own_from event changes rows (inl h) = inl (h.0, each_from changes rows h.1)
  own_from event changes rows (inr h) = inr h

  transaction_from : (last : ℕ) (changes : List ChangePlace) (rows : List MappedRows) → AreOfTransaction others fde last changes rows → AreOfTransaction is_at fde last changes rows
  transaction_from last changes rows h = record { event = h.event; event_at = event_from last h.event h.event_at; own = own_from h.event changes rows h.own }

  all_from : (transactions : List TransactionPlace) (changes : List ChangePlace) (rows : List MappedRows) → AreOfAll others fde transactions changes rows → AreOfAll is_at fde transactions changes rows
  all_from [] changes rows h = h
  all_from (transaction ∷ transactions) changes rows h =
      (h.0, h.1, h.2, h.3, h.4, h.5, all_from transactions h.1 h.2 h.6, transaction_from transaction.last h.0 h.3 h.7, h.8)

-- ---- visits

module _ {V : Type 0} (visits : RowsRelation V) where
  both_visited : (front rows : List MappedRows) (old mid new : V) → VisitsEach visits front old mid → VisitsEach visits rows mid new → VisitsEach visits (front ++ rows) old new
  both_visited [] rows old mid new same h = subst (λ (v : V). VisitsEach visits rows v new) same h
  both_visited (first ∷ front) rows old mid new (next, one, more) h = (next, one, both_visited front rows next mid new more h)

  -- One row event, whose table map was read.
  pub event_visited : (map_event event : EventView) (map : TableMapEvent) (answer : Answer) (old new : V) → ReadsMap map_event map
      → OnOk answer (visits old map event new) → OnOk answer (VisitsThose visits (AreMapped map_event event) old new)
  event_visited map_event event map answer old new reads =
      on_answer answer (λ visited. (record { map = map; event = event } ∷ [], (map, reads, refl), (new, visited, refl)))

  -- The row event at a place.
  pub change_visited : (is_at now : FramesOf) (among : AreAmong now is_at) (fde : FormatDescriptionEvent) (change : ChangePlace) (map_frame frame : List ℕ) (map_event event : EventView)
      (answer : Answer) (old new : V) → is_at change.table_map map_frame → now change.rows frame → event_at fde map_frame ≡ Some map_event → HasRightChecksum map_event
      → event_at fde frame ≡ Some event → HasRightChecksum event → OnOk answer (VisitsThose visits (AreMapped map_event event) old new)
      → OnOk answer (VisitsThose visits (AreAt is_at fde change) old new)
  change_visited is_at now among fde change map_frame frame map_event event answer old new map_there there map_is map_right is right =
      on_answer answer
      (λ h. (
        h.0,
        record {
          map_event = map_event;
          map_at = record { frame = map_frame; at = map_there; is = map_is; right = map_right };
          event = event;
          event_at = record { frame = frame; at = among change.rows frame there; is = is; right = right };
          are = h.1;
        },
        h.2,
      ))

  module _ (is_at now : FramesOf) (among : AreAmong now is_at) (fde : FormatDescriptionEvent) where
    -- One row event more.
    pub one_more : (change : ChangePlace) (done : List ChangePlace) (old mid new : V) → VisitsThose visits (AreAtEach is_at fde done) old mid → VisitsThose visits (AreAt now fde change) mid new
        → VisitsThose visits (AreAtEach is_at fde (change ∷ done)) old new
    one_more change done old mid new h k =
        (h.0 ++ k.0, (h.0, k.0, h.1, at_from now is_at among fde change k.0 k.1, refl), both_visited h.0 k.0 old mid new h.2 k.2)

    -- One transaction more.
    pub transaction_more : (transaction : TransactionPlace) (done : List TransactionPlace) (own others : List ChangePlace) (old mid new : V)
        → VisitsThose visits (AreOfAll is_at fde done others) old mid → VisitsThose visits (AreOfTransaction now fde transaction.last own) mid new → length own ≡ transaction.changes
        → VisitsThose visits (AreOfAll is_at fde (transaction ∷ done) (own ++ others)) old new
    transaction_more transaction done own others old mid new h k long = (
      h.0 ++ k.0,
      (own, others, h.0, k.0, refl, long, h.1, transaction_from now is_at among fde transaction.last own k.0 k.1, refl),
      both_visited h.0 k.0 old mid new h.2 k.2,
    )

    -- The row events of a transaction with this last event.
    pub transaction_visited : (answer : Answer) (last : ℕ) (changes : List ChangePlace) (frame : List ℕ) (event : EventView) (old new : V) → is_at last frame → event_at fde frame ≡ Some event
        → HasRightChecksum event → OnOk answer (VisitsThose visits (AreOwn now fde event changes) old new) → OnOk answer (VisitsThose visits (AreOfTransaction is_at fde last changes) old new)
    transaction_visited answer last changes frame event old new at is right =
        on_answer answer
        (λ h. (
          h.0,
          record { event = event; event_at = record { frame = frame; at = at; is = is; right = right }; own = own_from now is_at among fde event changes h.0 h.1 },
          h.2,
        ))

  -- ---- a payload

  pub outside_visited : (event : EventView) (changes : List ChangePlace) (is_at : FramesOf) (fde : FormatDescriptionEvent) (answer : Answer) (old new : V) → payload_in event ≡ Ok None
      → OnOk answer (VisitsThose visits (AreAtEach is_at fde changes) old new) → OnOk answer (VisitsThose visits (AreOwn is_at fde event changes) old new)
  outside_visited event changes is_at fde answer old new none = on_answer answer (λ h. (h.0, inl (none, h.1), h.2))

  pub inside_visited : (event : EventView) (changes : List ChangePlace) (is_at : FramesOf) (fde : FormatDescriptionEvent) (answer : Answer) (old new : V)
      → OnOk answer (VisitsThose visits (λ rows. InContent (λ (f : FramesOf) (d : FormatDescriptionEvent). AreAtEach f d changes rows) event) old new)
      → OnOk answer (VisitsThose visits (AreOwn is_at fde event changes) old new)
  inside_visited event changes is_at fde answer old new = on_answer answer (λ h. (h.0, inr h.1, h.2))

  pub content_visited : (event : EventView) (changes : List ChangePlace) (payload : Payload) (content bytes : List ℕ) (d : FormatDescriptionEvent) (answer : Answer) (old new : V)
      → payload_in event ≡ Ok (Some payload) → content_of most_bytes payload ≡ Ok content → bytes ≡ content → d ≡ inner_fde event.fde
      → OnOk answer (VisitsThose visits (AreAtEach (IsFrameIn bytes) d changes) old new)
      → OnOk answer (VisitsThose visits (λ rows. InContent (λ (f : FramesOf) (d : FormatDescriptionEvent). AreAtEach f d changes rows) event) old new)
  content_visited event changes payload content bytes d answer old new has is same under =
      on_answer answer
      (λ h. (
        h.0,
        record {
          content = content;
          has = record { payload = payload; payload_is = has; content_is = is };
          in_it =
              subst (λ (s : List ℕ). AreAtEach (IsFrameIn s) (inner_fde event.fde) changes h.0) same
              (subst (λ (f : FormatDescriptionEvent). AreAtEach (IsFrameIn bytes) f changes h.0) under h.1);
        },
        h.2,
      ))

  -- ---- a file

  pub described_visited : (is_at now : FramesOf) (among : AreAmong now is_at) (answer : Answer) (place : ℕ) (frame : List ℕ) (first : FormatDescriptionEvent) (event : EventView) (d : FormatDescriptionEvent)
      (transactions : List TransactionPlace) (changes : List ChangePlace) (old new : V) → is_at place frame → first ≡ default_description Version4 → event_at first frame ≡ Some event
      → HasRightChecksum event → IsDescribed event d → OnOk answer (VisitsThose visits (AreOfAll now d transactions changes) old new)
      → OnOk answer (VisitsThose visits (AreUnder is_at place transactions changes) old new)
  described_visited is_at now among answer place frame first event d transactions changes old new at default is right described =
      on_answer answer
      (λ h. (
        h.0,
        record {
          event = event;
          event_at = record { frame = frame; at = at; is = subst (λ (f : FormatDescriptionEvent). event_at f frame ≡ Some event) default is; right = right };
          d = d;
          described = described;
          are = all_from now is_at among d transactions changes h.0 h.1;
        },
        h.2,
      ))

  some_visited : (is_at : FramesOf) (answer : Answer) (place : ℕ) (transactions : List TransactionPlace) (changes : List ChangePlace) (old new : V) → (length transactions == 0) ≡ false
      → OnOk answer (VisitsThose visits (AreUnder is_at place transactions changes) old new) → OnOk answer (VisitsThose visits (AreIfAny is_at (Some place) transactions changes) old new)
  some_visited is_at answer place [] changes old new any h = absurd cc
  some_visited is_at answer place (transaction ∷ transactions) changes old new any h = h

  pub file_visited : (is_at : FramesOf) (answer : Answer) (description : Option ℕ) (place : ℕ) (transactions : List TransactionPlace) (changes : List ChangePlace) (old new : V)
      → description ≡ Some place → (length transactions == 0) ≡ false → OnOk answer (VisitsThose visits (AreUnder is_at place transactions changes) old new)
      → OnOk answer (VisitsThose visits (AreIfAny is_at description transactions changes) old new)
  file_visited is_at answer description place transactions changes old new is any h =
      subst (λ (p : Option ℕ). OnOk answer (VisitsThose visits (AreIfAny is_at p transactions changes) old new)) (sym is) (some_visited is_at answer place transactions changes old new any h)

  -- Nothing is undone of a file.
  pub none_visited : (is_at : FramesOf) (description : Option ℕ) (transactions : List TransactionPlace) (changes : List ChangePlace) (visitor : V) → (length transactions == 0) ≡ true
      → VisitsThose visits (AreIfAny is_at description transactions changes) visitor visitor
  none_visited is_at description transactions changes visitor none =
      let nil : transactions ≡ [] = nil_from_length transactions (eqb-true (length transactions) 0 none) in
      ([], subst (λ (t : List TransactionPlace). AreIfAny is_at description t changes []) (sym nil) refl, refl)
