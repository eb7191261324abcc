-- What the first pass makes of an event of a log that is written, and what is left then.
use Rattle.std.proofs.Common.{◌≡◌, ℕ, ◌+◌, ◌-◌, ◌<◌, ◌^◌, min, Bool, true, false, cond, List, ◌∷◌, ◌++◌, length, drop, map, Option, Some, None, Result, Ok, Err, refl, sym, ap, subst, ◌∙◌, append_assoc, arith, inl, inr}
use Rattle.std.specs.Prelude.{◌&&◌, ◌||◌, not, ◌==◌, is_some, nat_le, nat_lt}
use Rattle.std.specs.List.{AllByRecursion, flat_map}
use Rattle.std.proofs.lemmas.Bool.{le-leb, le-ltb}
use Rattle.std.proofs.lemmas.List.{length-append}
use Rattle.binlog_consts.specs.EventTypes.{event_number}
use Rattle.binlog_consts.specs.declared.event_type.EventType.{EventType}
use Rattle.binlog_event_format.specs.Headers.{header_of}
use Rattle.binlog_event_format.specs.declared.format_description.FormatDescriptionEvent.{FormatDescriptionEvent}
use Rattle.binlog_event_format.specs.declared.header.BinlogEventHeader.{BinlogEventHeader}
use Rattle.binlog_events.specs.Events.{EventView, IsEvent}
use Rattle.binlog_events.specs.Parts.{is_description, data_of}
use Rattle.binlog_file.specs.TableMapsInForce.{TableMaps}
use Rattle.binlog_filters.specs.Taking.{begins_transaction, FollowsEvent}
use Rattle.binlog_filters.specs.declared.filter.Filter.{Filter}
use Rattle.binlog_payloads.specs.Events.{payload_in, present}
use Rattle.binlog_payloads.specs.Fields.{Payload, payload_event}
use Rattle.binlog_payloads.specs.declared.error.PayloadError.{PayloadError}
use Rattle.binlog_transactions.specs.declared.mark.Mark.{Mark}
use Rattle.binlog_undo_index.specs.Positions.{is_past, has_place, splits}
use Rattle.binlog_undo_index.specs.declared.index.UndoIndex.{UndoIndex}
use Rattle.binlog_undo_index.specs.declared.seen.SeenEvent.{SeenEvent}
use Rattle.binlog_undo_log.proofs.Placed.{drop_all}
use Rattle.binlog_undo_log.proofs.OneRead.{IsThere}
use Rattle.binlog_undo_log.specs.Choices.{positions_of, is_server, is_before, takes_first, takes_last}
use Rattle.binlog_undo_log.specs.Contents.{HasNoContent, ScansAny, ScansEvent, ScansUnless, ScansItem}
use Rattle.binlog_undo_log.specs.Files.{scans}
use Rattle.binlog_undo_log.specs.Scanning.{seen_event, Sees, DescribesIf, NotesIn, passed, Notes, NotesMark, NotesIf, is_past_stop}
use Rattle.binlog_undo_log.specs.UndoneTwice.{TakesAll, IsWholeEvent}
use Rattle.binlog_undo_log.specs.WholeLogs.{AreReadAs}
use Rattle.binlog_undo_log.specs.declared.choice.Choice.{Choice}
use Rattle.binlog_undo_log.specs.declared.scan.seeing.RowsLook.{RowsLook}
use Rattle.binlog_undo_log.specs.declared.scan.UndoScan.{UndoScan}
use Rattle.binlog_undo.specs.Transactions.{Event}
use Rattle.binlog_visits.specs.TableMaps.{maps_behind}
use Rattle.binlog_visits.specs.Visits.{Visits}

otherwise : {A : Type 0} (b : Bool) (x y : A) → b ≡ false → cond b x y ≡ y
otherwise true x y is = absurd cc
otherwise false x y is = refl

not_both : (b : Bool) → b ≡ true → b ≡ false → ⊥
not_both b is other = cc

pub no_payload : (event : EventView) → ((header_of event.frame).event_type == 40) ≡ false → payload_in event ≡ Ok None
no_payload event other =
    otherwise ((header_of event.frame).event_type == 40) (present (payload_event (data_of event.fde.footer event.frame))) (Ok None) other

pub some_payload : (read : Result (Option Payload) PayloadError) (payload : Payload) → read ≡ Ok None → read ≡ Ok (Some payload) → ⊥
some_payload read payload none some = cc

no_error : (read : Result (Option Payload) PayloadError) (error : PayloadError) → read ≡ Ok None → read ≡ Err error → ⊥
no_error read error none some = cc

no_lack : (event : EventView) → payload_in event ≡ Ok None → HasNoContent event → ⊥
no_lack event none (inl h) = no_error (payload_in event) h.0 none h.1
no_lack event none (inr h) = some_payload (payload_in event) h.0 none h.2

-- What the pass makes of an event without events inside.
pub record IsSeen (maps : TableMaps) (index : ℕ) (event : EventView) (old new : UndoScan) : Type 0 where
  pub seen : Option SeenEvent
  pub sees : Sees old maps index event seen
  pub notes : NotesIf index event seen old new

any_seen : (maps : TableMaps) (index : ℕ) (event : EventView) (old new : UndoScan) → payload_in event ≡ Ok None → ScansAny maps index event old new → IsSeen maps index event old new
any_seen maps index event old new none (inl h) = record { seen = h.0; sees = h.1.sees; notes = h.1.notes }
any_seen maps index event old new none (inr (inl h)) = absurd (some_payload (payload_in event) h.has.payload none h.has.payload_is)
any_seen maps index event old new none (inr (inr h)) = absurd (no_lack event none h.0)

stays_wanted : (filter : Filter) (was now : Bool) (event : EventView) → begins_transaction (header_of event.frame).event_type ≡ false → FollowsEvent filter was event (Ok now) → now ≡ was
stays_wanted filter was now event plain (inl h) = h.1
stays_wanted filter was now event plain (inr h) = absurd (not_both (begins_transaction (header_of event.frame).event_type) h.0 plain)

-- The index is told of an event, and the pass is behind it.
pub record IsTold (index : ℕ) (event : EventView) (seen : SeenEvent) (old new : UndoScan) : Type 0 where
  pub notes : NotesIn seen old.index new.index
  pub is : new ≡ passed index (length event.frame) (record old { index = new.index })

pub event_told : (index : ℕ) (event : EventView) (seen : SeenEvent) (old new : UndoScan) → is_description event.frame ≡ false → Notes index event seen old new → IsTold index event seen old new
event_told index event seen old new plain h =
    let between : h.between ≡ record old { index = h.told } = subst (λ (b : Bool). DescribesIf b index (record old { index = h.told }) h.between) plain h.describes in
    let is : new ≡ passed index (length event.frame) (record old { index = h.told }) = h.is ∙ ap (λ (s : UndoScan). passed index (length event.frame) s) between in
    let same : new.index ≡ h.told = ap (λ (s : UndoScan). s.index) is in
    record {
      notes = subst (λ (i : UndoIndex). NotesIn seen old.index i) (sym same) h.notes;
      is = is ∙ ap (λ (i : UndoIndex). passed index (length event.frame) (record old { index = i })) (sym same);
    }

-- ---- a transaction that is taken

module _ (choice : Choice) (all : TakesAll choice) where
  never_past : (scan : UndoScan) → scan.choice ≡ choice → is_past_stop scan ≡ false
  never_past scan is =
      let past : ℕ → Option ℕ → Bool = λ start stop. is_past (record { start = start; stop = stop }) scan.place && not (is_some scan.index.automaton.current) in
      ap (λ (c : Choice). past c.transactions.start_position c.transactions.stop_position) is ∙ ap (past choice.transactions.start_position) all.transactions.to_end

  first_taken : (place : ℕ) (header : BinlogEventHeader) → (has_place (positions_of choice) place && takes_first choice header true) ≡ true
  first_taken place header =
      let taken : ℕ → Option ℕ → Option ℕ → Bool = λ start stop server. has_place (record { start = start; stop = stop }) place && (true && is_server server header.server_id) in
      ap (λ (n : ℕ). taken n choice.transactions.stop_position choice.transactions.server_id) all.transactions.from_start
      ∙ ap (λ (o : Option ℕ). taken 0 o choice.transactions.server_id) all.transactions.to_end
      ∙ ap (taken 0 None) all.transactions.any_server
      ∙ ap (λ (b : Bool). (b && true) && true) (le-leb 0 place (omega arith))

  last_taken : (header : BinlogEventHeader) → takes_last choice header ≡ true
  last_taken header =
      let taken : ℕ → Option ℕ → Bool = λ start stop. nat_le start header.timestamp && is_before stop header.timestamp in
      ap (λ (n : ℕ). taken n choice.transactions.stop_time) all.transactions.from_first ∙ ap (taken 0) all.transactions.to_last
      ∙ ap (λ (b : Bool). b && true) (le-leb 0 header.timestamp (omega arith))

  pub not_split : (begin end : ℕ) → splits (positions_of choice) begin end ≡ false
  not_split begin end =
      let split : ℕ → Option ℕ → Bool = λ start stop. splits (record { start = start; stop = stop }) begin end in
      ap (λ (n : ℕ). split n choice.transactions.stop_position) all.transactions.from_start ∙ ap (split 0) all.transactions.to_end
      ∙ ap (λ (b : Bool). (b && nat_lt 0 end) || false) (le-ltb begin 0 (omega arith))

  pub first_takes : (scan : UndoScan) (header : BinlogEventHeader) → scan.choice ≡ choice → scan.is_wanted ≡ true
      → (has_place (positions_of scan.choice) scan.place && takes_first scan.choice header scan.is_wanted) ≡ true
  first_takes scan header is wanted =
      ap (λ (c : Choice). has_place (positions_of c) scan.place && takes_first c header scan.is_wanted) is
      ∙ ap (λ (b : Bool). has_place (positions_of choice) scan.place && takes_first choice header b) wanted ∙ first_taken scan.place header

  pub last_takes : (scan : UndoScan) (header : BinlogEventHeader) → scan.choice ≡ choice → takes_last scan.choice header ≡ true
  last_takes scan header is = ap (λ (c : Choice). takes_last c header) is ∙ last_taken header

  pub event_seen : (maps : TableMaps) (index : ℕ) (event : EventView) (old new : UndoScan) → old.choice ≡ choice → old.is_stopped ≡ false
      → begins_transaction (header_of event.frame).event_type ≡ false → ((header_of event.frame).event_type == 40) ≡ false → scans old maps index (Ok event) new
      → IsSeen maps index event old new
  event_seen maps index event old new is goes plain other h =
      let scanned : ScansItem false maps index (Ok event) old new = subst (λ (b : Bool). ScansItem b maps index (Ok event) old new) goes h in
      let here : ScansEvent maps index event old new = subst (λ (b : Bool). ScansUnless b maps index (Ok event) old new) (never_past old is) scanned in
      let same : here.wanted ≡ old.is_wanted = stays_wanted old.choice.transactions old.is_wanted here.wanted event plain here.follows in
      any_seen maps index event old new (no_payload event other) (subst (λ (b : Bool). ScansAny maps index event (record old { is_wanted = b }) new) same here.scans)

-- ---- the events that are left

-- What stays of a pass over such a log.
pub record IsPassing (choice : Choice) (scan : UndoScan) : Type 0 where
  pub choice_is : scan.choice ≡ choice
  pub goes_on : scan.is_stopped ≡ false
  pub wanted : scan.is_wanted ≡ true
  pub described : scan.description ≡ Some 4

still_passing : (choice : Choice) (index len : ℕ) (old new : UndoScan) → new ≡ passed index len (record old { index = new.index }) → IsPassing choice old → IsPassing choice new
still_passing choice index len old new is h = record {
  choice_is = ap (λ (s : UndoScan). s.choice) is ∙ h.choice_is;
  goes_on = ap (λ (s : UndoScan). s.is_stopped) is ∙ h.goes_on;
  wanted = ap (λ (s : UndoScan). s.is_wanted) is ∙ h.wanted;
  described = ap (λ (s : UndoScan). s.description) is ∙ h.described;
}

module _ (choice : Choice) (d : FormatDescriptionEvent) (bytes : List ℕ) (last : UndoScan) where
  -- The pass is in front of these events, which were written, and goes on from there.
  pub record IsInFront (maps : TableMaps) (index : ℕ) (written : List Event) (scan : UndoScan) : Type 0 where
    pub views : List EventView
    pub read : AreReadAs d written views
    pub whole : AllByRecursion (λ (view : EventView). IsEvent view.fde view.frame) views
    pub can : AllByRecursion (IsWholeEvent choice.has_plain_temporal) views
    pub front : List ℕ
    pub bytes_are : bytes ≡ front ++ flat_map (λ (view : EventView). view.frame) views
    pub at : scan.place ≡ length front
    pub passing : IsPassing choice scan
    pub visits : Visits scans maps index (map (λ (view : EventView). Ok view) views) scan last

  -- It sees the first of them.
  pub record Steps (maps : TableMaps) (index : ℕ) (written : Event) (others : List Event) (old : UndoScan) : Type 0 where
    pub view : EventView
    pub there : IsThere bytes d old.place written view
    pub can : IsWholeEvent choice.has_plain_temporal view
    pub passing : IsPassing choice old
    pub mid : UndoScan
    pub seen : IsSeen (maps_behind maps (Ok view)) index view old mid
    pub goes_on : mid ≡ passed index (length view.frame) (record old { index = mid.index }) → IsInFront (maps_behind maps (Ok view)) (index + 1) others mid

module _ (choice : Choice) (all : TakesAll choice) (d : FormatDescriptionEvent) (bytes : List ℕ) (small : length bytes < 2 ^ 64) (last : UndoScan) where
  pub one_step : (maps : TableMaps) (index : ℕ) (type : EventType) (written : Event) (others : List Event) (old : UndoScan) → IsInFront choice d bytes last maps index (written ∷ others) old
      → written.event_type ≡ type → begins_transaction (event_number type) ≡ false → (event_number type == 40) ≡ false → (event_number type == 15) ≡ false
      → Steps choice d bytes last maps index written others old
  one_step maps index type written others old h kind plain other no_description =
      let view : EventView = h.read.0 in
      let rest : List EventView = h.read.1 in
      let frames : List EventView → List ℕ = λ views. flat_map (λ (v : EventView). v.frame) views in
      let whole = subst (λ (v : List EventView). AllByRecursion (λ (x : EventView). IsEvent x.fde x.frame) v) h.read.2 h.whole in
      let can = subst (λ (v : List EventView). AllByRecursion (IsWholeEvent choice.has_plain_temporal) v) h.read.2 h.can in
      let visits = subst (λ (v : List EventView). Visits scans maps index (map (λ (x : EventView). Ok x) v) old last) h.read.2 h.visits in
      let mid : UndoScan = visits.0 in
      let split : bytes ≡ h.front ++ (view.frame ++ frames rest) = h.bytes_are ∙ ap (λ (v : List EventView). h.front ++ frames v) h.read.2 in
      let number : (header_of view.frame).event_type ≡ event_number type = h.read.3.event_type ∙ ap event_number kind in
      let found : drop old.place bytes ≡ view.frame ++ frames rest =
      ap (λ (p : ℕ). drop p bytes) h.at ∙ ap (λ (s : List ℕ). drop (length h.front) s) split ∙ drop_all h.front (view.frame ++ frames rest) in
      let behind : bytes ≡ (h.front ++ view.frame) ++ frames rest = split ∙ sym (append_assoc h.front view.frame (frames rest)) in
      record {
        view = view;
        there = record { is = h.read.3; whole = whole.0; plain = ap (λ (n : ℕ). n == 15) number ∙ no_description; there = record { rest = frames rest; at = found } };
        can = can.0;
        passing = h.passing;
        mid = mid;
        seen = event_seen choice all (maps_behind maps (Ok view)) index view old mid h.passing.choice_is h.passing.goes_on (ap begins_transaction number ∙ plain)
            (ap (λ (n : ℕ). n == 40) number ∙ other) visits.1;
        goes_on = λ is. record {
          views = rest;
          read = h.read.4;
          whole = whole.1;
          can = can.1;
          front = h.front ++ view.frame;
          bytes_are = behind;
          at = ap (λ (s : UndoScan). s.place) is ∙ ap (λ (p : ℕ). min (p + length view.frame) (2 ^ 64 - 1)) h.at
              ∙ omega (arith, small, ap length behind, length-append (h.front ++ view.frame) (frames rest), length-append h.front view.frame);
          passing = still_passing choice index (length view.frame) old mid is h.passing;
          visits = visits.2;
        };
      }

  -- It is seen with this mark, which isn't that of encryption.
  pub marked : (mark : Mark) (table_id : Option ℕ) (look : RowsLook) (maps : TableMaps) (index : ℕ) (written : Event) (others : List Event) (old : UndoScan)
      → (s : Steps choice d bytes last maps index written others old) → s.seen.seen ≡ Some (seen_event old index s.view mark table_id look)
      → (NotesMark mark index s.view (seen_event old index s.view mark table_id look) old s.mid → Notes index s.view (seen_event old index s.view mark table_id look) old s.mid)
      → IsTold index s.view (seen_event old index s.view mark table_id look) old s.mid
  marked mark table_id look maps index written others old s is notes =
      event_told index s.view (seen_event old index s.view mark table_id look) old s.mid s.there.plain
      (notes (subst (λ (o : Option SeenEvent). NotesIf index s.view o old s.mid) is s.seen.notes))
