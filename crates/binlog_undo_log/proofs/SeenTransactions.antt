-- The first pass sees the transactions of a log that is written whole, with the places of their rows.
use Rattle.std.proofs.Common.{◌≡◌, ℕ, ◌+◌, ◌-◌, ◌<◌, ◌^◌, Bool, true, false, List, [], ◌∷◌, ◌++◌, length, map, Option, Some, None, Ok, refl, sym, ap, subst, ◌∙◌, append-nil, append_assoc}
use Rattle.std.specs.Prelude.{◌&&◌, ◌==◌}
use Rattle.std.specs.List.{AllByRecursion, flat_map}
use Rattle.std.proofs.lemmas.Grind.{flat_map-append}
use Rattle.binlog_consts.specs.declared.event_type.EventType.TheVariants.{QUERY_EVENT, XID_EVENT}
use Rattle.binlog_event_format.specs.Headers.{header_of}
use Rattle.binlog_event_format.specs.declared.format_description.FormatDescriptionEvent.{FormatDescriptionEvent}
use Rattle.binlog_event_format.specs.declared.header.BinlogEventHeader.{BinlogEventHeader}
use Rattle.binlog_events.specs.Events.{EventView}
use Rattle.binlog_file.specs.TableMapsInForce.{TableMaps}
use Rattle.binlog_payloads.specs.Events.{payload_in}
use Rattle.binlog_transactions.specs.Pieces.{step}
use Rattle.binlog_transactions.specs.declared.mark.Mark.TheVariants as marks
use Rattle.binlog_transactions.specs.declared.statements.StatementKind.TheVariants as kinds
use Rattle.binlog_transactions.specs.declared.transaction.Transaction.{Transaction}
use Rattle.binlog_undo_index.specs.Groups.{Kept, change_list, kept_if_any}
use Rattle.binlog_undo_index.specs.Positions.{has_place}
use Rattle.binlog_undo_index.specs.RowTransactions.{RowTransaction, events_of as seen_of, IsRowTransaction, changes_of_event, kept_rows}
use Rattle.binlog_undo_index.specs.declared.places.ChangePlace.{ChangePlace}
use Rattle.binlog_undo_index.specs.declared.seen.SeenEvent.{SeenEvent}
use Rattle.binlog_undo_log.proofs.OneRead.{one_event}
use Rattle.binlog_undo_log.proofs.Scanned.{AreTold, told_over}
use Rattle.binlog_undo_log.proofs.SeenWritten.{seen_as_written}
use Rattle.binlog_undo_log.proofs.WrittenTransactions.{WrittenTransaction, events_of, events_in, changes_in, AreIn}
use Rattle.binlog_undo_log.specs.Choices.{positions_of, takes_first, takes_last}
use Rattle.binlog_undo_log.specs.Files.{scans}
use Rattle.binlog_undo_log.specs.Heads.{is_writable}
use Rattle.binlog_undo_log.specs.LogChanges.{LogChange}
use Rattle.binlog_undo_log.specs.Places.{IsFrameIn}
use Rattle.binlog_undo_log.specs.Scanning.{seen_event}
use Rattle.binlog_undo_log.specs.Undoing.{IsEventAt, begin_event, commit_event}
use Rattle.binlog_undo_log.specs.UndoneTwice.{TakesAll}
use Rattle.binlog_undo_log.specs.declared.choice.Choice.{Choice}
use Rattle.binlog_undo_log.specs.declared.scan.seeing.RowsLook.TheVariants.{Left}
use Rattle.binlog_undo_log.specs.declared.scan.UndoScan.{UndoScan}
use Rattle.binlog_undo.specs.Transactions.{Event}
use Rattle.binlog_visits.specs.TableMaps.{maps_behind}
use Rattle.binlog_visits.specs.Visits.{Visits}
use Rattle.binlog_undo_log.proofs.KeptChanges.{AreOnlyKept, transaction_over}
use Rattle.binlog_undo_log.proofs.SeenEvents.{no_payload, first_takes, last_takes, not_split, IsTold, IsPassing, IsInFront, Steps, one_step, marked}
use Rattle.binlog_undo_log.proofs.SeenPairs.{all_over, open_with, all_pairs}

module _ (choice : Choice) (d : FormatDescriptionEvent) (bytes : List ℕ) (last : UndoScan) where
  pub record SeesTransaction (own : List LogChange) (others : List Event) (old : UndoScan) : Type 0 where
    pub maps : TableMaps
    pub index : ℕ
    pub mid : UndoScan
    pub in_front : IsInFront choice d bytes last maps index others mid
    pub seen : RowTransaction
    pub told : AreTold old.index (seen_of seen) mid.index
    pub is : IsRowTransaction (positions_of choice) seen
    pub closed : mid.index.automaton.current ≡ None
    pub only : (rest : List Kept) (more : List LogChange) → AreOnlyKept bytes d rest more → AreOnlyKept bytes d (kept_rows seen ++ rest) (own ++ more)

  pub record SeesAll (own : List LogChange) (old : UndoScan) : Type 0 where
    pub seen : List RowTransaction
    pub told : AreTold old.index (flat_map seen_of seen) last.index
    pub each : AllByRecursion (IsRowTransaction (positions_of choice)) seen
    pub only : AreOnlyKept bytes d (flat_map kept_rows seen) own
    pub passing : IsPassing choice last

module _ (choice : Choice) (all : TakesAll choice) (d : FormatDescriptionEvent) (writable : is_writable d ≡ true) (bytes : List ℕ) (small : length bytes < 2 ^ 64) (last : UndoScan) where
  one_transaction : (transaction : WrittenTransaction) → AreIn d transaction → (maps : TableMaps) (index : ℕ) (others : List Event) (old : UndoScan)
      → old.index.automaton.current ≡ None → IsInFront choice d bytes last maps index (events_in transaction ++ others) old → SeesTransaction choice d bytes last (changes_in transaction) others old
  one_transaction transaction each maps index others old none h =
      let header : BinlogEventHeader = transaction.header in
      let begin : Event = begin_event header in
      let commit : Event = commit_event header transaction.xid in
      let pairs : List Event = flat_map events_of transaction.pairs in
      let start : IsInFront choice d bytes last maps index (begin ∷ (pairs ++ (commit ∷ others))) old =
      subst (λ (e : List Event). IsInFront choice d bytes last maps index (begin ∷ e) old) (append_assoc pairs (commit ∷ []) others) h in
      let s : Steps choice d bytes last maps index begin (pairs ++ (commit ∷ others)) old = one_step choice all d bytes small last maps index QUERY_EVENT begin (pairs ++ (commit ∷ others)) old start refl refl refl refl in
      let first : SeenEvent = seen_event old index s.view (marks.Statement kinds.Begin) None Left in
      let first_told : IsTold index s.view first old s.mid =
      marked choice all d bytes small last (marks.Statement kinds.Begin) None Left maps index begin (pairs ++ (commit ∷ others)) old s
      ((seen_as_written old (maps_behind maps (Ok s.view)) index d begin s.view s.seen.seen writable s.there.is s.seen.sees).begin refl refl) (λ n. n) in
      let is_open : s.mid.index.automaton.current ≡ Some (open_with false false) =
      first_told.notes.automaton ∙ ap (λ (c : Option Transaction). (step c (marks.Statement kinds.Begin)).1) none in
      let rows = all_pairs choice all d writable bytes small last transaction.pairs each (maps_behind maps (Ok s.view)) (index + 1) (commit ∷ others) s.mid false false is_open (s.goes_on first_told.is) in
      let t : Steps choice d bytes last rows.maps rows.index commit others rows.mid = one_step choice all d bytes small last rows.maps rows.index XID_EVENT commit others rows.mid rows.in_front refl refl refl refl in
      let end : SeenEvent = seen_event rows.mid rows.index t.view marks.Xid None Left in
      let end_told : IsTold rows.index t.view end rows.mid t.mid =
      marked choice all d bytes small last marks.Xid None Left rows.maps rows.index commit others rows.mid t
      ((seen_as_written rows.mid (maps_behind rows.maps (Ok t.view)) rows.index d commit t.view t.seen.seen writable t.there.is t.seen.sees).commit transaction.xid refl refl) (λ n. n) in
      let seen : RowTransaction = record { first = first; others = rows.seen; last = end } in
      let no_content : (event : EventView) → IsEventAt (IsFrameIn bytes) d rows.mid.place event → payload_in event ≡ Ok None =
      λ event at.
      let same : event ≡ t.view = one_event bytes d rows.mid.place commit t.view event t.there at in
      no_payload event (ap (λ (e : EventView). (header_of e.frame).event_type == 40) same ∙ ap (λ (n : ℕ). n == 40) t.there.is.event_type) in
      record {
        maps = maps_behind rows.maps (Ok t.view);
        index = rows.index + 1;
        mid = t.mid;
        in_front = t.goes_on end_told.is;
        seen = seen;
        told = (s.mid.index, first_told.notes, told_over rows.seen (end ∷ []) s.mid.index rows.mid.index t.mid.index rows.told (t.mid.index, end_told.notes, refl));
        is = record {
          begins = refl;
          rows = rows.rows;
          ends = refl;
          takes_first = first_takes choice all old (header_of s.view.frame) s.passing.choice_is s.passing.wanted;
          takes_last = last_takes choice all rows.mid (header_of t.view.frame) t.passing.choice_is;
          unsplit = not_split choice all old.place end.end;
          accepted = (refl, all_over (λ (event : SeenEvent). event.refusal ≡ None) rows.seen (end ∷ []) rows.accepted (refl, tt));
        };
        closed = end_told.notes.automaton ∙ ap (λ (c : Option Transaction). (step c marks.Xid).1) rows.is_open;
        only = λ rest more others_only. transaction_over bytes d first end rows.seen (changes_in transaction) rest more refl refl no_content rows.only others_only;
      }

  pub all_transactions : (transactions : List WrittenTransaction) → AllByRecursion (AreIn d) transactions → (maps : TableMaps) (index : ℕ) (old : UndoScan)
      → old.index.automaton.current ≡ None → IsInFront choice d bytes last maps index (flat_map events_in transactions) old → SeesAll choice d bytes last (flat_map changes_in transactions) old
  all_transactions [] each maps index old none h =
      let same : last ≡ old = subst (λ (v : List EventView). Visits scans maps index (map (λ (x : EventView). Ok x) v) old last) h.read h.visits in
      record {
        seen = [];
        told = ap (λ (s : UndoScan). s.index) same;
        each = tt;
        only = λ found f. f;
        passing = subst (λ (s : UndoScan). IsPassing choice s) (sym same) h.passing;
      }
  all_transactions (transaction ∷ transactions) each maps index old none h =
      let first = one_transaction transaction each.0 maps index (flat_map events_in transactions) old none h in
      let rest = all_transactions transactions each.1 first.maps first.index first.mid first.closed first.in_front in
      record {
        seen = first.seen ∷ rest.seen;
        told = told_over (seen_of first.seen) (flat_map seen_of rest.seen) old.index first.mid.index last.index first.told rest.told;
        each = (first.is, rest.each);
        only = first.only (flat_map kept_rows rest.seen) (flat_map changes_in transactions) rest.only;
        passing = rest.passing;
      }
