-- A log that is written is undone itself, and gives the changes that it undoes.
use Rattle.std.proofs.Common.{◌≡◌, ℕ, ◌+◌, ◌-◌, ◌<◌, ◌^◌, Bool, true, false, List, [], ◌∷◌, ◌++◌, length, drop, map, Option, Some, None, Result, Ok, refl, sym, ap, subst, ◌∙◌, append_assoc, arith, inl, inr}
use Rattle.std.specs.Prelude.{◌||◌, IsSomeAnd}
use Rattle.std.specs.List.{AllByRecursion, flat_map}
use Rattle.std.proofs.lemmas.List.{length-append}
use Rattle.binlog_consts.specs.declared.version.BinlogVersion.TheVariants.{Version4}
use Rattle.binlog_event_format.specs.Footers.{footer_of}
use Rattle.binlog_event_format.specs.FormatDescription.{default_description, IsFormatDescription}
use Rattle.binlog_event_format.specs.declared.footer.BinlogEventFooter.{BinlogEventFooter}
use Rattle.binlog_event_format.specs.declared.format_description.FormatDescriptionEvent.{FormatDescriptionEvent}
use Rattle.binlog_events.specs.Events.{EventView, event_at, event_of}
use Rattle.binlog_events.specs.FileHeader.{file_header}
use Rattle.binlog_events.specs.Frames.{IsFrame}
use Rattle.binlog_events.specs.Parts.{body, data_of}
use Rattle.binlog_file.proofs.Describing.{described_is_accepted}
use Rattle.binlog_file.proofs.Splits.{same_frame}
use Rattle.binlog_file.specs.Descriptions.{Describes, accepted, described}
use Rattle.binlog_file.specs.TableMapsInForce.{TableMaps, no_table_maps}
use Rattle.binlog_file.specs.Tails.{HasTail}
use Rattle.binlog_undo.specs.declared.inverse_event.ForeignKeyChecks.{ForeignKeyChecks}
use Rattle.binlog_undo_index.proofs.RowTransactions.{rows_are_kept}
use Rattle.binlog_undo_index.specs.Groups.{Kept}
use Rattle.binlog_undo_index.specs.Index.{Keeps, place_of, changes_of as places_of}
use Rattle.binlog_undo_index.specs.Parts.{Parts, parts_of}
use Rattle.binlog_undo_index.specs.RowTransactions.{events_of as seen_of, kept_rows}
use Rattle.binlog_undo_index.specs.declared.places.ChangePlace.{ChangePlace}
use Rattle.binlog_undo_index.specs.declared.places.TransactionPlace.{TransactionPlace}
use Rattle.binlog_undo_index.specs.declared.rules.Rules.{Rules}
use Rattle.binlog_undo_index.specs.declared.seen.SeenEvent.{SeenEvent}
use Rattle.binlog_undo_index.specs.declared.skips.Skips.{Skips}
use Rattle.binlog_undo_log.proofs.LogEvents.{AreWhole, log_events, no_tail, one_list}
use Rattle.binlog_undo_log.proofs.SeenDescription.{first, IsBehind, first_seen}
use Rattle.binlog_undo_log.proofs.OneRead.{its_frame}
use Rattle.binlog_undo_log.proofs.Placed.{drop_all}
use Rattle.binlog_undo_log.proofs.ReadMaps.{event_is}
use Rattle.binlog_undo_log.proofs.Scanned.{AreTold, told_more, parts_behind}
use Rattle.binlog_undo_log.proofs.KeptChanges.{AreOnlyKept}
use Rattle.binlog_undo_log.proofs.SeenEvents.{IsInFront}
use Rattle.binlog_undo_log.proofs.SeenTransactions.{SeesAll, all_transactions}
use Rattle.binlog_undo_log.proofs.Undone.{all_from, kept_are_undone}
use Rattle.binlog_undo_log.proofs.UndoLogs.{and_so, source_footer, described_log, changes_of_log}
use Rattle.binlog_undo_log.proofs.WrittenLogs.{log_of_nothing}
use Rattle.binlog_undo_log.proofs.WrittenTransactions.{WrittenTransaction, AreIn, HasTransactions, events_in, changes_in, pairs_under, kept_transactions}
use Rattle.binlog_undo_log.specs.Choices.{rules_of}
use Rattle.binlog_undo_log.specs.Descriptions.{written_description}
use Rattle.binlog_undo_log.specs.FileChanges.{AreFramesOf}
use Rattle.binlog_undo_log.specs.Files.{IsFresh, scans, ScansWhole, IsDescribed, WritesDescribed, WritesAt, WritesIfAny}
use Rattle.binlog_undo_log.specs.Heads.{is_writable}
use Rattle.binlog_undo_log.specs.LogChanges.{LogChange, AreKeptChanges}
use Rattle.binlog_undo_log.specs.Places.{FramesOf, IsFrameIn}
use Rattle.binlog_undo_log.specs.Scanning.{NotesIn, border_at, has_no_tail, is_past_stop, EndsIfWhole, EndsScan}
use Rattle.binlog_undo_log.specs.Undoing.{IsEventAt, UndoesAll}
use Rattle.binlog_undo_log.specs.UndoneTwice.{TakesAll, IsWholeEvent, HasWholeEvents, IsLogWith, HasChangesAgain}
use Rattle.binlog_undo_log.specs.WholeLogs.{IsLogOf, AreReadAs, IsLogUnder, IsNewLog, IsLogOfChanges}
use Rattle.binlog_undo_log.specs.declared.choice.Choice.{Choice}
use Rattle.binlog_undo_log.specs.declared.output.UndoOutput.{UndoOutput}
use Rattle.binlog_undo_log.specs.declared.scan.UndoScan.{UndoScan}
use Rattle.binlog_undo.specs.Transactions.{Event}
use Rattle.binlog_visits.specs.TableMaps.{maps_behind}
use Rattle.binlog_visits.specs.Visits.{Visits}
use Rattle.binlog_wire.specs.declared.error.Error.{Error}
use Rattle.table_changes.proofs.Inverses.{inverses_twice}
use Rattle.table_changes.specs.Changes.{inverse}

-- ---- the first pass

-- Nothing is refused, and what is kept has these changes and no others.
pub record IsScannedAgain (bytes : List ℕ) (d : FormatDescriptionEvent) (own : List LogChange) (scan : UndoScan) : Type 0 where
  pub refused : (parts_of scan.index).refusals ≡ []
  pub kept : List Kept
  pub keeps : Keeps kept (parts_of scan.index).transactions (parts_of scan.index).changes
  pub only : AreOnlyKept bytes d kept own
  pub described : (kept ≡ [] → ⊥) → scan.description ≡ Some 4

ended : (is : Bool) (tail_len : Option ℕ) (old new : UndoScan) → is ≡ false → tail_len ≡ Some 0 → EndsScan is tail_len old new
    → NotesIn (border_at old) old.index new.index × (new.description ≡ old.description)
ended true tail_len old new goes none h = absurd cc
ended false tail_len old new goes none h =
    let whole : EndsIfWhole true old new = subst (λ (b : Bool). EndsIfWhole b old new) (ap (λ (t : Option ℕ). has_no_tail t || is_past_stop old) none) h in
    (whole.notes, ap (λ (s : UndoScan). s.description) whole.is)

module _ (choice : Choice) (all : TakesAll choice) (checks : ForeignKeyChecks) (skips : Skips) (bytes : List ℕ) (small : length bytes < 2 ^ 64) (start scan : UndoScan)
    (fresh : IsFresh choice checks skips start) (h : ScansWhole bytes start scan) where
  abbrev rules : Rules
  rules = rules_of choice skips

  -- A log without events.
  empty_scanned : (d : FormatDescriptionEvent) → IsLogOf [] bytes → IsScannedAgain bytes d [] scan
  empty_scanned d log =
      let list = one_list [] bytes h.visits.stream h.visits.visited.items log h.visits.file h.visits.visited.are in
      let same : h.between ≡ start = subst (λ (i : List (Result EventView Error)). Visits scans no_table_maps 0 i start h.between) list.0 h.visits.visited.visited in
      let tail : h.tail_len ≡ Some 0 = no_tail [] bytes h.tail_len log (subst (λ (s : List ℕ). HasTail s h.tail_len) list.1 h.visits.visited.tail) in
      let end = ended h.between.is_stopped h.tail_len h.between scan (ap (λ (s : UndoScan). s.is_stopped) same ∙ fresh.goes_on) tail h.ends in
      let told : AreTold start.index [] h.between.index = ap (λ (s : UndoScan). s.index) same in
      let parts = parts_behind rules (border_at h.between ∷ []) start.index scan.index fresh.automaton fresh.parts
      (told_more [] (border_at h.between) start.index h.between.index scan.index told end.0) in
      record {
        refused = ap (λ (p : Parts). p.refusals) parts;
        kept = [];
        keeps = record { transactions_are = ap (λ (p : Parts). p.transactions) parts; changes_are = ap (λ (p : Parts). p.changes) parts };
        only = λ found f. f;
        described = λ none. absurd (none refl);
      }

  -- A log of transactions.
  log_scanned : (d : FormatDescriptionEvent) (written : List Event) (transactions : List WrittenTransaction) → is_writable d ≡ true → AllByRecursion (AreIn d) transactions
      → written ≡ flat_map events_in transactions → (log : IsLogUnder d written bytes) → AllByRecursion (IsWholeEvent choice.has_plain_temporal) (log.description ∷ log.events)
      → IsScannedAgain bytes d (flat_map changes_in transactions) scan
  log_scanned d written transactions writable each events_are log can =
      let views : List EventView = log.description ∷ log.events in
      let list = one_list views bytes h.visits.stream h.visits.visited.items log.log h.visits.file h.visits.visited.are in
      let visits = subst (λ (i : List (Result EventView Error)). Visits scans no_table_maps 0 i start h.between) list.0 h.visits.visited.visited in
      let tail : h.tail_len ≡ Some 0 = no_tail views bytes h.tail_len log.log (subst (λ (s : List ℕ). HasTail s h.tail_len) list.1 h.visits.visited.tail) in
      let border_first : SeenEvent = first choice all checks skips start fresh log.description d log.describes in
      let mid : UndoScan = visits.0 in
      let maps : TableMaps = maps_behind no_table_maps (Ok log.description) in
      let behind_it : IsBehind choice all checks skips start fresh log.description d log.describes mid = first_seen choice all checks skips start fresh log.description d log.describes maps mid visits.1 in
      let whole : AreWhole views = log_events views bytes log.log in
      let frames : List ℕ = flat_map (λ (view : EventView). view.frame) log.events in
      let split : bytes ≡ (file_header ++ log.description.frame) ++ frames =
      log.log.file ∙ ap (λ (s : List ℕ). file_header ++ s) log.log.whole ∙ sym (append_assoc file_header log.description.frame frames) in
      let header_length : length file_header ≡ 4 = refl in
      let in_front : IsInFront choice d bytes h.between maps 1 (flat_map events_in transactions) mid = record {
        views = log.events;
        read = subst (λ (w : List Event). AreReadAs d w log.events) events_are log.are;
        whole = whole.1;
        can = can.1;
        front = file_header ++ log.description.frame;
        bytes_are = split;
        at = behind_it.place ∙ omega (arith, small, header_length, ap length split, length-append (file_header ++ log.description.frame) frames, length-append file_header log.description.frame);
        passing = behind_it.passing;
        visits = visits.2;
      } in
      let seen : SeesAll choice d bytes h.between (flat_map changes_in transactions) mid =
      all_transactions choice all d writable bytes small h.between transactions each maps 1 mid behind_it.closed in_front in
      let end = ended h.between.is_stopped h.tail_len h.between scan seen.passing.goes_on tail h.ends in
      let events : List SeenEvent = border_first ∷ flat_map seen_of seen.seen in
      let told : AreTold start.index events h.between.index = (mid.index, behind_it.notes, seen.told) in
      let parts = parts_behind rules (events ++ border_at h.between ∷ []) start.index scan.index fresh.automaton fresh.parts
      (told_more events (border_at h.between) start.index h.between.index scan.index told end.0) in
      let kept = rows_are_kept rules border_first (border_at h.between) seen.seen (record { is = refl; accepted = refl }) (record { is = refl; accepted = refl }) seen.each in
      record {
        refused = ap (λ (p : Parts). p.refusals) parts ∙ kept.1;
        kept = flat_map kept_rows seen.seen;
        keeps = record {
          transactions_are = ap (λ (p : Parts). p.transactions) parts ∙ ap (λ (k : List Kept). map place_of k) kept.0;
          changes_are = ap (λ (p : Parts). p.changes) parts ∙ ap (λ (k : List Kept). flat_map places_of k) kept.0;
        };
        only = seen.only;
        described = λ some. end.1 ∙ seen.passing.described;
      }

-- ---- the log that was written

-- The changes that are undone, and the pass over the log that undoes them. Its description is at its place.
pub record IsUndoneAgain (is_at : FramesOf) (kept : List Kept) (bytes : List ℕ) (scan : UndoScan) : Type 0 where
  pub d : FormatDescriptionEvent
  pub changes : List LogChange
  pub are : AreKeptChanges is_at d kept changes
  pub again : IsScannedAgain bytes (written_description d) (inverse changes) scan
  pub description : (again.kept ≡ [] → ⊥) → (frame : List ℕ) × (accepted frame ≡ Some (written_description d)) × IsFrame frame × IsFrameIn bytes 4 frame

each_under : (d : FormatDescriptionEvent) (transactions : List WrittenTransaction) → AllByRecursion (AreIn d) transactions → AllByRecursion (AreIn (written_description d)) transactions
each_under d [] h = tt
each_under d (transaction ∷ transactions) h =
    (pairs_under d (written_description d) transaction.pairs (λ type. refl) h.0, each_under d transactions h.1)

module _ (is_at : FramesOf) (first_checks : ForeignKeyChecks) (choice : Choice) (all : TakesAll choice) (checks : ForeignKeyChecks) (skips : Skips) (bytes : List ℕ)
    (small : length bytes < 2 ^ 64) (start scan : UndoScan) (fresh : IsFresh choice checks skips start) (h : ScansWhole bytes start scan)
    (can : HasWholeEvents choice.has_plain_temporal bytes) where
  under : (kept : List Kept) (transactions : List TransactionPlace) (changes : List ChangePlace) (d : FormatDescriptionEvent) (events : List Event) → Keeps kept transactions changes
      → is_writable d ≡ true → UndoesAll is_at d first_checks transactions changes events → IsLogUnder (written_description d) events bytes → IsUndoneAgain is_at kept bytes scan
  under kept transactions changes d events keeps writable undoes log =
      let found : HasTransactions is_at d kept events =
      kept_transactions is_at d first_checks kept events (kept_are_undone is_at d first_checks kept transactions changes events keeps undoes) in
      let again : IsScannedAgain bytes (written_description d) (flat_map changes_in found.transactions) scan =
      log_scanned choice all checks skips bytes small start scan fresh h (written_description d) events found.transactions writable
      (each_under d found.transactions found.each) found.events_are log (can (log.description ∷ log.events) log.log) in
      let whole : AreWhole (log.description ∷ log.events) = log_events (log.description ∷ log.events) bytes log.log in
      let rest : List ℕ = flat_map (λ (view : EventView). view.frame) log.events in
      record {
        d = d;
        changes = found.changes;
        are = found.are_changes;
        again = subst (λ (c : List LogChange). IsScannedAgain bytes (written_description d) c scan) (sym found.inverse_are) again;
        description = λ some. (
          log.description.frame,
          log.describes,
          whole.0.whole,
          record {
            rest = rest;
            at = ap (λ (s : List ℕ). drop (length file_header) s) (log.log.file ∙ ap (λ (s : List ℕ). file_header ++ s) log.log.whole)
                ∙ drop_all file_header (log.description.frame ++ rest);
          },
        );
      }

  module _ {W : Type 0} (contents : W → Option (List ℕ)) (old new : UndoOutput W) (new_log : IsNewLog contents old) (written : contents new.writer ≡ Some bytes) where
    -- The first log, of which these transactions were kept.
    undone_at : (place : Option ℕ) (one : Kept) (others : List Kept) (transaction : TransactionPlace) (transactions : List TransactionPlace) (changes : List ChangePlace)
        → Keeps (one ∷ others) (transaction ∷ transactions) changes → WritesAt contents is_at first_checks place (transaction ∷ transactions) changes old new
        → IsUndoneAgain is_at (one ∷ others) bytes scan
    undone_at None one others transaction transactions changes keeps w = absurd w
    undone_at (Some place) one others transaction transactions changes keeps w =
        let log : IsLogUnder (written_description w.d) w.undoes.0 bytes =
        subst (λ (o : Option (List ℕ)). IsSomeAnd o (IsLogUnder (written_description w.d) w.undoes.0)) written
        (described_log contents is_at first_checks place (transaction ∷ transactions) changes old new new_log w) in
        under (one ∷ others) (transaction ∷ transactions) changes w.d w.undoes.0 keeps w.described.writable w.undoes.1 log

    pub undone_again : (place : Option ℕ) (kept : List Kept) (transactions : List TransactionPlace) (changes : List ChangePlace) → Keeps kept transactions changes
        → WritesIfAny contents is_at first_checks place transactions changes old new → IsUndoneAgain is_at kept bytes scan
    unfolding empty_scanned
    undone_again place [] transactions changes keeps w =
        let same : new ≡ old = subst (λ (t : List TransactionPlace). WritesIfAny contents is_at first_checks place t changes old new) keeps.transactions_are w in
        let header : Some file_header ≡ Some bytes = sym new_log.bytes ∙ ap (λ (o : UndoOutput W). contents o.writer) (sym same) ∙ written in
        let log : IsLogOf [] bytes = subst (λ (o : Option (List ℕ)). IsSomeAnd o (IsLogOf [])) header log_of_nothing in
        let d : FormatDescriptionEvent = default_description Version4 in
        record {
          d = d;
          changes = [];
          are = refl;
          again = empty_scanned choice all checks skips bytes small start scan fresh h (written_description d) log;
          description = λ some. absurd (some refl);
        }
    undone_again place (one ∷ others) transactions changes keeps w =
        undone_at place one others (place_of one) (map place_of others) changes (subst (λ (t : List TransactionPlace). Keeps (one ∷ others) t changes) keeps.transactions_are keeps)
        (subst (λ (t : List TransactionPlace). WritesIfAny contents is_at first_checks place t changes old new) keeps.transactions_are w)

-- ---- the log that undoes it

-- The description at the place 4 is this one.
same_description : (bytes : List ℕ) (d : FormatDescriptionEvent) (frame : List ℕ) → accepted frame ≡ Some d → IsFrame frame → IsFrameIn bytes 4 frame
    → (event : EventView) (found : FormatDescriptionEvent) → IsEventAt (IsFrameIn bytes) (default_description Version4) 4 event → IsDescribed event found → found ≡ d
same_description bytes d frame is whole there event found at h =
    let start : FormatDescriptionEvent = default_description Version4 in
    let same : at.frame ≡ frame = same_frame at.frame frame at.at.rest there.rest (its_frame start at.frame event at.is) whole (sym at.at.at ∙ there.at) in
    let own : event.frame ≡ frame = ap (λ (e : EventView). e.frame) (event_is _ (event_of start at.frame) event at.is) ∙ same in
    let footer : event.fde.footer ≡ footer_of (body event.frame) = source_footer event start at.frame at.is h.is in
    let describes : Describes event.frame found = record {
      type = h.is;
      found = h.body;
      spelled = subst (λ (f : BinlogEventFooter). IsFormatDescription (data_of f event.frame) h.body []) footer h.spelled;
      is = h.footer ∙ ap (λ (f : BinlogEventFooter). let x : FormatDescriptionEvent = record h.body { footer = f } in x) footer;
    } in
    let both : Some found ≡ Some d = sym (described_is_accepted event.frame found describes) ∙ ap accepted own ∙ is in
    cc

module _ (bytes : List ℕ) (others : FramesOf) (among : AreFramesOf bytes others) (checks : ForeignKeyChecks) (d : FormatDescriptionEvent) (changes : List LogChange)
    {V : Type 0} (contents : V → Option (List ℕ)) (old new : UndoOutput V) (new_log : IsNewLog contents old) where
  redone_at : (kept : List Kept) (transactions : List TransactionPlace) (places : List ChangePlace) → Keeps kept transactions places → AreOnlyKept bytes d kept (inverse changes)
      → (frame : List ℕ) → accepted frame ≡ Some d → IsFrame frame → IsFrameIn bytes 4 frame → WritesDescribed contents others checks 4 transactions places old new
      → IsSomeAnd (contents new.writer) (IsLogWith changes)
  redone_at kept transactions places keeps only frame is whole there w =
      let at : IsEventAt (IsFrameIn bytes) (default_description Version4) 4 w.event =
      record { frame = w.event_at.frame; at = among 4 w.event_at.frame w.event_at.at; is = w.event_at.is; right = w.event_at.right } in
      let same : w.d ≡ d = same_description bytes d frame is whole there w.event w.d at w.described in
      let undoes : UndoesAll (IsFrameIn bytes) w.d checks transactions places w.undoes.0 = all_from others (IsFrameIn bytes) among w.d checks transactions places w.undoes.0 w.undoes.1 in
      and_so (IsLogUnder (written_description w.d) w.undoes.0) (IsLogWith changes) (contents new.writer)
      (λ again log.
      let found = changes_of_log contents (IsFrameIn bytes) checks kept transactions places w.d w.undoes.0 again keeps undoes log in
      let are : found.0 ≡ inverse changes = only found.0 (subst (λ (x : FormatDescriptionEvent). AreKeptChanges (IsFrameIn bytes) x kept found.0) same found.1) in
      inl (subst (λ (c : List LogChange). IsLogOfChanges c again) (ap inverse are ∙ inverses_twice changes) found.2))
      (described_log contents others checks 4 transactions places old new new_log w)

  redone : (place : Option ℕ) (kept : List Kept) (transactions : List TransactionPlace) (places : List ChangePlace) → Keeps kept transactions places → AreOnlyKept bytes d kept (inverse changes)
      → ((kept ≡ [] → ⊥) → place ≡ Some 4) → ((kept ≡ [] → ⊥) → (frame : List ℕ) × (accepted frame ≡ Some d) × IsFrame frame × IsFrameIn bytes 4 frame)
      → WritesIfAny contents others checks place transactions places old new → IsSomeAnd (contents new.writer) (IsLogWith changes)
  redone place [] transactions places keeps only described found w =
      let same : new ≡ old = subst (λ (t : List TransactionPlace). WritesIfAny contents others checks place t places old new) keeps.transactions_are w in
      let written : contents new.writer ≡ Some file_header = ap (λ (o : UndoOutput V). contents o.writer) same ∙ new_log.bytes in
      let none : changes ≡ [] = sym (inverses_twice changes) ∙ ap inverse (sym (only [] refl)) in
      subst (λ (o : Option (List ℕ)). IsSomeAnd o (IsLogWith changes)) (sym written) (inr (none, log_of_nothing))
  redone place (one ∷ rest) transactions places keeps only described found w =
      let some : (one ∷ rest) ≡ [] → ⊥ = λ none. cc in
      let frame = found some in
      let at : WritesAt contents others checks place (map place_of (one ∷ rest)) places old new =
      subst (λ (t : List TransactionPlace). WritesIfAny contents others checks place t places old new) keeps.transactions_are w in
      redone_at (one ∷ rest) (map place_of (one ∷ rest)) places (subst (λ (t : List TransactionPlace). Keeps (one ∷ rest) t places) keeps.transactions_are keeps) only
      frame.0 frame.1 frame.2 frame.3 (subst (λ (p : Option ℕ). WritesAt contents others checks p (map place_of (one ∷ rest)) places old new) (described some) at)

-- The log that undoes the log has the changes of the transactions that were kept.
pub log_redone : {V : Type 0} (contents : V → Option (List ℕ)) (is_at others : FramesOf) (kept : List Kept) (bytes : List ℕ) (scan : UndoScan) (old new : UndoOutput V)
    → IsUndoneAgain is_at kept bytes scan → AreFramesOf bytes others → IsNewLog contents old
    → WritesIfAny contents others scan.checks scan.description (parts_of scan.index).transactions (parts_of scan.index).changes old new → HasChangesAgain contents is_at kept new
log_redone contents is_at others kept bytes scan old new h among new_log w = record {
  d = h.d;
  changes = h.changes;
  are = h.are;
  log = redone bytes others among scan.checks (written_description h.d) h.changes contents old new new_log scan.description h.again.kept (parts_of scan.index).transactions
      (parts_of scan.index).changes h.again.keeps h.again.only h.again.described h.description w;
}
