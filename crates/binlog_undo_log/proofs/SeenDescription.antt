-- The first pass sees the description at the front of a log.
use Rattle.std.proofs.Common.{◌≡◌, ℕ, ◌+◌, ◌-◌, ◌^◌, min, Bool, true, false, cond, List, [], length, Option, Some, None, Result, Ok, Err, refl, sym, ap, subst, ◌∙◌, inl, inr}
use Rattle.std.specs.Prelude.{not, ◌==◌, bit_and, is_none}
use Rattle.std.proofs.lemmas.Bool.{eqb-true}
use Rattle.binlog_consts.specs.EventTypes.{event_type_of}
use Rattle.binlog_consts.specs.declared.event_type.EventType.{EventType}
use Rattle.binlog_consts.specs.declared.event_type.EventType.TheVariants.{FORMAT_DESCRIPTION_EVENT}
use Rattle.binlog_consts.specs.declared.event_type.UnknownEventType.{UnknownEventType}
use Rattle.binlog_event_data.specs.BodiesByType.{body_of}
use Rattle.binlog_event_data.specs.ReadData.{ReadsAs}
use Rattle.binlog_event_data.specs.declared.event_data.EventData.{EventData}
use Rattle.binlog_event_format.specs.Footers.{footer_of}
use Rattle.binlog_event_format.specs.Headers.{header_of}
use Rattle.binlog_event_format.specs.declared.format_description.FormatDescriptionEvent.{FormatDescriptionEvent}
use Rattle.binlog_events.specs.Events.{EventView}
use Rattle.binlog_events.specs.Parts.{is_description, body, data_of}
use Rattle.binlog_file.specs.Descriptions.{accepted, described, read_description}
use Rattle.binlog_file.specs.LogData.{is_own_type, answer_as, ReadsLogData}
use Rattle.binlog_file.specs.State.{behind}
use Rattle.binlog_file.specs.TableMapsInForce.{TableMaps}
use Rattle.binlog_file.specs.declared.log_data.LogEventData.{LogEventData}
use Rattle.binlog_file.specs.declared.log_data.LogEventData.TheVariants.{Mysql}
use Rattle.binlog_filters.specs.Taking.{begins_transaction}
use Rattle.binlog_mariadb.specs.declared.compressed_rows.RowsCompressedEvent.{RowsCompressedEvent}
use Rattle.binlog_rows.specs.declared.rows_event_data.RowsEventData.{RowsEventData}
use Rattle.binlog_transactions.specs.Pieces.{step}
use Rattle.binlog_transactions.specs.Roles.{role_of}
use Rattle.binlog_transactions.specs.declared.mark.Mark.{Mark}
use Rattle.binlog_transactions.specs.declared.mark.Mark.TheVariants as marks
use Rattle.binlog_transactions.specs.declared.refusal.Refusal.{Refusal}
use Rattle.binlog_transactions.specs.declared.role.Role.{Role}
use Rattle.binlog_transactions.specs.declared.role.Role.TheVariants as roles
use Rattle.binlog_transactions.specs.declared.transaction.Transaction.{Transaction}
use Rattle.binlog_undo.specs.declared.inverse_event.ForeignKeyChecks.{ForeignKeyChecks}
use Rattle.binlog_undo_index.specs.Parts.{Parts, parts_of, no_parts, noted, passed_if}
use Rattle.binlog_undo_index.specs.declared.index.UndoIndex.{UndoIndex}
use Rattle.binlog_undo_index.specs.declared.places.TransactionPlace.{TransactionPlace}
use Rattle.binlog_undo_index.specs.declared.rules.Rules.{Rules}
use Rattle.binlog_undo_index.specs.declared.seen.SeenEvent.{SeenEvent}
use Rattle.binlog_undo_index.specs.declared.skips.Skips.{Skips}
use Rattle.binlog_undo_log.proofs.ReadMaps.{IsMadeIn, made_in}
use Rattle.binlog_undo_log.proofs.SeenEvents.{IsSeen, IsPassing, event_seen}
use Rattle.binlog_undo_log.specs.Choices.{rules_of}
use Rattle.binlog_undo_log.specs.Files.{IsFresh, scans}
use Rattle.binlog_undo_log.specs.Scanning.{rows_of, compressed_of, LooksBeside, LooksAtSome, IsRole, seen_event, seen_as, seen_mark, unread_mark, SeesData, SeesUnread, SeesRead, DescribesBehind, DescribesIf, NotesIn, passed, Notes, NotesIf}
use Rattle.binlog_undo_log.specs.Marks.{table_id_in}
use Rattle.binlog_undo_log.specs.UndoneTwice.{TakesAll}
use Rattle.binlog_undo_log.specs.declared.choice.Choice.{Choice}
use Rattle.binlog_undo_log.specs.declared.scan.seeing.RowsLook.{RowsLook}
use Rattle.binlog_undo_log.specs.declared.scan.seeing.RowsLook.TheVariants.{Left}
use Rattle.binlog_undo_log.specs.declared.scan.UndoScan.{UndoScan}
use Rattle.binlog_wire.specs.declared.error.Error.{Error}
use Rattle.binlog_wire.specs.declared.error.Error.TheVariants as errors

accepted_kind : (kind : Bool) (found : Option FormatDescriptionEvent) (d : FormatDescriptionEvent) → cond kind found None ≡ Some d → kind ≡ true
accepted_kind true found d is = refl
accepted_kind false found d is = absurd cc

not_both : (b : Bool) → b ≡ true → b ≡ false → ⊥
not_both b is other = cc

-- What the pass needs of data.
pub record Facts : Type 0 where
  pub rows : Option RowsEventData
  pub compressed : Option RowsCompressedEvent
  pub table_id : Option ℕ

abbrev facts_of : LogEventData → Facts
facts_of content = record { rows = rows_of content; compressed = compressed_of content; table_id = table_id_in content }

abbrev no_facts : Facts
no_facts = record { rows = None; compressed = None; table_id = None }

description_made : (d : FormatDescriptionEvent) (s : List ℕ) (content : EventData) → IsMadeIn (body_of FORMAT_DESCRIPTION_EVENT d) s content → facts_of (Mysql content) ≡ no_facts
description_made d s content h = ap (λ (e : EventData). facts_of (Mysql e)) h.1

mysql_facts : (d : FormatDescriptionEvent) (s : List ℕ) (read : Result (Option EventData) Error) (content : LogEventData)
    → ReadsAs d s (Ok FORMAT_DESCRIPTION_EVENT) read → Ok (Some content) ≡ answer_as Mysql read → facts_of content ≡ no_facts
mysql_facts d s (Ok (Some found)) content h is =
    let same : content ≡ Mysql found = cc in
    ap facts_of same ∙ description_made d s found (made_in (body_of FORMAT_DESCRIPTION_EVENT d) s found h)
mysql_facts d s (Ok None) content h is = absurd h
mysql_facts d s (Err error) content h is = absurd cc

module _ (event : EventView) (number : (header_of event.frame).event_type ≡ 15) where
  data_facts : (content : LogEventData) → ReadsLogData event (Ok (Some content)) → facts_of content ≡ no_facts
  data_facts content (inl h) = absurd (not_both (is_own_type (header_of event.frame).event_type) h.0.0 (ap is_own_type number))
  data_facts content (inr h) =
      let kind : h.1.1.0 ≡ Ok FORMAT_DESCRIPTION_EVENT = h.1.1.1 ∙ ap event_type_of number in
      let at : ReadsAs event.fde (data_of event.fde.footer event.frame) (Ok FORMAT_DESCRIPTION_EVENT) h.1.0 =
      subst (λ (t : Result EventType UnknownEventType). ReadsAs event.fde (data_of event.fde.footer event.frame) t h.1.0) kind h.1.1.2 in
      mysql_facts event.fde (data_of event.fde.footer event.frame) h.1.0 content at h.1.2

  role_is : (role : Role) → IsRole event role → role ≡ roles.Known marks.Border
  role_is role h = h.2 ∙ ap (role_of h.0 (not (bit_and (header_of event.frame).flags 0x80 == 0))) number

  module _ (scan : UndoScan) (maps : TableMaps) (index : ℕ) (seen : Option SeenEvent) where
    abbrev border : SeenEvent
    border = seen_event scan index event marks.Border None Left

    unread : (is_known : Bool) → unread_mark (roles.Known marks.Border) is_known ≡ Some marks.Border → SeesUnread scan index event is_known seen → seen ≡ Some border
    unread is_known mark h =
        h.2 ∙ ap (λ (r : Role). seen_as scan index event (unread_mark r is_known) None Left) (role_is h.0 h.1) ∙ ap (λ (m : Option Mark). seen_as scan index event m None Left) mark

    with_data : (content : LogEventData) → facts_of content ≡ no_facts → SeesData scan maps index event content seen → seen ≡ Some border
    with_data content facts h =
        let look : h.1 ≡ Left =
        subst (λ (c : Option RowsCompressedEvent). LooksBeside scan maps event c h.1) (ap (λ (f : Facts). f.compressed) facts)
        (subst (λ (r : Option RowsEventData). LooksAtSome scan maps event r (compressed_of content) h.1) (ap (λ (f : Facts). f.rows) facts) h.3) in
        h.4 ∙ ap (λ (r : Role). seen_as scan index event (seen_mark r content h.1) (table_id_in content) h.1) (role_is h.0 h.2)
        ∙ ap (λ (l : RowsLook). seen_as scan index event (seen_mark (roles.Known marks.Border) content l) (table_id_in content) l) look
        ∙ ap (λ (f : Facts). Some (seen_event scan index event marks.Border f.table_id Left)) facts

    is_border : (read : Result (Option LogEventData) Error) → ReadsLogData event read → SeesRead scan maps index event read seen → seen ≡ Some border
    is_border (Ok (Some content)) reads h = with_data content (data_facts content reads) h
    is_border (Ok None) reads h = unread false refl h
    is_border (Err errors.EndOfInput) reads h = unread true refl h
    is_border (Err errors.InvalidFileHeader) reads h = unread true refl h
    is_border (Err (errors.EventSizeTooSmall size)) reads h = unread true refl h
    is_border (Err errors.TooShortForChecksum) reads h = unread true refl h
    is_border (Err errors.EndOfBody) reads h = unread true refl h
    is_border (Err (errors.InvalidData why)) reads h = unread true refl h
    is_border (Err (errors.RemainingBytes count)) reads h = unread true refl h
    is_border (Err (errors.WrongEventType other)) reads h = unread true refl h
    is_border (Err (errors.UnknownChecksumAlg other)) reads h = unread true refl h
    is_border (Err errors.EventTooLong) reads h = unread true refl h
    is_border (Err (errors.Unwritable field)) reads h = unread true refl h
    is_border (Err errors.Memory) reads h = absurd h
    is_border (Err errors.FrameMemory) reads h = unread true refl h
    is_border (Err errors.Reader) reads h = unread true refl h
    is_border (Err errors.ReaderInFrame) reads h = unread true refl h
    is_border (Err errors.Writer) reads h = unread true refl h
    is_border (Err (errors.ChecksumMismatch stored computed)) reads h = unread true refl h
    is_border (Err (errors.BadGno other)) reads h = unread true refl h

-- It comes into force where no transaction is undone so far.
same_transactions : (takes : Bool) (seen : SeenEvent) (refusal : Option Refusal) (parts : Parts) → (passed_if takes seen refusal parts).transactions ≡ parts.transactions
same_transactions true seen refusal parts = refl
same_transactions false seen refusal parts = refl

module _ (choice : Choice) (all : TakesAll choice) (checks : ForeignKeyChecks) (skips : Skips) (start : UndoScan) (fresh : IsFresh choice checks skips start)
    (event : EventView) (d : FormatDescriptionEvent) (describes : accepted event.frame ≡ Some d) where
  kind : is_description event.frame ≡ true
  kind = accepted_kind (is_description event.frame) (described (footer_of (body event.frame)) (read_description (footer_of (body event.frame)) event.frame)) d describes

  number : (header_of event.frame).event_type ≡ 15
  number = eqb-true (header_of event.frame).event_type 15 kind

  abbrev pub first : SeenEvent
  first = seen_event start 0 event marks.Border None Left

  -- The pass behind the description.
  pub record IsBehind (new : UndoScan) : Type 0 where
    pub notes : NotesIn first start.index new.index
    pub passing : IsPassing choice new
    pub place : new.place ≡ min (4 + length event.frame) (2 ^ 64 - 1)
    pub closed : new.index.automaton.current ≡ None

  noted_first : (new : UndoScan) → Notes 0 event first start new → IsBehind new
  noted_first new h =
      let rules : Rules = rules_of choice skips in
      let none : (parts_of h.told).transactions ≡ [] =
      ap (λ (p : Parts). p.transactions) h.notes.parts
      ∙ ap (λ (c : Option Transaction). (noted first (step c marks.Border).0 (parts_of start.index)).transactions) fresh.automaton
      ∙ ap (λ (p : Parts). (noted first (step None marks.Border).0 p).transactions) fresh.parts
      ∙ same_transactions first.takes_first first (step None marks.Border).0.refusal (no_parts rules) in
      let old : UndoScan = record start { index = h.told } in
      let behind_it : DescribesBehind (parts_of h.told).transactions 0 old h.between = subst (λ (b : Bool). DescribesIf b 0 old h.between) kind h.describes in
      let between : h.between ≡ record old { description = Some start.place } = subst (λ (t : List TransactionPlace). DescribesBehind t 0 old h.between) none behind_it in
      let is : new ≡ passed 0 (length event.frame) (record old { description = Some start.place }) = h.is ∙ ap (λ (s : UndoScan). passed 0 (length event.frame) s) between in
      let told : new.index ≡ h.told = ap (λ (s : UndoScan). s.index) is in
      record {
        notes = subst (λ (i : UndoIndex). NotesIn first start.index i) (sym told) h.notes;
        passing = record {
          choice_is = ap (λ (s : UndoScan). s.choice) is ∙ fresh.choice_is;
          goes_on = ap (λ (s : UndoScan). s.is_stopped) is ∙ fresh.goes_on;
          wanted = ap (λ (s : UndoScan). s.is_wanted) is ∙ fresh.wanted ∙ ap is_none all.transactions.includes_all;
          described = ap (λ (s : UndoScan). s.description) is ∙ ap (λ (p : ℕ). Some p) fresh.place;
        };
        place = ap (λ (s : UndoScan). s.place) is ∙ ap (λ (p : ℕ). min (p + length event.frame) (2 ^ 64 - 1)) fresh.place;
        closed = ap (λ (i : UndoIndex). i.automaton.current) told ∙ h.notes.automaton ∙ ap (λ (c : Option Transaction). (step c marks.Border).1) fresh.automaton;
      }

  pub first_seen : (maps : TableMaps) (new : UndoScan) → scans start maps 0 (Ok event) new → IsBehind new
  first_seen maps new h =
      let e : IsSeen maps 0 event start new =
      event_seen choice all maps 0 event start new fresh.choice_is fresh.goes_on (ap begins_transaction number) (ap (λ (n : ℕ). n == 40) number) h in
      noted_first new (subst (λ (o : Option SeenEvent). NotesIf 0 event o start new) (is_border event number start maps 0 e.seen e.sees.0 e.sees.1 e.sees.2) e.notes)
