-- What is seen of an event is seen at the place of its frame.
use Rattle.std.proofs.Common.{◌≡◌, ◌⊎◌, inl, inr, ℕ, ◌+◌, ◌-◌, ◌<◌, ◌^◌, min, Bool, true, false, List, [], ◌∷◌, ◌++◌, length, drop, flat_map, Option, Some, None, Result, Ok, Err, if◌then◌else◌, refl, sym, ap, subst, ◌∙◌, append_assoc, arith}
use Rattle.std.proofs.lemmas.List.{length-append}
use Rattle.std.specs.List.{AllByRecursion}
use Rattle.binlog_event_format.specs.declared.format_description.FormatDescriptionEvent.{FormatDescriptionEvent}
use Rattle.binlog_consts.specs.declared.version.BinlogVersion.TheVariants.{Version4}
use Rattle.binlog_event_format.specs.FormatDescription.{default_description}
use Rattle.binlog_events.specs.Events.{EventView}
use Rattle.binlog_events.specs.FileHeader.{file_header}
use Rattle.binlog_events.specs.Frames.{is_undersized, stated_size}
use Rattle.binlog_events.specs.Parts.{is_description}
use Rattle.binlog_file.proofs.OwnFrames.{event_is}
use Rattle.binlog_file.specs.Descriptions.{in_force}
use Rattle.binlog_file.specs.Streams.{tail_items}
use Rattle.binlog_file.specs.State.{StreamState, first_state}
use Rattle.binlog_file.specs.TableMapsInForce.{TableMaps, no_table_maps}
use Rattle.binlog_payloads.specs.Decompressed.{content_behind}
use Rattle.binlog_payloads.specs.InnerEvents.{inner_fde}
use Rattle.binlog_file.specs.VerifiedFiles.{right_frame, IsVerifiedItem, AreVerifiedBehind}
use Rattle.binlog_file.specs.declared.log_data.LogEventData.{LogEventData}
use Rattle.binlog_transactions.specs.declared.mark.Mark.{Mark}
use Rattle.binlog_transactions.specs.declared.refusal.Refusal.TheVariants as refusals
use Rattle.binlog_undo.specs.declared.inverse_event.ForeignKeyChecks.{ForeignKeyChecks}
use Rattle.binlog_undo_index.specs.Parts.{parts_of}
use Rattle.binlog_undo_index.specs.declared.places.TransactionPlace.{TransactionPlace}
use Rattle.binlog_undo_index.specs.declared.reason.Reason.TheVariants as reasons
use Rattle.binlog_undo_index.specs.declared.seen.SeenEvent.{SeenEvent}
use Rattle.binlog_undo_index.specs.declared.skips.Skips.{Skips}
use Rattle.binlog_undo_log.proofs.Scanned.{noted_or, not_both, stopped}
use Rattle.binlog_undo_log.specs.Choices.{rules_of}
use Rattle.binlog_undo_log.specs.FileChanges.{AreAtPlaces}
use Rattle.binlog_undo_log.specs.Places.{IsFrameIn}
use Rattle.binlog_undo_log.specs.Files.{IsFresh, AreSeen, IsScanned}
use Rattle.binlog_undo_log.specs.Scanning.{seen_event, seen_as, seen_mark, unread_mark, SeesRead, DescribesBehind, DescribesIf, Notes}
use Rattle.binlog_undo_log.specs.Contents.{AreInside, SeesAny, SeesEvent, border_of, in_front, span_of}
use Rattle.binlog_undo_log.specs.declared.scan.content.Span.{Span}
use Rattle.binlog_undo_log.specs.Marks.{table_id_in}
use Rattle.binlog_undo_log.specs.declared.choice.Choice.{Choice}
use Rattle.binlog_undo_log.specs.declared.scan.seeing.RowsLook.{RowsLook}
use Rattle.binlog_undo_log.specs.declared.scan.seeing.RowsLook.TheVariants.{Left}
use Rattle.binlog_undo_log.specs.declared.scan.UndoScan.{UndoScan}
use Rattle.binlog_visits.specs.TableMaps.{maps_behind}
use Rattle.binlog_wire.specs.declared.error.Error.{Error}
use Rattle.binlog_wire.specs.declared.error.Error.TheVariants as errors
use Rattle.crc32_ieee.specs.Checksums.{IsCrc32}

-- ---- the place of what is seen

as_place : (scan : UndoScan) (index : ℕ) (event : EventView) (mark : Option Mark) (table_id : Option ℕ) (look : RowsLook) (seen : SeenEvent)
    → Some seen ≡ seen_as scan index event mark table_id look → seen.place ≡ scan.place
as_place scan index event None table_id look seen is = absurd cc
as_place scan index event (Some mark) table_id look seen is =
    let same : seen ≡ seen_event scan index event mark table_id look = cc in ap (λ (s : SeenEvent). s.place) same

module _ (scan : UndoScan) (maps : TableMaps) (index : ℕ) (event : EventView) (seen : SeenEvent) where
  read_place : (read : Result (Option LogEventData) Error) → SeesRead scan maps index event read (Some seen) → seen.place ≡ scan.place
  read_place (Ok (Some body)) h = as_place scan index event (seen_mark h.0 body h.1) (table_id_in body) h.1 seen h.4
  read_place (Ok None) h = as_place scan index event (unread_mark h.0 false) None Left seen h.2
  read_place (Err errors.EndOfInput) h = as_place scan index event (unread_mark h.0 true) None Left seen h.2
  read_place (Err errors.InvalidFileHeader) h = as_place scan index event (unread_mark h.0 true) None Left seen h.2
  read_place (Err (errors.EventSizeTooSmall size)) h = as_place scan index event (unread_mark h.0 true) None Left seen h.2
  read_place (Err errors.TooShortForChecksum) h = as_place scan index event (unread_mark h.0 true) None Left seen h.2
  read_place (Err errors.EndOfBody) h = as_place scan index event (unread_mark h.0 true) None Left seen h.2
  read_place (Err (errors.InvalidData why)) h = as_place scan index event (unread_mark h.0 true) None Left seen h.2
  read_place (Err (errors.RemainingBytes count)) h = as_place scan index event (unread_mark h.0 true) None Left seen h.2
  read_place (Err (errors.WrongEventType number)) h = as_place scan index event (unread_mark h.0 true) None Left seen h.2
  read_place (Err (errors.UnknownChecksumAlg number)) h = as_place scan index event (unread_mark h.0 true) None Left seen h.2
  read_place (Err errors.EventTooLong) h = as_place scan index event (unread_mark h.0 true) None Left seen h.2
  read_place (Err (errors.Unwritable field)) h = as_place scan index event (unread_mark h.0 true) None Left seen h.2
  read_place (Err errors.Memory) h = absurd h
  read_place (Err errors.FrameMemory) h = as_place scan index event (unread_mark h.0 true) None Left seen h.2
  read_place (Err errors.Reader) h = as_place scan index event (unread_mark h.0 true) None Left seen h.2
  read_place (Err errors.ReaderInFrame) h = as_place scan index event (unread_mark h.0 true) None Left seen h.2
  read_place (Err errors.Writer) h = as_place scan index event (unread_mark h.0 true) None Left seen h.2
  read_place (Err (errors.ChecksumMismatch stored computed)) h = as_place scan index event (unread_mark h.0 true) None Left seen h.2
  read_place (Err (errors.BadGno number)) h = as_place scan index event (unread_mark h.0 true) None Left seen h.2

-- What is seen of events is seen at this place.
abbrev AreAt : ℕ → List SeenEvent → Type 0
AreAt place seen = AllByRecursion (λ (one : SeenEvent). one.place ≡ place) seen

at_and : (place : ℕ) (seen : List SeenEvent) (last : SeenEvent) → AreAt place seen → last.place ≡ place → AreAt place (seen ++ last ∷ [])
at_and place [] last h is = (is, tt)
at_and place (one ∷ seen) last h is = (h.0, at_and place seen last h.1 is)

inside_places : (span : Span) (state : StreamState) (index : ℕ) (d : FormatDescriptionEvent) (frames : List (List ℕ)) (seen : List SeenEvent) (old new : UndoScan)
    → AreInside span state index d frames seen old new → AreAt span.place seen
inside_places span state index d [] seen old new h = subst (λ (s : List SeenEvent). AreAt span.place s) (sym h.0) tt
inside_places span state index d (frame ∷ frames) seen old new h =
    subst (λ (s : List SeenEvent). AreAt span.place s) (sym h.3)
    (ap (λ (s : SeenEvent). s.place) h.4.is, inside_places span (content_behind state frame) index d frames h.1 h.2 new h.5)

any_places : (maps : TableMaps) (index : ℕ) (event : EventView) (own : List SeenEvent) (old new : UndoScan) → SeesAny maps index event own old new → AreAt old.place own
any_places maps index event own old new (inl h) =
    subst (λ (s : List SeenEvent). AreAt old.place s) (sym h.1) (read_place old maps index event h.0 h.2.sees.0 h.2.sees.2, tt)
any_places maps index event own old new (inr h) =
    let span : Span = span_of old event in
    let within : AreAt old.place h.sees.seen =
    inside_places span (first_state Version4) index (inner_fde event.fde) h.sees.all.first.frames h.sees.seen (in_front old) h.sees.behind h.sees.all.first.are in
    subst (λ (s : List SeenEvent). AreAt old.place s) (sym h.sees.own_are) (at_and old.place h.sees.seen (border_of span index) within refl)

seen_places : (maps : TableMaps) (index : ℕ) (event : EventView) (own : List SeenEvent) (old new : UndoScan) → SeesEvent maps index event own old new → AreAt old.place own
seen_places maps index event own old new h = any_places maps index event own (record old { is_wanted = h.wanted }) new h.sees

frames_there : (bytes : List ℕ) (place : ℕ) (frame : List ℕ) (own : List SeenEvent) → AreAt place own → IsFrameIn bytes place frame → AllByRecursion (λ (one : SeenEvent). IsFrameIn bytes one.place frame) own
frames_there bytes place frame [] at there = tt
frames_there bytes place frame (one ∷ own) at there = (subst (λ (p : ℕ). IsFrameIn bytes p frame) (sym at.0) there, frames_there bytes place frame own at.1 there)

-- ---- the place behind an event

described_place : (transactions : List TransactionPlace) (index : ℕ) (old new : UndoScan) → DescribesBehind transactions index old new → new.place ≡ old.place
described_place [] index old new h = ap (λ (s : UndoScan). s.place) h
described_place (transaction ∷ transactions) index old new h = ap (λ (s : UndoScan). s.place) h.is

described_if_place : (is : Bool) (index : ℕ) (old new : UndoScan) → DescribesIf is index old new → new.place ≡ old.place
described_if_place true index old new h = described_place (parts_of old.index).transactions index old new h
described_if_place false index old new h = ap (λ (s : UndoScan). s.place) h

noted_place : (index : ℕ) (event : EventView) (seen : SeenEvent) (old new : UndoScan) → Notes index event seen old new → new.place ≡ min (old.place + length event.frame) (2 ^ 64 - 1)
noted_place index event seen old new h =
    ap (λ (s : UndoScan). s.place) h.is
    ∙ ap (λ (p : ℕ). min (p + length event.frame) (2 ^ 64 - 1)) (described_if_place (is_description event.frame) index (record old { index = h.told }) h.between h.describes)

any_behind : (maps : TableMaps) (index : ℕ) (event : EventView) (own : List SeenEvent) (old new : UndoScan) → SeesAny maps index event own old new → new.is_stopped ≡ false
    → new.place ≡ min (old.place + length event.frame) (2 ^ 64 - 1)
any_behind maps index event own old new (inl h) goes =
    elim (noted_or h.0.mark index event h.0 old new h.2.notes) [
      | inl n ↦ noted_place index event h.0 old new n
      | inr s ↦ absurd (not_both new.is_stopped (stopped index (reasons.Transaction refusals.Encrypted) old new s) goes)
    ]
any_behind maps index event own old new (inr h) goes = ap (λ (s : UndoScan). s.place) h.sees.ends.is

place_behind_event : (maps : TableMaps) (index : ℕ) (event : EventView) (own : List SeenEvent) (old new : UndoScan) → SeesEvent maps index event own old new → new.is_stopped ≡ false
    → new.place ≡ min (old.place + length event.frame) (2 ^ 64 - 1)
place_behind_event maps index event own old new h goes = any_behind maps index event own (record old { is_wanted = h.wanted }) new h.sees goes

-- ---- the frames of a stream

own_frame : (d : FormatDescriptionEvent) (frame : List ℕ) (item : Result EventView Error) (event : EventView) → IsVerifiedItem IsCrc32 d frame item → item ≡ Ok event → event.frame ≡ frame
own_frame d frame item event (inl h) ok = ap (λ (e : EventView). e.frame) (event_is d frame event (sym h.1 ∙ ok)).1
own_frame d frame item event (inr h) ok =
    let other : item ≡ Err (errors.ChecksumMismatch h.0 h.1) = h.3 in absurd cc

abbrev all_of : List (List ℕ) → List ℕ
all_of frames = flat_map (λ (frame : List ℕ). frame) frames

pub drop_all : (front s : List ℕ) → drop (length front) (front ++ s) ≡ s
drop_all [] s = refl
drop_all (x ∷ front) s = drop_all front s

-- What is behind the last frame is no event.
pub tail_is_no_event : (is : Bool) (size : ℕ) (item : Result EventView Error) (event : EventView) (more : List (Result EventView Error))
    → ◌≡◌ {A = List (Result EventView Error)} (if is then Err (errors.EventSizeTooSmall size) ∷ [] else []) (item ∷ more) → item ≡ Ok event → ⊥
tail_is_no_event true size item event more is ok =
    let wrong : ◌≡◌ {A = Result EventView Error} (Err (errors.EventSizeTooSmall size)) (Ok event) = cc in cc
tail_is_no_event false size item event more is ok = cc

module _ (bytes tail : List ℕ) (d : FormatDescriptionEvent) (small : length bytes < 2 ^ 64) where
  placed : (front : List ℕ) (before frames : List (List ℕ)) (given first rest : List (Result EventView Error)) (maps : TableMaps) (index : ℕ) (seen : List SeenEvent) (old new : UndoScan)
      → bytes ≡ front ++ (all_of frames ++ tail) → old.place ≡ length front → AreVerifiedBehind IsCrc32 d before frames given → given ++ tail_items tail ≡ first ++ rest
      → AreSeen maps index first seen old new → AreAtPlaces bytes first seen
  placed front before frames given [] rest maps index seen old new all at are is h = h.0
  placed front before [] [] (item ∷ first) rest maps index seen old new all at are is h =
      absurd (tail_is_no_event (is_undersized tail) (stated_size tail) item h.0 (first ++ rest) is h.4)
  placed front before [] (other ∷ given) (item ∷ first) rest maps index seen old new all at are is h = absurd are
  placed front before (frame ∷ frames) [] (item ∷ first) rest maps index seen old new all at are is h = absurd are
  placed front before (frame ∷ frames) (other ∷ given) (item ∷ first) rest maps index seen old new all at are is h =
      let same : other ≡ item = cc in
      let tails : given ++ tail_items tail ≡ first ++ rest = cc in
      let event : EventView = h.0 in
      let own_seen : List SeenEvent = h.1 in
      let mid : UndoScan = h.3 in
      let others : List ℕ = all_of frames ++ tail in
      let own : event.frame ≡ frame = own_frame (in_force d before) frame other event are.0 (same ∙ h.4) in
      let split : bytes ≡ front ++ (frame ++ others) = all ∙ ap (λ (s : List ℕ). front ++ s) (append_assoc frame (all_of frames) tail) in
      let here : AreAt old.place own_seen = seen_places (maps_behind maps item) index event own_seen old mid h.6 in
      let found : drop old.place bytes ≡ frame ++ others =
      ap (λ (p : ℕ). drop p bytes) at ∙ ap (λ (s : List ℕ). drop (length front) s) split ∙ drop_all front (frame ++ others) in
      let there : IsFrameIn bytes old.place event.frame = record { rest = others; at = found ∙ ap (λ (s : List ℕ). s ++ others) (sym own) } in
      let behind : bytes ≡ (front ++ frame) ++ others = split ∙ sym (append_assoc front frame others) in
      let next : mid.place ≡ length (front ++ frame) =
      place_behind_event (maps_behind maps item) index event own_seen old mid h.6 h.7
      ∙ ap (λ (p : ℕ). min (p + length event.frame) (2 ^ 64 - 1)) at
      ∙ ap (λ (s : List ℕ). min (length front + length s) (2 ^ 64 - 1)) own
      ∙ omega (arith, small, ap length behind, length-append (front ++ frame) others, length-append front frame) in (
        event,
        own_seen,
        h.2,
        h.4,
        h.5,
        frames_there bytes old.place event.frame own_seen here there,
        placed (front ++ frame) (before ++ right_frame frame other) frames given first rest (maps_behind maps item) (index + 1) h.2 mid new behind next are.1 tails h.8,
      )

pub file_placed : (choice : Choice) (checks : ForeignKeyChecks) (skips : Skips) (bytes : List ℕ) (start scan : UndoScan) → length bytes < 2 ^ 64 → IsFresh choice checks skips start
    → (scanned : IsScanned (rules_of choice skips) bytes start scan) → AreAtPlaces bytes scanned.front scanned.seen
file_placed choice checks skips bytes start scan small fresh scanned =
    let d : FormatDescriptionEvent = default_description Version4 in
    let all : bytes ≡ file_header ++ (all_of scanned.are.frames ++ scanned.are.tail) = scanned.file ∙ ap (λ (s : List ℕ). file_header ++ s) scanned.are.split.whole in
    placed bytes scanned.are.tail d small file_header [] scanned.are.frames scanned.are.given scanned.front scanned.rest no_table_maps 0 scanned.seen start scanned.behind all fresh.place
    scanned.are.each (sym scanned.are.all ∙ scanned.split) scanned.each
