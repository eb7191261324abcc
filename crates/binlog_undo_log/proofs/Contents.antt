-- The steps of the first pass over the events inside a compressed transaction.
use Rattle.std.proofs.Common.{◌≡◌, ◌≢◌, inl, inr, ℕ, ◌+◌, ◌<◌, Bool, true, false, List, [], ◌∷◌, ◌++◌, length, flat_map, Option, Some, None, Result, Ok, Err, IfOk, OnOk, refl, sym, ◌∙◌, ap, subst, append_assoc, append-nil, arith}
use Rattle.std.specs.Prelude.{◌==◌}
use Rattle.std.proofs.lemmas.Grind.{flat_map-append}
use Rattle.std.proofs.lemmas.List.{length-append}
use Rattle.std.specs.List.{AllByRecursion}
use Rattle.binlog_consts.specs.declared.version.BinlogVersion.TheVariants.{Version4}
use Rattle.binlog_event_format.specs.declared.format_description.FormatDescriptionEvent.{FormatDescriptionEvent}
use Rattle.binlog_events.specs.Events.{EventView, event_of}
use Rattle.binlog_file.specs.State.{StreamState, first_state}
use Rattle.binlog_file.specs.TableMapsInForce.{TableMaps}
use Rattle.binlog_payloads.specs.Contents.{content_of}
use Rattle.binlog_payloads.specs.Decompressed.{ReadsContent, TakesFront, StopsContent, content_behind, content_item}
use Rattle.binlog_payloads.specs.Events.{payload_in}
use Rattle.binlog_payloads.specs.Fields.{Payload}
use Rattle.binlog_payloads.specs.InnerEvents.{HasNoInner, IsInner, inner_fde}
use Rattle.binlog_payloads.specs.Results.{Refused}
use Rattle.binlog_payloads.specs.declared.error.PayloadError.{PayloadError}
use Rattle.binlog_payloads.specs.declared.error.PayloadError.TheVariants as errors
use Rattle.binlog_wire.specs.declared.error.Error.{Error}
use Rattle.binlog_undo_index.specs.Parts.{parts_of}
use Rattle.binlog_undo_index.specs.declared.reason.Reason.TheVariants as reasons
use Rattle.binlog_undo_index.specs.declared.seen.SeenEvent.{SeenEvent}
use Rattle.binlog_undo_log.specs.Compressed.{most_bytes}
use Rattle.binlog_undo_log.specs.Contents.{lack_of, SeesInside, ScansInside, AreInside, state_inside, AreFirstInside, IsDamagedInside, ScansNext, AreSomeInside, AreAllInside, ScansEvents, EndsContent, SeesContent, DamagesContent, ScansContent, IsApart, SeesWhole, ScansInsideOf, ScansAny, border_of, in_front, span_of}
use Rattle.binlog_undo_log.specs.Places.{HasContent}
use Rattle.binlog_undo_log.specs.Scanning.{Sees, Stops}
use Rattle.binlog_undo_log.specs.declared.scan.content.Lack.{Lack}
use Rattle.binlog_undo_log.specs.declared.scan.content.Lack.TheVariants as lacks
use Rattle.binlog_undo_log.specs.declared.scan.content.Span.{Span}
use Rattle.binlog_undo_log.specs.declared.scan.UndoScan.{UndoScan}

-- ---- why a content isn't there

pub is_limit : (error : PayloadError) → lack_of error ≡ lacks.TooLong → error ≡ errors.Limit
is_limit errors.EventTruncated h = absurd cc
is_limit errors.Lenenc h = absurd cc
is_limit errors.FieldTwice h = absurd cc
is_limit errors.FieldLength h = absurd cc
is_limit (errors.Kind kind) h = absurd cc
is_limit errors.NoField h = absurd cc
is_limit errors.PayloadSize h = absurd cc
is_limit errors.Limit h = refl
is_limit errors.UncompressedSize h = absurd cc
is_limit (errors.Zstd fault) h = absurd cc
is_limit errors.InnerTruncated h = absurd cc
is_limit errors.InnerSize h = absurd cc
is_limit (errors.Type type) h = absurd cc
is_limit (errors.Event error) h = absurd cc
is_limit errors.Memory h = absurd cc

pub is_damaged : lacks.Damaged ≢ lacks.Memory
is_damaged h = cc

pub is_long : lacks.TooLong ≢ lacks.Memory
is_long h = cc

no_memory : (error : PayloadError) (lack : Lack) → lack_of error ≡ lack → lack ≢ lacks.Memory → error ≡ errors.Memory → ⊥
no_memory error lack is other memory = other (sym is ∙ ap (λ (e : PayloadError). lack_of e) memory)

-- The content is refused, if memory isn't.
pub refused_content : (error : PayloadError) (lack : Lack) (content : Result (List ℕ) PayloadError) → lack_of error ≡ lack → lack ≢ lacks.Memory → Refused error content → content ≡ Err error
refused_content error lack content is other (inl memory) = absurd (no_memory error lack is other memory)
refused_content error lack content is other (inr refused) = refused

-- ---- an event inside

-- No event is read of what is left.
pub next_lacks : (d : FormatDescriptionEvent) (state behind : StreamState) (index : ℕ) (left rest : List ℕ) (scan : UndoScan) (error : PayloadError) (lack : Lack)
    → lack_of error ≡ lack → lack ≢ lacks.Memory → ReadsContent d state behind (Err error) left rest → IsDamagedInside state index d left scan
next_lacks d state behind index left rest scan error lack is other (inl h) =
    elim h.takes.1 [
      | inl memory ↦ absurd (no_memory error lack is other memory)
      | inr why ↦ inr (h.frame, rest, h.whole, h.inner, inl (why.0, why.2))
    ]
next_lacks d state behind index left rest scan error lack is other (inr h) = inl (h.stops.some, h.stops.none)

-- An event is read, and scanned so.
pub next_scanned : (answer : Result Bool Error) (span : Span) (index : ℕ) (d : FormatDescriptionEvent) (state behind : StreamState) (event : EventView) (left rest : List ℕ) (old new : UndoScan)
    → ReadsContent d state behind (Ok (Some event)) left rest → IfOk answer (λ more. ScansInside more span behind.table_maps index event old new)
    → IfOk answer (λ more. ScansNext more span index d state behind left rest old new)
next_scanned (Ok true) span index d state behind event left rest old new h k =
    let one : SeesInside span (content_behind state h.frame).table_maps index (event_of d h.frame) k.0 old new =
    subst (λ (e : EventView). SeesInside span (content_behind state h.frame).table_maps index e k.0 old new) h.takes.0
    (subst (λ (s : StreamState). SeesInside span s.table_maps index event k.0 old new) h.takes.2 k.1) in
    (h.frame, k.0, h.inner, h.whole, h.takes.2, one)
next_scanned (Ok false) span index d state behind event left rest old new h k =
    let none : Sees old (content_behind state h.frame).table_maps index (event_of d h.frame) None =
    subst (λ (e : EventView). Sees old (content_behind state h.frame).table_maps index e None) h.takes.0
    (subst (λ (s : StreamState). Sees old s.table_maps index event None) h.takes.2 k.0) in
    (inr (h.frame, rest, h.whole, h.inner, inr none), k.1)
next_scanned (Err error) span index d state behind event left rest old new h k = tt

-- ---- the events inside

all_and : (frames : List (List ℕ)) (frame : List ℕ) → AllByRecursion IsInner frames → IsInner frame → AllByRecursion IsInner (frames ++ frame ∷ [])
all_and [] frame h is = (is, tt)
all_and (first ∷ frames) frame h is = (h.0, all_and frames frame h.1 is)

state_and : (state : StreamState) (frames : List (List ℕ)) (frame : List ℕ) → state_inside state (frames ++ frame ∷ []) ≡ content_behind (state_inside state frames) frame
state_and state [] frame = refl
state_and state (first ∷ frames) frame = state_and (content_behind state first) frames frame

inside_and : (span : Span) (state : StreamState) (index : ℕ) (d : FormatDescriptionEvent) (frames : List (List ℕ)) (frame : List ℕ) (seen : List SeenEvent) (last : SeenEvent) (old mid new : UndoScan)
    → AreInside span state index d frames seen old mid → SeesInside span (content_behind (state_inside state frames) frame).table_maps index (event_of d frame) last mid new
    → AreInside span state index d (frames ++ frame ∷ []) (seen ++ last ∷ []) old new
inside_and span state index d [] frame seen last old mid new h k =
    let one : SeesInside span (content_behind state frame).table_maps index (event_of d frame) last old new =
    subst (λ (s : UndoScan). SeesInside span (content_behind state frame).table_maps index (event_of d frame) last s new) h.1 k in
    (last, [], new, ap (λ (s : List SeenEvent). s ++ last ∷ []) h.0, one, (refl, refl))
inside_and span state index d (first ∷ frames) frame seen last old mid new h k = (
  h.0,
  h.1 ++ last ∷ [],
  h.2,
  ap (λ (s : List SeenEvent). s ++ last ∷ []) h.3,
  h.4,
  inside_and span (content_behind state first) index d frames frame h.1 last h.2 mid new h.5 k,
)

pub first_none : (span : Span) (index : ℕ) (d : FormatDescriptionEvent) (content left : List ℕ) (state : StreamState) (scan : UndoScan) → left ≡ content → state ≡ first_state Version4
    → AreFirstInside span index d content left [] state scan scan
first_none span index d content left state scan all first = record { frames = []; whole = sym all; each = tt; behind = first; are = (refl, refl) }

pub first_and : (span : Span) (index : ℕ) (d : FormatDescriptionEvent) (content left rest : List ℕ) (seen : List SeenEvent) (state behind : StreamState) (old mid new : UndoScan)
    → AreFirstInside span index d content left seen state old mid → (h : ScansNext true span index d state behind left rest mid new)
    → AreFirstInside span index d content rest (seen ++ h.1 ∷ []) behind old new
first_and span index d content left rest seen state behind old mid new so_far h =
    let frames : List (List ℕ) = so_far.frames in
    let frame : List ℕ = h.0 in
    let bytes : List ℕ = flat_map (λ (f : List ℕ). f) frames in
    let one : flat_map (λ (f : List ℕ). f) (frames ++ frame ∷ []) ≡ bytes ++ frame =
    flat_map-append (λ (f : List ℕ). f) frames (frame ∷ []) ∙ ap (λ (s : List ℕ). bytes ++ s) (append-nil frame) in
    let next : SeesInside span (content_behind (state_inside (first_state Version4) frames) frame).table_maps index (event_of d frame) h.1 mid new =
    subst (λ (s : StreamState). SeesInside span (content_behind s frame).table_maps index (event_of d frame) h.1 mid new) so_far.behind h.5 in
    record {
      frames = frames ++ frame ∷ [];
      whole = so_far.whole ∙ ap (λ (s : List ℕ). bytes ++ s) h.3 ∙ sym (append_assoc bytes frame rest) ∙ ap (λ (s : List ℕ). s ++ rest) (sym one);
      each = all_and frames frame so_far.each h.2;
      behind = h.4 ∙ ap (λ (s : StreamState). content_behind s frame) so_far.behind ∙ sym (state_and (first_state Version4) frames frame);
      are = inside_and span (first_state Version4) index d frames frame seen h.1 old mid new so_far.are next;
    }

pub shorter : (span : Span) (index : ℕ) (d : FormatDescriptionEvent) (left rest : List ℕ) (state behind : StreamState) (old new : UndoScan)
    → ScansNext true span index d state behind left rest old new → length rest < length left
shorter span index d left rest state behind old new h = omega (arith, h.2.frame.header, ap length h.3, length-append h.0 rest)

pub some_inside : (span : Span) (index : ℕ) (d : FormatDescriptionEvent) (content left rest : List ℕ) (seen : List SeenEvent) (state behind : StreamState) (old mid new : UndoScan)
    → AreFirstInside span index d content left seen state old mid → ScansNext false span index d state behind left rest mid new → AreSomeInside span index d content old new
some_inside span index d content left rest seen state behind old mid new so_far h = record {
  left = left;
  seen = seen;
  state = state;
  first = subst (λ (s : UndoScan). AreFirstInside span index d content left seen state old s) (sym h.1) so_far;
  damaged = subst (λ (s : UndoScan). IsDamagedInside state index d left s) (sym h.1) h.0;
}

pub all_inside : (span : Span) (index : ℕ) (d : FormatDescriptionEvent) (content left : List ℕ) (seen : List SeenEvent) (state : StreamState) (old new : UndoScan)
    → AreFirstInside span index d content left seen state old new → left ≡ [] → AreAllInside span index d content seen old new
all_inside span index d content left seen state old new so_far none =
    record { state = state; first = subst (λ (s : List ℕ). AreFirstInside span index d content s seen state old new) none so_far }

-- ---- the event that has them

pub content_scanned : (answer : Result (Unit {0}) Error) (maps : TableMaps) (index : ℕ) (event : EventView) (payload : Payload) (items content : List ℕ) (old new : UndoScan) → IsApart old
    → payload_in event ≡ Ok (Some payload) → content_of most_bytes payload ≡ Ok items → content ≡ items → OnOk answer (ScansContent index event content old new)
    → OnOk answer (ScansAny maps index event old new)
content_scanned (Ok done) maps index event payload items content old new apart has is same h =
    inr (inl (record {
      content = items;
      has = record { payload = payload; payload_is = has; content_is = is };
      apart = apart;
      scans = subst (λ (s : List ℕ). ScansContent index event s old new) same h;
    }))
content_scanned (Err error) maps index event payload items content old new apart has is same h = tt

-- All events inside were seen, or not all, with this description of them.
pub content_ended : (answer : Result (Unit {0}) Error) (index : ℕ) (event : EventView) (content : List ℕ) (d : FormatDescriptionEvent) (span : Span) (old behind new : UndoScan)
    → d ≡ inner_fde event.fde → span ≡ span_of old event → ScansEvents true span index d content (in_front old) behind
    → OnOk answer (EndsContent index span (record behind { place = span.place }) new) → OnOk answer (ScansContent index event content old new)
content_ended (Ok done) index event content d span old behind new under at h k =
    let all : AreAllInside (span_of old event) index (inner_fde event.fde) content h.0 (in_front old) behind =
    subst (λ (s : Span). AreAllInside s index (inner_fde event.fde) content h.0 (in_front old) behind) at
    (subst (λ (f : FormatDescriptionEvent). AreAllInside span index f content h.0 (in_front old) behind) under h.1) in
    let ends : EndsContent index (span_of old event) (record behind { place = old.place }) new =
    subst (λ (s : Span). EndsContent index s (record behind { place = s.place }) new) at k in
    inl (h.0 ++ border_of (span_of old event) index ∷ [], record { seen = h.0; behind = behind; all = all; own_are = refl; ends = ends })
content_ended (Err error) index event content d span old behind new under at h k = tt

pub content_damaged : (answer : Result (Unit {0}) Error) (index : ℕ) (event : EventView) (content : List ℕ) (d : FormatDescriptionEvent) (span : Span) (old behind new : UndoScan)
    → d ≡ inner_fde event.fde → span ≡ span_of old event → ScansEvents false span index d content (in_front old) behind
    → OnOk answer (Stops index reasons.Damaged (record behind { place = span.place }) new) → OnOk answer (ScansContent index event content old new)
content_damaged (Ok done) index event content d span old behind new under at h k =
    let some : AreSomeInside (span_of old event) index (inner_fde event.fde) content (in_front old) behind =
    subst (λ (s : Span). AreSomeInside s index (inner_fde event.fde) content (in_front old) behind) at
    (subst (λ (f : FormatDescriptionEvent). AreSomeInside span index f content (in_front old) behind) under h) in
    inr (record { behind = behind; some = some; stops = subst (λ (s : Span). Stops index reasons.Damaged (record behind { place = s.place }) new) at k })
content_damaged (Err error) index event content d span old behind new under at h k = tt
