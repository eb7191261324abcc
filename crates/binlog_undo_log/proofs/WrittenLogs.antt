-- The log that is written is a log of a description and events, and nothing else.
use Rattle.std.proofs.Common.{◌≡◌, ℕ, zero, suc, ◌+◌, ◌%◌, ◌^◌, ◌<◌, ◌≤◌, Bool, true, false, cond, List, [], ◌∷◌, ◌++◌, length, take, map, All, Option, Some, None, is_some, unwrap_or, Result, Ok, Err, refl, sym, ap, subst, ◌∙◌, append-nil, append_assoc, arith, length-take, lit<, inl, inr}
use Rattle.std.specs.Prelude.{◌==◌, ◌&&◌, not, nat_le, IsSomeAnd}
use Rattle.std.specs.Io.KnownBytes.{Appends}
use Rattle.std.specs.List.{AllByRecursion, flat_map}
use Rattle.std.proofs.lemmas.Bool.{leb-true}
use Rattle.std.proofs.lemmas.List.Elements.{All-nil, All-cons}
use Rattle.binlog_consts.specs.EventTypes.{event_number}
use Rattle.binlog_consts.specs.declared.event_type.EventType.TheVariants.{FORMAT_DESCRIPTION_EVENT}
use Rattle.binlog_consts.specs.declared.version.BinlogVersion.TheVariants.{Version4}
use Rattle.binlog_event_format.specs.Footers.{footer_of}
use Rattle.binlog_event_format.specs.FormatDescription.{default_description, IsFormatDescription}
use Rattle.binlog_event_format.specs.Headers.{header_of}
use Rattle.binlog_event_format.specs.declared.format_description.FormatDescriptionEvent.{FormatDescriptionEvent}
use Rattle.binlog_event_format.specs.declared.header.BinlogEventHeader.{BinlogEventHeader}
use Rattle.binlog_events.specs.Events.{EventView}
use Rattle.binlog_events.specs.FileHeader.{file_header}
use Rattle.binlog_events.specs.Frames.{IsFrame, HasNoFrame, IsSplit}
use Rattle.binlog_events.specs.Parts.{body, is_on, data_of}
use Rattle.binlog_file.proofs.AcceptedDescriptions.{other_is_none}
use Rattle.binlog_file.proofs.StreamItems.{in_force-last}
use Rattle.binlog_file.specs.Descriptions.{accepted, in_force}
use Rattle.binlog_file.specs.VerifiedFiles.{IsVerifiedItem, AreVerifiedBehind, AreVerifiedItems}
use Rattle.crc32_ieee.specs.Checksums.{IsCrc32}
use Rattle.binlog_undo.specs.Events.{event_size, event_bytes, FitsHeader}
use Rattle.binlog_undo.specs.Transactions.{Event, events_bytes, AllFit}
use Rattle.binlog_undo.specs.declared.heading.Heading.{Heading}
use Rattle.binlog_undo_log.proofs.WrittenDescription.{is_enabled, is_accepted, description_verified}
use Rattle.binlog_undo_log.proofs.WrittenEvents.{CanFollow, is_plain, its_data, is_verified}
use Rattle.binlog_undo_log.proofs.WrittenFrames.{HasHeader, header_written, behind_header, length-behind, written_header, written_frame}
use Rattle.binlog_undo_log.specs.Descriptions.{written_description, description_body, has_checksums_under}
use Rattle.binlog_undo_log.specs.Heads.{has_algorithm, is_writable}
use Rattle.binlog_undo_log.specs.WholeLogs.{ArePlaced, IsLogOf, IsReadAs, AreReadAs, IsLogUnder}

-- ---- frames one after the other

abbrev pub frames_of : Bool → ℕ → List Event → List (List ℕ)
frames_of has place [] = []
frames_of has place (event ∷ events) =
    event_bytes has place event.heading event.event_type event.body ∷ frames_of has (place + event_size has event.body) events

abbrev pub views_of : FormatDescriptionEvent → List (List ℕ) → List EventView
views_of d [] = []
views_of d (frame ∷ frames) = record { fde = d; frame = frame } ∷ views_of d frames

pub bytes_of : (has : Bool) (place : ℕ) (events : List Event) → events_bytes has place events ≡ flat_map (λ frame. frame) (frames_of has place events)
bytes_of has place [] = refl
bytes_of has place (event ∷ events) =
    ap (λ (s : List ℕ). event_bytes has place event.heading event.event_type event.body ++ s) (bytes_of has (place + event_size has event.body) events)

pub view_frames : (d : FormatDescriptionEvent) (frames : List (List ℕ)) → flat_map (λ event. event.frame) (views_of d frames) ≡ flat_map (λ frame. frame) frames
view_frames d [] = refl
view_frames d (frame ∷ frames) = ap (λ (s : List ℕ). frame ++ s) (view_frames d frames)

pub nothing_left : HasNoFrame []
nothing_left count h = omega (arith, h.header, length-take {A = ℕ} count [])

-- The length and the log position of an event.
pub size_of : (has : Bool) (place : ℕ) (event : Event)
    → HasHeader (header_written has place event.heading event.event_type event.body) (behind_header has place event.heading event.event_type event.body)
    (event_bytes has place event.heading event.event_type event.body)
    → length (event_bytes has place event.heading event.event_type event.body) ≡ event_size has event.body
size_of has place event h = omega (arith, h.long, length-behind has place event.heading event.event_type event.body)

pub position_of : (has : Bool) (place : ℕ) (event : Event)
    → (h : HasHeader (header_written has place event.heading event.event_type event.body) (behind_header has place event.heading event.event_type event.body)
    (event_bytes has place event.heading event.event_type event.body))
    → (header_of (event_bytes has place event.heading event.event_type event.body)).log_pos ≡ (place + length (event_bytes has place event.heading event.event_type event.body)) % 2 ^ 32
position_of has place event h = ap (λ (x : BinlogEventHeader). x.log_pos) h.is ∙ ap (λ (n : ℕ). (place + n) % 2 ^ 32) (sym (size_of has place event h))

module _ (d : FormatDescriptionEvent) (has : Bool) (due : (d.footer.checksum_enabled && is_on d.footer.checksum_alg) ≡ has) where
  pub headed : (place : ℕ) (event : Event) → FitsHeader has place event.heading event.body → CanFollow d event
      → HasHeader (header_written has place event.heading event.event_type event.body) (behind_header has place event.heading event.event_type event.body)
      (event_bytes has place event.heading event.event_type event.body)
  headed place event fits can = written_header has place event.heading event.event_type event.body fits can.small

  pub all_frames : (place : ℕ) (events : List Event) → AllFit has place events → AllByRecursion (CanFollow d) events → All IsFrame (frames_of has place events)
  all_frames place [] fit can = All-nil IsFrame
  all_frames place (event ∷ events) fit can =
      All-cons IsFrame _ _ (written_frame has place event.heading event.event_type event.body (headed place event fit.0 can.0))
      (all_frames (place + event_size has event.body) events fit.1 can.1)

  pub all_verified : (start : FormatDescriptionEvent) (before : List (List ℕ)) (place : ℕ) (events : List Event) → in_force start before ≡ d → AllFit has place events
      → AllByRecursion (CanFollow d) events → AreVerifiedBehind IsCrc32 start before (frames_of has place events) (map Ok (views_of d (frames_of has place events)))
  all_verified start before place [] now fit can = tt
  all_verified start before place (event ∷ events) now fit can =
      let frame : List ℕ = event_bytes has place event.heading event.event_type event.body in
      let view : EventView = record { fde = d; frame = frame } in
      let h = headed place event fit.0 can.0 in
      let item = is_verified d has place event.heading event.event_type event.body due can.0.no_description h can.0.even can.0.no_rotate can.0.map in
      let none = other_is_none frame (is_plain d has place event.heading event.event_type event.body due can.0.no_description h) in
      let next : in_force start (before ++ frame ∷ []) ≡ d =
      in_force-last start before frame ∙ ap (λ (o : Option FormatDescriptionEvent). unwrap_or o (in_force start before)) none ∙ now in (
        subst (λ (x : FormatDescriptionEvent). IsVerifiedItem IsCrc32 x frame (Ok view)) (sym now) item,
        all_verified start (before ++ frame ∷ []) (place + event_size has event.body) events next fit.1 can.1,
      )

  pub all_placed : (place : ℕ) (events : List Event) → AllFit has place events → AllByRecursion (CanFollow d) events → ArePlaced place (views_of d (frames_of has place events))
  all_placed place [] fit can = tt
  all_placed place (event ∷ events) fit can =
      let h = headed place event fit.0 can.0 in (
        position_of has place event h,
        subst (λ (p : ℕ). ArePlaced p (views_of d (frames_of has (place + event_size has event.body) events))) (ap (λ (n : ℕ). place + n) (sym (size_of has place event h)))
            (all_placed (place + event_size has event.body) events fit.1 can.1),
      )

  pub all_read : (place : ℕ) (events : List Event) → AllFit has place events → AllByRecursion (CanFollow d) events → AreReadAs d events (views_of d (frames_of has place events))
  all_read place [] fit can = refl
  all_read place (event ∷ events) fit can =
      let h = headed place event fit.0 can.0 in
      let frames : List (List ℕ) = frames_of has (place + event_size has event.body) events in
      let view : EventView = record { fde = d; frame = event_bytes has place event.heading event.event_type event.body } in
      let is : IsReadAs d event view = record {
        fde = refl;
        event_type = ap (λ (x : BinlogEventHeader). x.event_type) h.is;
        timestamp = ap (λ (x : BinlogEventHeader). x.timestamp) h.is;
        server_id = ap (λ (x : BinlogEventHeader). x.server_id) h.is;
        flags = ap (λ (x : BinlogEventHeader). x.flags) h.is;
        body = its_data d has place event.heading event.event_type event.body due can.0.no_description h;
      } in
      (view, views_of d frames, refl, is, all_read (place + event_size has event.body) events fit.1 can.1)

-- ---- a description in front of them

both_true : (a b : Bool) → (a && b) ≡ true → (a ≡ true) × (b ≡ true)
both_true true b is = (refl, is)
both_true false b is = absurd cc

due_by : (d : FormatDescriptionEvent) (algorithm : Option ℕ) (enabled : Bool) → has_algorithm (record d { footer = record { checksum_alg = algorithm; checksum_enabled = enabled } }) ≡ true
    → enabled ≡ true → (enabled && is_on algorithm) ≡ has_checksums_under algorithm
due_by d algorithm false known is = absurd cc
due_by d None true known is = refl
due_by d (Some zero) true known is = refl
due_by d (Some (suc zero)) true known is = refl
due_by d (Some (suc (suc n))) true known is = absurd (omega (arith, leb-true (suc (suc n)) 1 known))

-- Events under a description have a CRC-32 where it is due.
pub due_under : (d : FormatDescriptionEvent) → is_writable d ≡ true → d.footer.checksum_enabled ≡ true
    → (d.footer.checksum_enabled && is_on d.footer.checksum_alg) ≡ has_checksums_under d.footer.checksum_alg
due_under d writable enabled = due_by d d.footer.checksum_alg d.footer.checksum_enabled (both_true _ _ (both_true _ _ writable).1).0 enabled

pub log_under : (d found : FormatDescriptionEvent) (source : List ℕ) (spelled : IsFormatDescription (data_of (footer_of (body source)) source) found [])
    (is : d ≡ record found { footer = footer_of (body source) }) (heading : Heading) (events : List Event) → is_writable d ≡ true → heading.flags % 2 ≡ 0
    → FitsHeader (is_some d.footer.checksum_alg) 4 heading (description_body d)
    → AllFit (has_checksums_under d.footer.checksum_alg) (4 + event_size (is_some d.footer.checksum_alg) (description_body d)) events
    → AllByRecursion (CanFollow (written_description d)) events
    → IsLogUnder (written_description d) events (file_header ++ (event_bytes (is_some d.footer.checksum_alg) 4 heading FORMAT_DESCRIPTION_EVENT (description_body d)
    ++ events_bytes (has_checksums_under d.footer.checksum_alg) (4 + event_size (is_some d.footer.checksum_alg) (description_body d)) events))
log_under d found source spelled is heading events writable even fits fit can =
    let first_has : Bool = is_some d.footer.checksum_alg in
    let has : Bool = has_checksums_under d.footer.checksum_alg in
    let first : Event = record { heading = heading; event_type = FORMAT_DESCRIPTION_EVENT; body = description_body d } in
    let frame : List ℕ = event_bytes first_has 4 heading FORMAT_DESCRIPTION_EVENT (description_body d) in
    let place : ℕ = 4 + event_size first_has (description_body d) in
    let behind : FormatDescriptionEvent = written_description d in
    let start : FormatDescriptionEvent = default_description Version4 in
    let frames : List (List ℕ) = frames_of has place events in
    let views : List EventView = views_of behind frames in
    let view : EventView = record { fde = record start { footer = d.footer }; frame = frame } in
    let due : (behind.footer.checksum_enabled && is_on behind.footer.checksum_alg) ≡ has = due_under d writable (is_enabled d found source spelled is) in
    let h = written_header first_has 4 heading FORMAT_DESCRIPTION_EVENT (description_body d) fits (lit< tt) in
    let accepts : accepted frame ≡ Some behind = is_accepted d found source spelled is 4 heading h in
    let now : in_force start (frame ∷ []) ≡ behind =
    in_force-last start [] frame ∙ ap (λ (o : Option FormatDescriptionEvent). unwrap_or o (in_force start [])) accepts in
    let all : frame ++ events_bytes has place events ≡ flat_map (λ f. f) (frame ∷ frames) = ap (λ (s : List ℕ). frame ++ s) (bytes_of has place events) in
    let split : IsSplit (frame ++ events_bytes has place events) (frame ∷ frames) [] = record {
      whole = all ∙ sym (append-nil (flat_map (λ f. f) (frame ∷ frames)));
      each = All-cons IsFrame frame frames (written_frame first_has 4 heading FORMAT_DESCRIPTION_EVENT (description_body d) h) (all_frames behind has due place events fit can);
      end = nothing_left;
    } in
    record {
      description = view;
      events = views;
      log = record {
        stream = frame ++ events_bytes has place events;
        file = refl;
        whole = ap (λ (s : List ℕ). frame ++ s) (bytes_of has place events ∙ sym (view_frames behind frames));
        are = record {
          frames = frame ∷ frames;
          tail = [];
          split = split;
          given = map Ok (view ∷ views);
          each = (
            description_verified d found source spelled is 4 heading h start even,
            all_verified behind has due start (frame ∷ []) place events now fit can,
          );
          all = sym (append-nil (map Ok (view ∷ views)));
        };
        placed = (
          position_of first_has 4 first h,
          subst (λ (p : ℕ). ArePlaced p views) (ap (λ (n : ℕ). 4 + n) (sym (size_of first_has 4 first h))) (all_placed behind has due place events fit can),
        );
      };
      describes = accepts;
      are = all_read behind has due place events fit can;
    }

-- Nothing but a file header.
pub log_of_nothing : IsLogOf [] file_header
log_of_nothing = record {
  stream = [];
  file = sym (append-nil file_header);
  whole = refl;
  are = record { frames = []; tail = []; split = record { whole = refl; each = All-nil IsFrame; end = nothing_left }; given = []; each = tt; all = refl };
  placed = tt;
}
