-- What is written behind a log makes a log again.
use Rattle.std.proofs.Common.{◌≡◌, ℕ, ◌+◌, ◌-◌, ◌%◌, Bool, true, false, cond, List, [], ◌∷◌, ◌++◌, length, take, map, All, Option, Some, None, is_some, unwrap_or, Result, Ok, Err, refl, sym, ap, subst, ◌∙◌, append-nil, append_assoc, arith, lit<, inl, inr}
use Rattle.std.specs.Prelude.{◌&&◌, option_map}
use Rattle.std.specs.Global.{Vec}
use Rattle.std.specs.Io.KnownBytes.{Appends}
use Rattle.std.specs.List.{AllByRecursion, flat_map}
use Rattle.std.proofs.lemmas.Grind.{flat_map-append}
use Rattle.std.proofs.lemmas.List.{append_cancel_left, length-append, map-append}
use Rattle.std.proofs.lemmas.List.Elements.{All-nil, All-cons, All-append}
use Rattle.binlog_consts.specs.declared.event_type.EventType.TheVariants.{FORMAT_DESCRIPTION_EVENT}
use Rattle.binlog_consts.specs.declared.version.BinlogVersion.TheVariants.{Version4}
use Rattle.binlog_event_format.specs.Footers.{footer_of, has_checksums, version_text, default_footer}
use Rattle.binlog_event_format.specs.FormatDescription.{default_description, format_description, IsFormatDescription}
use Rattle.binlog_event_format.specs.Headers.{header_of}
use Rattle.binlog_event_format.specs.VersionSplit.{split_of}
use Rattle.binlog_event_format.specs.declared.footer.BinlogEventFooter.{BinlogEventFooter}
use Rattle.binlog_event_format.specs.declared.format_description.FormatDescriptionEvent.{FormatDescriptionEvent}
use Rattle.binlog_events.specs.Events.{EventView}
use Rattle.binlog_events.specs.FileHeader.{file_header}
use Rattle.binlog_events.specs.Frames.{IsFrame}
use Rattle.binlog_events.specs.Parts.{body, data_of, is_on}
use Rattle.binlog_file.proofs.AcceptedDescriptions.{other_is_none}
use Rattle.binlog_file.proofs.Splits.{one_split}
use Rattle.binlog_file.proofs.StreamItems.{in_force-last}
use Rattle.binlog_file.specs.Descriptions.{Describes, accepted, in_force}
use Rattle.binlog_file.specs.Streams.{tail_items}
use Rattle.binlog_file.specs.VerifiedFiles.{AreVerifiedBehind}
use Rattle.binlog_wire.specs.Reading.{Read}
use Rattle.binlog_wire.specs.declared.error.Error.{Error}
use Rattle.crc32_ieee.specs.Checksums.{IsCrc32}
use Rattle.binlog_undo.specs.declared.inverse_event.ForeignKeyChecks.{ForeignKeyChecks}
use Rattle.binlog_undo_index.specs.declared.places.ChangePlace.{ChangePlace}
use Rattle.binlog_undo_index.specs.declared.places.TransactionPlace.{TransactionPlace}
use Rattle.binlog_undo_log.proofs.LogEvents.{AreWhole, log_events, frames_in, are_frames, same_bytes}
use Rattle.binlog_undo_log.proofs.UndoLogs.{all_shown, no_description_yet, all_follow, source_footer}
use Rattle.binlog_undo_log.proofs.WrittenDescription.{written_version, sized, its_algorithm, is_enabled, read_again, is_accepted, description_verified}
use Rattle.binlog_undo_log.proofs.WrittenEvents.{CanFollow, data_is, is_plain}
use Rattle.binlog_undo_log.proofs.WrittenFrames.{written_header, written_frame}
use Rattle.binlog_undo_log.proofs.WrittenLogs.{frames_of, views_of, bytes_of, view_frames, size_of, position_of, headed, all_frames, all_verified, all_placed, all_read, due_under, nothing_left, log_of_nothing}
use Rattle.binlog_undo_log.specs.Descriptions.{algorithm_byte, written_description, description_body, description_heading, has_checksums_under, IsUnder}
use Rattle.binlog_undo_log.specs.Files.{IsDescribed, WritesDescribed, WritesIfAny}
use Rattle.binlog_undo_log.specs.GrowingLogs.{IsInForce, IsLogSoFar, IsDescribedBy, UndoFile, GrowsLog}
use Rattle.binlog_undo_log.specs.Heads.{is_writable}
use Rattle.binlog_undo_log.specs.Output.{place_behind, Pushes, shown, Grows}
use Rattle.binlog_undo_log.specs.Places.{FramesOf}
use Rattle.binlog_undo_log.specs.Undoing.{IsEventAt}
use Rattle.binlog_undo_log.specs.WholeLogs.{ArePlaced, IsLogOf, AreReadAs, IsNewLog}
use Rattle.binlog_undo_log.specs.declared.output.UndoOutput.{UndoOutput}
use Rattle.binlog_undo.specs.Events.{event_size, event_bytes, FitsHeader}
use Rattle.binlog_undo.specs.Transactions.{Event, events_bytes, AllFit}
use Rattle.binlog_undo.specs.declared.heading.Heading.{Heading}

-- ---- lists

verified_over : (start : FormatDescriptionEvent) (before frames : List (List ℕ)) (events : List EventView) (others : List (List ℕ)) (items : List (Result EventView Error))
    → AreVerifiedBehind IsCrc32 start before frames (map Ok events) → AreVerifiedBehind IsCrc32 start (before ++ frames) others items
    → AreVerifiedBehind IsCrc32 start before (frames ++ others) (map Ok events ++ items)
verified_over start before [] [] others items h k = subst (λ (b : List (List ℕ)). AreVerifiedBehind IsCrc32 start b others items) (append-nil before) k
verified_over start before [] (event ∷ events) others items h k = absurd h
verified_over start before (frame ∷ frames) [] others items h k = absurd h
verified_over start before (frame ∷ frames) (event ∷ events) others items h k = (
  h.0,
  verified_over start (before ++ frame ∷ []) frames events others items h.1
      (subst (λ (b : List (List ℕ)). AreVerifiedBehind IsCrc32 start b others items) (sym (append_assoc before (frame ∷ []) frames)) k),
)

placed_over : (place : ℕ) (events more : List EventView) → ArePlaced place events → ArePlaced (place + length (flat_map (λ (event : EventView). event.frame) events)) more
    → ArePlaced place (events ++ more)
placed_over place [] more h k = subst (λ (p : ℕ). ArePlaced p more) (omega arith) k
placed_over place (event ∷ events) more h k = (
  h.0,
  placed_over (place + length event.frame) events more h.1
      (subst (λ (p : ℕ). ArePlaced p more) (omega (arith, length-append event.frame (flat_map (λ (e : EventView). e.frame) events))) k),
)

-- ---- a log that grows by events

module _ (events : List EventView) (bytes : List ℕ) (log : IsLogOf events bytes) where
  abbrev start : FormatDescriptionEvent
  start = default_description Version4

  split : flat_map (λ (frame : List ℕ). frame) log.are.frames ++ log.are.tail ≡ flat_map (λ (frame : List ℕ). frame) (frames_in events) ++ []
  split = sym log.are.split.whole ∙ log.whole ∙ same_bytes events ∙ sym (append-nil _)

  one : (log.are.frames ≡ frames_in events) × (log.are.tail ≡ [])
  one = one_split log.are.frames (frames_in events) log.are.tail [] split log.are.split.each (are_frames events (log_events events bytes log)) log.are.split.end nothing_left

  its_items : AreVerifiedBehind IsCrc32 start [] (frames_in events) (map Ok events)
  its_items =
      let given : ◌≡◌ {A = List (Result EventView Error)} log.are.given (map Ok events) =
      sym (append-nil log.are.given) ∙ ap (λ (t : List ℕ). log.are.given ++ tail_items t) (sym one.1) ∙ sym log.are.all in
      subst (λ (g : List (Result EventView Error)). AreVerifiedBehind IsCrc32 start [] (frames_in events) g) given
      (subst (λ (f : List (List ℕ)). AreVerifiedBehind IsCrc32 start [] f log.are.given) one.0 log.are.each)

  pub log_more : (more : List EventView) → All IsFrame (frames_in more) → AreVerifiedBehind IsCrc32 start (frames_in events) (frames_in more) (map Ok more) → ArePlaced (length bytes) more
      → IsLogOf (events ++ more) (bytes ++ flat_map (λ (event : EventView). event.frame) more)
  log_more more frames verified placed =
      let own : List EventView → List ℕ = λ views. flat_map (λ (view : EventView). view.frame) views in
      let stream : List ℕ = log.stream ++ own more in
      let whole : stream ≡ own (events ++ more) = ap (λ (s : List ℕ). s ++ own more) log.whole ∙ sym (flat_map-append (λ (view : EventView). view.frame) events more) in
      let all_frames : frames_in (events ++ more) ≡ frames_in events ++ frames_in more = map-append (λ (view : EventView). view.frame) events more in
      let items : map Ok (events ++ more) ≡ map Ok events ++ map Ok more = map-append Ok events more in
      let each : AreVerifiedBehind IsCrc32 start [] (frames_in events ++ frames_in more) (map Ok events ++ map Ok more) =
      verified_over start [] (frames_in events) events (frames_in more) (map Ok more) its_items verified in
      let long : length bytes ≡ 4 + length (own events) =
      ap length (log.file ∙ ap (λ (s : List ℕ). file_header ++ s) log.whole) ∙ length-append file_header (own events) in
      record {
        stream = stream;
        file = ap (λ (s : List ℕ). s ++ own more) log.file ∙ append_assoc file_header log.stream (own more);
        whole = whole;
        are = record {
          frames = frames_in events ++ frames_in more;
          tail = [];
          split = record {
            whole = whole ∙ same_bytes (events ++ more) ∙ ap (flat_map (λ (frame : List ℕ). frame)) all_frames ∙ sym (append-nil _);
            each = All-append IsFrame (frames_in events) (frames_in more) (are_frames events (log_events events bytes log)) frames;
            end = nothing_left;
          };
          given = map Ok events ++ map Ok more;
          each = each;
          all = items ∙ sym (append-nil _);
        };
        placed = placed_over 4 events more log.placed (subst (λ (p : ℕ). ArePlaced p more) long placed);
      }

-- ---- descriptions with one body

stated : (has : Bool) (number : ℕ) (algorithm : Option ℕ) → algorithm ≡ cond has (Some number) None → is_some algorithm ≡ has
stated true number algorithm is = ap is_some is
stated false number algorithm is = ap is_some is

byte_length : (algorithm : Option ℕ) → length (algorithm_byte algorithm) ≡ cond (is_some algorithm) 1 0
byte_length None = refl
byte_length (Some number) = refl

one_byte : (a b : Option ℕ) → algorithm_byte a ≡ algorithm_byte b → a ≡ b
one_byte None None is = refl
one_byte None (Some b) is = absurd cc
one_byte (Some a) None is = absurd cc
one_byte (Some a) (Some b) is = let same : a ≡ b = cc in ap (λ (n : ℕ). Some n) same

its_value : (x y : FormatDescriptionEvent) → ◌≡◌ {A = Read FormatDescriptionEvent} (Ok (x, [])) (Ok (y, [])) → x ≡ y
its_value x y is =
    let both : ◌≡◌ {A = FormatDescriptionEvent × List ℕ} (x, []) (y, []) = cc in
    ap (λ (p : FormatDescriptionEvent × List ℕ). p.0) both

module _ (d e : FormatDescriptionEvent) (source other : List ℕ) (h : Describes source d) (k : Describes other e) (same : description_body d ≡ description_body e) where
  text_of : (x : FormatDescriptionEvent) (s : List ℕ) → (x_is : Describes s x) → version_text (description_body x) ≡ take 49 x.server_version
  text_of x s x_is = (written_version (written_description x) (algorithm_byte x.footer.checksum_alg) (sized x x_is.found s x_is.spelled x_is.is)).text

  states : (x : FormatDescriptionEvent) (s : List ℕ) → (x_is : Describes s x) → is_some x.footer.checksum_alg ≡ has_checksums (split_of (version_text (description_body x)))
  states x s x_is =
      stated (has_checksums (split_of (take 49 x.server_version))) _ x.footer.checksum_alg (its_algorithm x x_is.found s x_is.spelled x_is.is)
      ∙ ap (λ (t : List ℕ). has_checksums (split_of t)) (sym (text_of x s x_is))

  abbrev bare : FormatDescriptionEvent → List ℕ
  bare x = format_description.written (written_description x)

  abbrev byte : FormatDescriptionEvent → List ℕ
  byte x = algorithm_byte x.footer.checksum_alg

  same_length : length (byte d) ≡ length (byte e)
  same_length =
      byte_length d.footer.checksum_alg
      ∙ ap (λ (b : Bool). cond b 1 0) (states d source h ∙ ap (λ (s : List ℕ). has_checksums (split_of (version_text s))) same ∙ sym (states e other k))
      ∙ sym (byte_length e.footer.checksum_alg)

  same_bare : bare d ≡ bare e
  same_bare =
      let front : List ℕ → ℕ → List ℕ = λ s n. take (length s - n) s in
      sym (data_is (description_body d) (bare d) (byte d) (length (byte d)) refl refl) ∙ ap (λ (s : List ℕ). front s (length (byte d))) same
      ∙ ap (front (description_body e)) same_length ∙ data_is (description_body e) (bare e) (byte e) (length (byte e)) refl refl

  same_algorithm : d.footer.checksum_alg ≡ e.footer.checksum_alg
  same_algorithm =
      one_byte d.footer.checksum_alg e.footer.checksum_alg (append_cancel_left (bare e) (byte d) (byte e) (ap (λ (s : List ℕ). s ++ byte d) (sym same_bare) ∙ same))

  same_footer : d.footer ≡ e.footer
  same_footer =
      let footer : Option ℕ → Bool → BinlogEventFooter = λ algorithm enabled. record { checksum_alg = algorithm; checksum_enabled = enabled } in
      ap (λ (a : Option ℕ). footer a d.footer.checksum_enabled) same_algorithm
      ∙ ap (footer e.footer.checksum_alg) (is_enabled d h.found source h.spelled h.is ∙ sym (is_enabled e k.found other k.spelled k.is))

  abbrev without : FormatDescriptionEvent → FormatDescriptionEvent
  without x = record (written_description x) { footer = default_footer }

  same_read : without d ≡ without e
  same_read =
      let both : ◌≡◌ {A = Read FormatDescriptionEvent} (Ok (without d, [])) (Ok (without e, [])) =
      sym (read_again d h.found source h.spelled h.is) ∙ ap format_description.reads same_bare ∙ read_again e k.found other k.spelled k.is in
      its_value (without d) (without e) both

  pub same_written : written_description d ≡ written_description e
  same_written =
      ap (λ (x : FormatDescriptionEvent). let y : FormatDescriptionEvent = record x { footer = d.footer } in y) same_read
      ∙ ap (λ (f : BinlogEventFooter). let y : FormatDescriptionEvent = record (written_description e) { footer = f } in y) same_footer

-- ---- what is written

frames_of_views : (d : FormatDescriptionEvent) (frames : List (List ℕ)) → frames_in (views_of d frames) ≡ frames
frames_of_views d [] = refl
frames_of_views d (frame ∷ frames) = ap (λ (f : List (List ℕ)). frame ∷ f) (frames_of_views d frames)

known : (old new : Option (List ℕ)) (bytes s : List ℕ) → old ≡ Some bytes → Appends old new s → new ≡ Some (bytes ++ s)
known None new bytes s is h = absurd cc
known (Some xs) None bytes s is h = absurd h
known (Some xs) (Some ys) bytes s is h =
    let same : xs ≡ bytes = cc in
    ap (λ (l : List ℕ). Some l) (h ∙ ap (λ (l : List ℕ). l ++ s) same)

-- The length of the bytes of events.
module _ (d : FormatDescriptionEvent) (has : Bool) (due : (d.footer.checksum_enabled && is_on d.footer.checksum_alg) ≡ has) where
  place_is : (place : ℕ) (events : List Event) → AllFit has place events → AllByRecursion (CanFollow d) events → place_behind has place events ≡ place + length (events_bytes has place events)
  place_is place [] fit can = omega arith
  place_is place (event ∷ events) fit can =
      let frame : List ℕ = event_bytes has place event.heading event.event_type event.body in
      let next : ℕ = place + event_size has event.body in
      omega (
        arith,
        place_is next events fit.1 can.1,
        size_of has place event (headed d has due place event fit.0 can.0),
        length-append frame (events_bytes has next events),
      )

  still_in_force : (start : FormatDescriptionEvent) (before : List (List ℕ)) (place : ℕ) (events : List Event) → in_force start before ≡ d → AllFit has place events
      → AllByRecursion (CanFollow d) events → in_force start (before ++ frames_of has place events) ≡ d
  still_in_force start before place [] now fit can = ap (in_force start) (append-nil before) ∙ now
  still_in_force start before place (event ∷ events) now fit can =
      let frame : List ℕ = event_bytes has place event.heading event.event_type event.body in
      let frames : List (List ℕ) = frames_of has (place + event_size has event.body) events in
      let none =
      other_is_none frame (is_plain d has place event.heading event.event_type event.body due can.0.no_description (headed d has due place event fit.0 can.0)) in
      let next : in_force start (before ++ frame ∷ []) ≡ d =
      in_force-last start before frame ∙ ap (λ (o : Option FormatDescriptionEvent). unwrap_or o (in_force start before)) none ∙ now in
      ap (in_force start) (sym (append_assoc before (frame ∷ []) frames)) ∙ still_in_force start (before ++ frame ∷ []) (place + event_size has event.body) events next fit.1 can.1

-- What is known of the log that the output has.
pub record HasLog {W : Type 0} (contents : W → Option (List ℕ)) (events : List EventView) (d : FormatDescriptionEvent) (output : UndoOutput W) : Type 0 where
  pub bytes : List ℕ
  pub has : contents output.writer ≡ Some bytes
  pub log : IsLogOf events bytes
  pub place : output.place ≡ length bytes
  pub bounds : output.has_bounds ≡ true
  pub is : in_force (default_description Version4) (frames_in events) ≡ d

module _ {W : Type 0} (contents : W → Option (List ℕ)) (d found : FormatDescriptionEvent) (source : List ℕ)
    (spelled : IsFormatDescription (data_of (footer_of (body source)) source) found []) (is : d ≡ record found { footer = footer_of (body source) }) (writable : is_writable d ≡ true)
    (events : List EventView) where
  abbrev under : FormatDescriptionEvent
  under = written_description d

  abbrev checked : Bool
  checked = has_checksums_under d.footer.checksum_alg

  -- Events under the description are written.
  events_more : (written : List Event) (old new : UndoOutput W) → HasLog contents events under old → old.has_checksums ≡ checked → AllByRecursion (CanFollow under) written
      → Grows contents written old new → (views : List EventView) × AreReadAs under written views × HasLog contents (events ++ views) under new
  events_more written old new h checksums can grows =
      let due : (under.footer.checksum_enabled && is_on under.footer.checksum_alg) ≡ checked = due_under d writable (is_enabled d found source spelled is) in
      let pushes : Pushes contents written old new =
      subst (λ (e : List Event). Pushes contents e old new) (all_shown written) (subst (λ (b : Bool). Pushes contents (shown b written) old new) h.bounds grows) in
      let place : ℕ = length h.bytes in
      let fit : AllFit checked place written =
      subst (λ (b : Bool). AllFit b place written) checksums (subst (λ (p : ℕ). AllFit old.has_checksums p written) h.place pushes.fit) in
      let frames : List (List ℕ) = frames_of checked place written in
      let views : List EventView = views_of under frames in
      let same : frames_in views ≡ frames = frames_of_views under frames in
      let all : All IsFrame frames = all_frames under checked due place written fit can in
      let verified : AreVerifiedBehind IsCrc32 (default_description Version4) (frames_in events) frames (map Ok views) =
      all_verified under checked due (default_description Version4) (frames_in events) place written h.is fit can in
      let log : IsLogOf (events ++ views) (h.bytes ++ flat_map (λ (view : EventView). view.frame) views) =
      log_more events h.bytes h.log views (subst (λ (f : List (List ℕ)). All IsFrame f) (sym same) all)
      (subst (λ (f : List (List ℕ)). AreVerifiedBehind IsCrc32 (default_description Version4) (frames_in events) f (map Ok views)) (sym same) verified)
      (all_placed under checked due place written fit can) in
      let bytes : flat_map (λ (view : EventView). view.frame) views ≡ events_bytes checked place written = view_frames under frames ∙ sym (bytes_of checked place written) in
      let pushed : events_bytes old.has_checksums old.place written ≡ events_bytes checked place written =
      ap (λ (b : Bool). events_bytes b old.place written) checksums ∙ ap (λ (p : ℕ). events_bytes checked p written) h.place in (
        views,
        all_read under checked due place written fit can,
        record {
          bytes = h.bytes ++ events_bytes checked place written;
          has = known (contents old.writer) (contents new.writer) h.bytes (events_bytes checked place written) h.has
              (subst (λ (s : List ℕ). Appends (contents old.writer) (contents new.writer) s) pushed pushes.bytes);
          log = subst (λ (s : List ℕ). IsLogOf (events ++ views) (h.bytes ++ s)) bytes log;
          place = pushes.place ∙ ap (λ (b : Bool). place_behind b old.place written) checksums ∙ ap (λ (p : ℕ). place_behind checked p written) h.place
              ∙ place_is under checked due place written fit can ∙ sym (length-append h.bytes (events_bytes checked place written));
          bounds = pushes.bounds ∙ h.bounds;
          is = ap (λ (f : List (List ℕ)). in_force (default_description Version4) f) (map-append (λ (view : EventView). view.frame) events views)
              ∙ ap (λ (f : List (List ℕ)). in_force (default_description Version4) (frames_in events ++ f)) same
              ∙ still_in_force under checked due (default_description Version4) (frames_in events) place written h.is fit can;
        },
      )

  -- The description is written.
  description_more : (heading : Heading) (old new : UndoOutput W) (bytes : List ℕ) → contents old.writer ≡ Some bytes → IsLogOf events bytes → old.place ≡ length bytes → heading.flags % 2 ≡ 0
      → FitsHeader (is_some d.footer.checksum_alg) old.place heading (description_body d)
      → Appends (contents old.writer) (contents new.writer) (event_bytes (is_some d.footer.checksum_alg) old.place heading FORMAT_DESCRIPTION_EVENT (description_body d))
      → new.place ≡ old.place + event_size (is_some d.footer.checksum_alg) (description_body d) → new.has_bounds ≡ true
      → (view : EventView) × (accepted view.frame ≡ Some under) × HasLog contents (events ++ view ∷ []) under new
  description_more heading old new bytes has log at even fit appends behind bounds =
      let start : FormatDescriptionEvent = default_description Version4 in
      let first_has : Bool = is_some d.footer.checksum_alg in
      let place : ℕ = length bytes in
      let written : List ℕ = description_body d in
      let fits : FitsHeader first_has place heading written = subst (λ (p : ℕ). FitsHeader first_has p heading written) at fit in
      let h = written_header first_has place heading FORMAT_DESCRIPTION_EVENT written fits (lit< tt) in
      let frame : List ℕ = event_bytes first_has place heading FORMAT_DESCRIPTION_EVENT written in
      let first : Event = record { heading = heading; event_type = FORMAT_DESCRIPTION_EVENT; body = written } in
      let now : FormatDescriptionEvent = in_force start (frames_in events) in
      let view : EventView = record { fde = record now { footer = d.footer }; frame = frame } in
      let accepts : accepted frame ≡ Some under = is_accepted d found source spelled is place heading h in
      let whole : All IsFrame (frame ∷ []) = All-cons IsFrame frame [] (written_frame first_has place heading FORMAT_DESCRIPTION_EVENT written h) (All-nil IsFrame) in
      let more : IsLogOf (events ++ view ∷ []) (bytes ++ (frame ++ [])) =
      log_more events bytes log (view ∷ []) whole (description_verified d found source spelled is place heading h now even, tt) (position_of first_has place first h, tt) in
      let same : event_bytes first_has old.place heading FORMAT_DESCRIPTION_EVENT written ≡ frame = ap (λ (p : ℕ). event_bytes first_has p heading FORMAT_DESCRIPTION_EVENT written) at in (
        view,
        accepts,
        record {
          bytes = bytes ++ frame;
          has = known (contents old.writer) (contents new.writer) bytes frame has (subst (λ (s : List ℕ). Appends (contents old.writer) (contents new.writer) s) same appends);
          log = subst (λ (s : List ℕ). IsLogOf (events ++ view ∷ []) (bytes ++ s)) (append-nil frame) more;
          place = behind ∙ ap (λ (p : ℕ). p + event_size first_has written) at ∙ omega (arith, size_of first_has place first h, length-append bytes frame);
          bounds = bounds;
          is = ap (λ (f : List (List ℕ)). in_force start f) (map-append (λ (v : EventView). v.frame) events (view ∷ []))
              ∙ in_force-last start (frames_in events) frame ∙ ap (λ (o : Option FormatDescriptionEvent). unwrap_or o now) accepts;
        },
      )

-- ---- a file

source_describes : (place : ℕ) (is_at : FramesOf) (event : EventView) (d : FormatDescriptionEvent) → IsEventAt is_at (default_description Version4) place event → IsDescribed event d
    → Describes event.frame d
source_describes place is_at event d at h =
    let footer : event.fde.footer ≡ footer_of (body event.frame) = source_footer event (default_description Version4) at.frame at.is h.is in
    record {
      type = h.is;
      found = h.body;
      spelled = subst (λ (f : BinlogEventFooter). IsFormatDescription (data_of f event.frame) h.body []) footer h.spelled;
      is = h.footer ∙ ap (λ (f : BinlogEventFooter). let x : FormatDescriptionEvent = record h.body { footer = f } in x) footer;
    }

still_under : {W : Type 0} (contents : W → Option (List ℕ)) (written : List Event) (old new : UndoOutput W) (content : List ℕ) (has : Bool) → IsUnder content has old
    → Grows contents written old new → IsUnder content has new
still_under contents written old new content has under grows = record {
  body_is = ap (option_map (λ (bytes : Vec ℕ). bytes.items)) grows.description ∙ under.body_is;
  checksums = grows.checksums ∙ under.checksums;
}

one_body : (found : Option (Vec ℕ)) (written other : List ℕ) → option_map (λ bytes. bytes.items) found ≡ Some written → option_map (λ bytes. bytes.items) found ≡ Some other → written ≡ other
one_body found written other is also = let both : Some written ≡ Some other = sym is ∙ also in cc

-- The new log, which has no event so far.
pub new_so_far : {W : Type 0} (contents : W → Option (List ℕ)) (output : UndoOutput W) → IsNewLog contents output → IsLogSoFar contents [] output
new_so_far contents output h = record { bytes = file_header; has = h.bytes; log = log_of_nothing; place = h.place; bounds = h.bounds; description = inl (refl, h.description) }

module _ {W : Type 0} (contents : W → Option (List ℕ)) (is_at : FramesOf) (checks : ForeignKeyChecks) (place : ℕ) (transaction : TransactionPlace) (transactions : List TransactionPlace)
    (changes : List ChangePlace) (events : List EventView) (old new : UndoOutput W) (so_far : IsLogSoFar contents events old)
    (h : WritesDescribed contents is_at checks place (transaction ∷ transactions) changes old new) where
  abbrev d : FormatDescriptionEvent
  d = h.d

  describes : Describes h.event.frame d
  describes = source_describes place is_at h.event d h.event_at h.described

  follow : AllByRecursion (CanFollow (written_description d)) h.undoes.0
  follow = all_follow d is_at checks (transaction ∷ transactions) changes h.undoes.0 h.undoes.1

  -- Behind its description.
  behind_it : (description : List EventView) (now : List EventView) → IsDescribedBy (written_description d) description → now ≡ events ++ description
      → HasLog contents now (written_description d) h.between → IsUnder (description_body d) (has_checksums_under d.footer.checksum_alg) h.between
      → GrowsLog contents is_at checks (transaction ∷ transactions) changes events new
  behind_it description now described split log under =
      let more = events_more contents d describes.found h.event.frame describes.spelled describes.is h.described.writable now h.undoes.0 h.between new log under.checksums follow h.undoes.2 in
      let all : now ++ more.0 ≡ events ++ (description ++ more.0) = ap (λ (e : List EventView). e ++ more.0) split ∙ append_assoc events description more.0 in
      let last : HasLog contents (events ++ (description ++ more.0)) (written_description d) new = subst (λ (e : List EventView). HasLog contents e (written_description d) new) all more.2 in (
        description ++ more.0,
        record { d = d; written = h.undoes.0; undoes = h.undoes.1; description = description; described = described; others = more.0; are = more.1; all = refl },
        record {
          bytes = last.bytes;
          has = last.has;
          log = last.log;
          place = last.place;
          bounds = last.bounds;
          description = inr (
            d,
            record { frame = h.event.frame; describes = describes; is = last.is },
            still_under contents h.undoes.0 h.between new (description_body d)
                (has_checksums_under d.footer.checksum_alg) under h.undoes.2,
          );
        },
      )

  pub file_more : GrowsLog contents is_at checks (transaction ∷ transactions) changes events new
  file_more = elim h.describes [
    | inl same ↦ elim so_far.description [
      | inl none ↦ absurd (no_description_yet old.description (description_body d) none.1 same.0.body_is)
      | inr there ↦
          let under : written_description there.0 ≡ written_description d =
          same_written there.0 d there.1.frame h.event.frame there.1.describes describes
          (one_body old.description (description_body there.0) (description_body d) there.2.body_is same.0.body_is) in
          let log : HasLog contents events (written_description d) old =
          record { bytes = so_far.bytes; has = so_far.has; log = so_far.log; place = so_far.place; bounds = so_far.bounds; is = there.1.is ∙ under } in
          behind_it [] events tt (sym (append-nil events)) (subst (λ (o : UndoOutput W). HasLog contents events (written_description d) o) (sym same.1) log)
          (subst (λ (o : UndoOutput W). IsUnder (description_body d) (has_checksums_under d.footer.checksum_alg) o) (sym same.1) same.0)
    ]
    | inr pushed ↦
        let more = description_more contents d describes.found h.event.frame describes.spelled describes.is h.described.writable events (description_heading (header_of h.event.frame)) old h.between
        so_far.bytes so_far.has so_far.log so_far.place refl pushed.written.fits pushed.written.bytes pushed.written.place (pushed.bounds ∙ so_far.bounds) in
        behind_it (more.0 ∷ []) (events ++ more.0 ∷ []) (more.1, refl) refl more.2 pushed.is_under
  ]

-- What undoes a file is written behind the log, which is a log again.
pub log_grows : {W : Type 0} (contents : W → Option (List ℕ)) (is_at : FramesOf) (checks : ForeignKeyChecks) (place : Option ℕ) (transactions : List TransactionPlace) (changes : List ChangePlace)
    (events : List EventView) (old new : UndoOutput W) → IsLogSoFar contents events old → WritesIfAny contents is_at checks place transactions changes old new
    → GrowsLog contents is_at checks transactions changes events new
log_grows contents is_at checks place [] changes events old new so_far h =
    let same : IsLogSoFar contents events new = subst (λ (o : UndoOutput _). IsLogSoFar contents events o) (sym h) so_far in
    ([], refl, subst (λ (e : List EventView). IsLogSoFar contents e new) (sym (append-nil events)) same)
log_grows contents is_at checks None (transaction ∷ transactions) changes events old new so_far h = absurd h
log_grows contents is_at checks (Some place) (transaction ∷ transactions) changes events old new so_far h = file_more contents is_at checks place transaction transactions changes events old new so_far h
