-- The events of a log that is read without a refusal.
use Rattle.std.proofs.Common.{◌≡◌, ℕ, ◌+◌, ◌-◌, List, [], ◌∷◌, ◌++◌, map, All, Option, Some, Result, Ok, Err, refl, sym, ap, subst, ◌∙◌, append-nil, inl, inr}
use Rattle.std.specs.List.{AllByRecursion, flat_map}
use Rattle.std.proofs.lemmas.List.{append_cancel_left}
use Rattle.std.proofs.lemmas.List.Elements.{All-nil, All-cons, All-head, All-tail}
use Rattle.binlog_consts.specs.declared.version.BinlogVersion.TheVariants.{Version4}
use Rattle.binlog_event_format.specs.FormatDescription.{default_description}
use Rattle.binlog_event_format.specs.declared.format_description.FormatDescriptionEvent.{FormatDescriptionEvent}
use Rattle.binlog_events.specs.Events.{EventView, IsEvent}
use Rattle.binlog_events.specs.FileHeader.{file_header}
use Rattle.binlog_events.specs.Frames.{IsFrame, is_undersized, stated_size}
use Rattle.binlog_file.proofs.OwnFrames.{gives_own_frames}
use Rattle.binlog_file.proofs.Splits.{one_split}
use Rattle.binlog_file.proofs.VerifiedItems.{one_list_of_items}
use Rattle.binlog_file.specs.Descriptions.{in_force}
use Rattle.binlog_file.specs.State.{StreamState, behind}
use Rattle.binlog_file.specs.Streams.{tail_items}
use Rattle.binlog_file.specs.TableMapsInForce.{no_table_maps}
use Rattle.binlog_file.specs.Tails.{HasTail, told_of}
use Rattle.binlog_file.specs.VerifiedFiles.{right_frame, IsVerifiedItem, AreVerifiedBehind, AreVerifiedItems}
use Rattle.binlog_undo_log.proofs.Placed.{tail_is_no_event}
use Rattle.binlog_undo_log.proofs.WrittenLogs.{nothing_left}
use Rattle.binlog_undo_log.specs.WholeLogs.{IsLogOf}
use Rattle.binlog_wire.specs.declared.error.Error.{Error}
use Rattle.binlog_wire.specs.declared.error.Error.TheVariants as errors
use Rattle.crc32_ieee.specs.Checksums.{IsCrc32}

abbrev pub AreWhole : List EventView → Type 0
AreWhole events = AllByRecursion (λ (event : EventView). IsEvent event.fde event.frame) events

verified_event : (d : FormatDescriptionEvent) (frame : List ℕ) (item : Result EventView Error) (event : EventView) → IsFrame frame → IsVerifiedItem IsCrc32 d frame item → item ≡ Ok event
    → IsEvent event.fde event.frame
verified_event d frame item event is (inl h) ok =
    let state : StreamState = record { fde = d; table_maps = no_table_maps } in (gives_own_frames state (behind state frame) frame event is (sym ok ∙ h.1, refl)).1
verified_event d frame item event is (inr h) ok =
    let other : item ≡ Err (errors.ChecksumMismatch h.0 h.1) = h.3 in absurd cc

pub whole_events : (start : FormatDescriptionEvent) (before frames : List (List ℕ)) (given : List (Result EventView Error)) (tail : List ℕ) (events : List EventView)
    → AreVerifiedBehind IsCrc32 start before frames given → ◌≡◌ {A = List (Result EventView Error)} (map Ok events) (given ++ tail_items tail) → All IsFrame frames → AreWhole events
whole_events start before frames given tail [] are is each = tt
whole_events start before [] [] tail (event ∷ events) are is each = absurd (tail_is_no_event (is_undersized tail) (stated_size tail) (Ok event) event (map Ok events) (sym is) refl)
whole_events start before [] (item ∷ given) tail (event ∷ events) are is each = absurd are
whole_events start before (frame ∷ frames) [] tail (event ∷ events) are is each = absurd are
whole_events start before (frame ∷ frames) (item ∷ given) tail (event ∷ events) are is each =
    let one : item ≡ Ok event = cc in
    let rest : ◌≡◌ {A = List (Result EventView Error)} (map Ok events) (given ++ tail_items tail) = cc in (
      verified_event (in_force start before) frame item event (All-head IsFrame frame frames each) are.0 one,
      whole_events start (before ++ right_frame frame item) frames given tail events are.1 rest (All-tail IsFrame frame frames each),
    )

pub log_events : (events : List EventView) (bytes : List ℕ) → IsLogOf events bytes → AreWhole events
log_events events bytes h = whole_events (default_description Version4) [] h.are.frames h.are.given h.are.tail events h.are.each h.are.all h.are.split.each

abbrev pub frames_in : List EventView → List (List ℕ)
frames_in events = map (λ (event : EventView). event.frame) events

pub are_frames : (events : List EventView) → AreWhole events → All IsFrame (frames_in events)
are_frames [] h = All-nil IsFrame
are_frames (event ∷ events) h = All-cons IsFrame event.frame (frames_in events) h.0.whole (are_frames events h.1)

pub same_bytes : (events : List EventView) → flat_map (λ (event : EventView). event.frame) events ≡ flat_map (λ (frame : List ℕ). frame) (frames_in events)
same_bytes [] = refl
same_bytes (event ∷ events) = ap (λ (s : List ℕ). event.frame ++ s) (same_bytes events)

-- Nothing is behind them.
pub no_tail : (events : List EventView) (bytes : List ℕ) (tail_len : Option ℕ) (log : IsLogOf events bytes) → HasTail log.stream tail_len → tail_len ≡ Some 0
no_tail events bytes tail_len log h =
    let split : flat_map (λ (frame : List ℕ). frame) h.frames ++ h.tail ≡ flat_map (λ (frame : List ℕ). frame) (frames_in events) ++ [] =
    sym h.split.whole ∙ log.whole ∙ same_bytes events ∙ sym (append-nil _) in
    let none : h.tail ≡ [] = (one_split h.frames (frames_in events) h.tail [] split h.split.each (are_frames events (log_events events bytes log)) h.split.end nothing_left).1 in
    h.told ∙ ap told_of none

-- The items of the log are these.
pub one_list : (events : List EventView) (bytes stream : List ℕ) (items : List (Result EventView Error)) → (log : IsLogOf events bytes) → bytes ≡ file_header ++ stream
    → AreVerifiedItems IsCrc32 (default_description Version4) stream items → (items ≡ map Ok events) × (stream ≡ log.stream)
one_list events bytes stream items log file are =
    let same : stream ≡ log.stream = append_cancel_left file_header stream log.stream (sym file ∙ log.file) in (
      one_list_of_items IsCrc32 (default_description Version4) log.stream items (map Ok events) (λ s x y p q. p ∙ sym q)
          (subst (λ (s : List ℕ). AreVerifiedItems IsCrc32 (default_description Version4) s items) same are) log.are,
      same,
    )
