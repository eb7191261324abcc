-- The copy of the events that are taken of a log is a log of these events, whichever filter takes them.
use Rattle.std.specs.Prelude.{⊤}
use Rattle.std.proofs.Common.{◌≡◌, inl, inr, ℕ, ◌+◌, Bool, true, false, cond, ◌&&◌, ◌||◌, List, [], ◌∷◌, ◌++◌, map, Option, None, Result, Ok, Err, refl, sym, ap, subst, ◌∙◌, unwrap_or}
use Rattle.std.specs.Io.KnownBytes.{Appends}
use Rattle.std.proofs.KnownBytes.{Appends-nil, Appends-trans}
use Rattle.binlog_wire.specs.declared.error.Error.{Error}
use Rattle.binlog_wire.specs.declared.error.Error.TheVariants.{EventSizeTooSmall}
use Rattle.binlog_consts.specs.declared.version.BinlogVersion.TheVariants.{Version4}
use Rattle.binlog_event_format.specs.declared.format_description.FormatDescriptionEvent.{FormatDescriptionEvent}
use Rattle.binlog_event_format.specs.FormatDescription.{default_description}
use Rattle.binlog_events.specs.Frames.{is_undersized, stated_size}
use Rattle.binlog_events.specs.Events.{EventView}
use Rattle.binlog_events.specs.Parts.{is_description}
use Rattle.binlog_file.specs.Descriptions.{accepted, in_force}
use Rattle.binlog_file.specs.Items.{item_of}
use Rattle.binlog_file.specs.State.{Looks}
use Rattle.binlog_file.specs.Streams.{tail_items, AreHandled}
use Rattle.binlog_file.specs.StreamItems.{AreItems, items_behind}
use Rattle.binlog_file.proofs.OwnFrames.{event_is}
use Rattle.binlog_file.proofs.AcceptedDescriptions.{error_is_none}
use Rattle.binlog_file.proofs.StreamItems.{items_looked}
use Rattle.binlog_file.specs.TableMapsInForce.{TableMaps, no_table_maps}
use Rattle.binlog_visits.specs.TableMaps.{maps_behind}
use Rattle.binlog_visits.specs.Visits.{VisitRelation, Visits}
use Rattle.binlog_filters.specs.Taking.{with_taken, is_taken, meets_conditions}
use Rattle.binlog_filters.specs.declared.filter.Filter.{Filter}
use Rattle.binlog_filters.specs.CopiedParts.{ArePart, event_bytes}
use Rattle.binlog_filters.proofs.CopiedLogs.{copied_log}

-- ---- frames that aren't taken

no_description : (t b m : Bool) → t ≡ true → false ≡ ((t && b) || m) → b ≡ false
no_description true true m is out = absurd cc
no_description true false m is out = refl
no_description false b m is out = absurd cc

pub brings_none : (b : Bool) (found : Option FormatDescriptionEvent) (d : FormatDescriptionEvent) → b ≡ false → unwrap_or (cond b found None) d ≡ d
brings_none false found d is = refl
brings_none true found d is = absurd cc

-- An event that isn't taken, though all descriptions are, brings no description into force.
pub left_out : (d : FormatDescriptionEvent) (frame : List ℕ) (event : EventView) (filter : Filter) (start : Option ℕ) (wanted concerned : Bool) → item_of d frame ≡ Ok event
    → filter.is_for_copy ≡ true → false ≡ is_taken filter start event wanted concerned → unwrap_or (accepted frame) d ≡ d
left_out d frame event filter start wanted concerned item all out =
    let own : event.frame ≡ frame = ap (λ (e : EventView). e.frame) (event_is d frame event item).1 in
    let none = no_description filter.is_for_copy (is_description event.frame) (concerned && meets_conditions filter start event wanted) all out in
    brings_none (is_description frame) _ d (ap (λ (f : List ℕ). is_description f) (sym own) ∙ none)

-- ---- one item

-- What is written of an item, whether it is taken. An event that isn't brings no description into force.
abbrev pub CopiesTaken : Result EventView Error → Bool → Option (List ℕ) → Option (List ℕ) → Type 0
CopiesTaken (Ok event) true old new = Appends old new event.frame
CopiesTaken (Ok event) false old new = (new ≡ old) × ((d : FormatDescriptionEvent) (frame : List ℕ) → item_of d frame ≡ Ok event → unwrap_or (accepted frame) d ≡ d)
CopiesTaken (Err error) taken old new = new ≡ old

-- One item is copied: `contents` is what is written, and `takes` says which events are taken of items. The table maps are those in force
-- before the item.
pub record IsStep {F : Type 0} (contents : F → Option (List ℕ)) (is_for_copy : F → Type 0) (takes : F → TableMaps → List (Result EventView Error) → List EventView → Type 0)
    (old : F) (maps : TableMaps) (item : Result EventView Error) (new : F) : Type 0 where
  pub taken : Bool
  pub does : CopiesTaken item taken (contents old) (contents new)
  pub goes_on : (items : List (Result EventView Error)) (events others : List EventView) → events ≡ with_taken taken item others → takes new (maps_behind maps item) items others
      → takes old maps (item ∷ items) events
  pub for_copy : is_for_copy new

-- These items are errors.
abbrev AreErrors : List (Result EventView Error) → Type 0
AreErrors [] = ⊤
AreErrors (Ok event ∷ items) = ⊥
AreErrors (Err error ∷ items) = AreErrors items

tail_by : (is : Bool) (size : ℕ) → AreErrors (cond is (Err (EventSizeTooSmall size) ∷ []) [])
tail_by true size = tt
tail_by false size = tt

without_error : (taken : Bool) (error : Error) (others : List EventView) → others ≡ with_taken taken (Err error) others
without_error true error others = refl
without_error false error others = refl

-- ---- all items, of any filter

module _ {F : Type 0} (contents : F → Option (List ℕ)) (is_for_copy : F → Type 0) (takes : F → TableMaps → List (Result EventView Error) → List EventView → Type 0) (visits : VisitRelation F)
    (ends : (old : F) (maps : TableMaps) → takes old maps [] [])
    (step : (old : F) (maps : TableMaps) (index : ℕ) (item : Result EventView Error) (new : F) → is_for_copy old → visits old (maps_behind maps item) index item new
    → IsStep contents is_for_copy takes old maps item new) where
  -- The events that are taken of these items, and the bytes that are written of them.
  record IsCopied (d : FormatDescriptionEvent) (frames : List (List ℕ)) (old : F) (maps : TableMaps) (items : List (Result EventView Error)) (new : F) : Type 0 where
    events : List EventView
    part : ArePart d frames events
    taken : takes old maps items events
    written : Appends (contents old) (contents new) (event_bytes events)

  one_event : (taken : Bool) (d : FormatDescriptionEvent) (frame : List ℕ) (frames : List (List ℕ)) (event : EventView) (items : List (Result EventView Error)) (maps : TableMaps) (old mid new : F)
      → Ok event ≡ item_of d frame → CopiesTaken (Ok event) taken (contents old) (contents mid)
      → ((events others : List EventView) → events ≡ with_taken taken (Ok event) others → takes mid (maps_behind maps (Ok event)) items others → takes old maps (Ok event ∷ items) events)
      → IsCopied (unwrap_or (accepted frame) d) frames mid (maps_behind maps (Ok event)) items new → IsCopied d (frame ∷ frames) old maps (Ok event ∷ items) new
  one_event true d frame frames event items maps old mid new item does goes_on rest = record {
    events = event ∷ rest.events;
    part = inr (event, rest.events, refl, sym item, rest.part);
    taken = goes_on (event ∷ rest.events) rest.events refl rest.taken;
    written = Appends-trans (contents old) (contents mid) (contents new) event.frame (event_bytes rest.events) does rest.written;
  }
  one_event false d frame frames event items maps old mid new item does goes_on rest =
      let stays = does.1 d frame (sym item) in
      record {
        events = rest.events;
        part = inl (stays, subst (λ (x : FormatDescriptionEvent). ArePart x frames rest.events) stays rest.part);
        taken = goes_on rest.events rest.events refl rest.taken;
        written = subst (λ (w : Option (List ℕ)). Appends w (contents new) (event_bytes rest.events)) does.0 rest.written;
      }

  -- One more frame.
  one_frame : (d : FormatDescriptionEvent) (frame : List ℕ) (frames : List (List ℕ)) (item : Result EventView Error) (items : List (Result EventView Error)) (maps : TableMaps) (old mid new : F)
      → item ≡ item_of d frame → IsStep contents is_for_copy takes old maps item mid → IsCopied (unwrap_or (accepted frame) d) frames mid (maps_behind maps item) items new
      → IsCopied d (frame ∷ frames) old maps (item ∷ items) new
  one_frame d frame frames (Ok event) items maps old mid new item one rest = one_event one.taken d frame frames event items maps old mid new item one.does (one.goes_on items) rest
  one_frame d frame frames (Err error) items maps old mid new item one rest =
      let stays = ap (λ (found : Option FormatDescriptionEvent). unwrap_or found d) (error_is_none d frame error item) in
      record {
        events = rest.events;
        part = inl (stays, subst (λ (x : FormatDescriptionEvent). ArePart x frames rest.events) stays rest.part);
        taken = one.goes_on items rest.events rest.events (without_error one.taken error rest.events) rest.taken;
        written = subst (λ (w : Option (List ℕ)). Appends w (contents new) (event_bytes rest.events)) one.does rest.written;
      }

  copied_tail : (d : FormatDescriptionEvent) (items : List (Result EventView Error)) (maps : TableMaps) (index : ℕ) (old new : F) → AreErrors items → is_for_copy old
      → Visits visits maps index items old new → IsCopied d [] old maps items new
  copied_tail d [] maps index old new errors all visited = record {
    events = [];
    part = refl;
    taken = ends old maps;
    written = subst (λ (t : F). Appends (contents old) (contents t) []) (sym visited) (Appends-nil (contents old));
  }
  copied_tail d (Ok event ∷ items) maps index old new errors all visited = absurd errors
  copied_tail d (Err error ∷ items) maps index old new errors all visited =
      let one = step old maps index (Err error) visited.0 all visited.1 in
      let rest = copied_tail d items (maps_behind maps (Err error)) (index + 1) visited.0 new errors one.for_copy visited.2 in
      record {
        events = rest.events;
        part = rest.part;
        taken = one.goes_on items rest.events rest.events (without_error one.taken error rest.events) rest.taken;
        written = subst (λ (w : Option (List ℕ)). Appends w (contents new) (event_bytes rest.events)) one.does rest.written;
      }

  copied_frames : (d e : FormatDescriptionEvent) (frames : List (List ℕ)) (items tail : List (Result EventView Error)) (maps : TableMaps) (index : ℕ) (old new : F) → AreErrors tail
      → is_for_copy old → AreHandled Looks d e frames items → Visits visits maps index (items ++ tail) old new → IsCopied d frames old maps (items ++ tail) new
  copied_frames d e [] [] tail maps index old new errors all handled visited = copied_tail d tail maps index old new errors all visited
  copied_frames d e [] (item ∷ items) tail maps index old new errors all handled visited = absurd handled
  copied_frames d e (frame ∷ frames) [] tail maps index old new errors all handled visited = absurd handled
  copied_frames d e (frame ∷ frames) (item ∷ items) tail maps index old new errors all handled visited =
      let one = step old maps index item visited.0 all visited.1 in
      let behind_it = subst (λ (x : FormatDescriptionEvent). AreHandled Looks x e frames items) handled.1.1 handled.2 in
      let rest = copied_frames (unwrap_or (accepted frame) d) e frames items tail (maps_behind maps item) (index + 1) visited.0 new errors one.for_copy behind_it visited.2 in
      one_frame d frame frames item (items ++ tail) maps old visited.0 new handled.1.0 one rest

  -- The events that are taken of a log are a log.
  pub copied_items : (stream : List ℕ) (items : List (Result EventView Error)) (old new : F) → is_for_copy old → AreItems (default_description Version4) stream items
      → Visits visits no_table_maps 0 items old new
      → (events : List EventView) × takes old no_table_maps items events × Appends (contents old) (contents new) (event_bytes events)
      × AreItems (default_description Version4) (event_bytes events) (map Ok events)
  copied_items stream items old new all are visited =
      let d : FormatDescriptionEvent = default_description Version4 in
      let copied = copied_frames d (in_force d are.frames) are.frames (items_behind d [] are.frames) (tail_items are.tail) no_table_maps 0 old new (tail_by (is_undersized are.tail) (stated_size are.tail)) all
      (items_looked d are.frames) (subst (λ (l : List (Result EventView Error)). Visits visits no_table_maps 0 l old new) are.all visited) in (
        copied.events,
        subst (λ (l : List (Result EventView Error)). takes old no_table_maps l copied.events) (sym are.all) copied.taken,
        copied.written,
        copied_log d are.frames copied.events are.split.each copied.part,
      )
