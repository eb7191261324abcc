-- What a visitor has visited of a content so far, its next step, and the results.
use Rattle.std.proofs.Common.{◌≡◌, inl, inr, ℕ, ◌+◌, ◌-◌, ◌^◌, ◌<◌, ◌≤◌, Bool, true, false, List, [], ◌∷◌, ◌++◌, length, Option, Some, None, Result, Ok, Err, OnOk, IfErr, refl, sym, ap, subst, ◌∙◌, arith, append-nil, length-append}
use Rattle.binlog_ends.specs.Counts.{FailureCount}
use Rattle.binlog_wire.specs.declared.error.Error.{Error}
use Rattle.binlog_wire.specs.declared.error.Error.TheVariants.{Memory}
use Rattle.binlog_event_format.specs.declared.format_description.FormatDescriptionEvent.{FormatDescriptionEvent}
use Rattle.binlog_events.specs.Events.{EventView}
use Rattle.binlog_file.specs.Items.{checked_event}
use Rattle.binlog_file.specs.TableMapsInForce.{TableMaps, no_table_maps}
use Rattle.binlog_visits.specs.KnownCounts.{CountsKnown}
use Rattle.binlog_visits.specs.Visits.{VisitRelation, RefusalRelation, IsNoReaderError}
use Rattle.binlog_visits.proofs.Counting.{known_ok, known_err}
use Rattle.binlog_payloads.specs.declared.error.PayloadError.{PayloadError}
use Rattle.binlog_payloads.specs.declared.error.PayloadError.TheVariants as errors
use Rattle.binlog_payloads.specs.Results.{Refused}
use Rattle.binlog_payloads.specs.declared.inner.TransactionPayloadReader.{TransactionPayloadReader}
use Rattle.binlog_payloads.specs.Contents.{content_of}
use Rattle.binlog_payloads.specs.Events.{payload_in}
use Rattle.binlog_payloads.specs.Fields.{Payload}
use Rattle.binlog_payloads.specs.InnerEvents.{left_len, reader_fde}
use Rattle.binlog_payload_visits.specs.Parts.{Part, AreContentParts, AreParts, AreUnpackedParts, ArePayloadParts, HasPayload, IsRefusal, part_of, maps_behind_part, maps_after_parts}
use Rattle.binlog_payload_visits.specs.PartVisits.{PartVisitRelation, PartRefusalRelation, VisitsParts, VisitsAll, LacksMemory, RefusesPart, StopsInside, VisitsPartsOf, VisitsSpliced, RefusesSpliced}
use Rattle.binlog_payload_visits.specs.PartMaps.{Follows}
use Rattle.binlog_payload_visits.specs.Stepping.{LeavesParts, LeftParts, NextPart, VisitsPart, StepsParts, answered, is_memory}
use Rattle.binlog_payload_visits.proofs.PartLists.{some_left, some_unpacked}

pub maps_after-more : (maps : TableMaps) (parts : List Part) (part : Part) → maps_after_parts maps (parts ++ part ∷ []) ≡ maps_behind_part (maps_after_parts maps parts) part
maps_after-more maps [] part = refl
maps_after-more maps (p ∷ parts) part = maps_after-more (maps_behind_part maps p) parts part

in_front : (parts : List Part) (part : Part) (more : List Part) → (parts ++ part ∷ []) ++ more ≡ parts ++ part ∷ more
in_front [] part more = refl
in_front (p ∷ parts) part more = ap (λ (l : List Part). p ∷ l) (in_front parts part more)

module _ {T : Type 0} (visits_part : PartVisitRelation T) where
  -- One more part.
  pub parts-more : (maps : TableMaps) (index number : ℕ) (parts : List Part) (part : Part) (old mid new : T)
      → VisitsParts visits_part maps index number parts old mid → visits_part mid (maps_behind_part (maps_after_parts maps parts) part) index (number + length parts) part new
      → VisitsParts visits_part maps index number (parts ++ part ∷ []) old new
  parts-more maps index number [] part old mid new done one =
      let at : number + 0 ≡ number = omega arith in
      (new, subst (λ (t : T). visits_part t (maps_behind_part maps part) index number part new) done (subst (λ (i : ℕ). visits_part mid (maps_behind_part maps part) index i part new) at one), refl)
  parts-more maps index number (p ∷ parts) part old mid new done one =
      let at : number + length (p ∷ parts) ≡ (number + 1) + length parts = omega arith in (
        done.0,
        done.1,
        parts-more (maps_behind_part maps p) index (number + 1) parts part done.0 mid new done.2
            (subst (λ (i : ℕ). visits_part mid (maps_behind_part (maps_after_parts (maps_behind_part maps p) parts) part) index i part new) at one),
      )

  -- The parts are visited that were given so far; this is the reader of those that are left, and these are the table maps in force.
  pub record IsVisited (fde : FormatDescriptionEvent) (content : List ℕ) (index : ℕ) (reader : TransactionPayloadReader) (maps : TableMaps) (old now : T) (number : ℕ) : Type 0 where
    pub parts : List Part
    pub visited : VisitsParts visits_part no_table_maps index 0 parts old now
    pub behind : maps ≡ maps_after_parts no_table_maps parts
    pub count : length parts ≡ number
    pub left : (more : List Part) → LeftParts reader more → AreContentParts fde content (parts ++ more)
    pub room : number + left_len reader ≤ length content + 1

  begins_by : (fde d : FormatDescriptionEvent) (content bytes : List ℕ) (ended : Bool) (more : List Part) → d ≡ fde → bytes ≡ content → ended ≡ false → LeavesParts d ended bytes more → AreContentParts fde content more
  begins_by fde d content bytes true more same all goes left = absurd cc
  begins_by fde d content bytes false more same all goes left =
      subst (λ (x : FormatDescriptionEvent). AreContentParts x content more) same (subst (λ (b : List ℕ). AreContentParts d b more) all left)

  pub visited_none : (fde : FormatDescriptionEvent) (content : List ℕ) (index : ℕ) (reader : TransactionPayloadReader) (maps : TableMaps) (old : T) → reader_fde reader ≡ fde → reader.rest.now ≡ content
      → reader.is_ended ≡ false → maps ≡ no_table_maps → IsVisited fde content index reader maps old old 0
  visited_none fde content index reader maps old same all goes none = record {
    parts = [];
    visited = refl;
    behind = none;
    count = refl;
    left = λ more left. begins_by fde (reader_fde reader) content reader.rest.now reader.is_ended more same all goes left;
    room = rw (goes, all) (omega arith);
  }

module _ {T : Type 0} (visits_part : PartVisitRelation T) (refuses_part : PartRefusalRelation T) where
  -- A part was visited.
  pub step_more : (fde : FormatDescriptionEvent) (content : List ℕ) (index : ℕ) (reader after : TransactionPayloadReader) (maps behind : TableMaps) (old mid new : T) (number : ℕ)
      → IsVisited visits_part fde content index reader maps old mid number → StepsParts visits_part refuses_part index number reader after maps behind mid (Ok true) new
      → IsVisited visits_part fde content index after behind old new (number + 1)
  step_more fde content index reader after maps behind old mid new number so_far step =
      let part = step.part in
      let at : maps_behind_part maps part ≡ maps_behind_part (maps_after_parts no_table_maps so_far.parts) part = ap (λ (m : TableMaps). maps_behind_part m part) so_far.behind in
      let one = subst (λ (m : TableMaps). visits_part mid m index number part new) at step.visited.2 in
      let place : number ≡ 0 + length so_far.parts = omega (arith, so_far.count) in
      record {
        parts = so_far.parts ++ part ∷ [];
        visited = parts-more visits_part no_table_maps index 0 so_far.parts part old mid new so_far.visited
            (subst (λ (i : ℕ). visits_part mid (maps_behind_part (maps_after_parts no_table_maps so_far.parts) part) index i part new) place one);
        behind = step.visited.1 ∙ at ∙ sym (maps_after-more no_table_maps so_far.parts part);
        count = simp length-append (omega (arith, so_far.count));
        left = λ more left. subst (AreContentParts fde content) (sym (in_front so_far.parts part more)) (so_far.left (part ∷ more) (step.next.left more left));
        room = omega (arith, so_far.room, step.next.shorter);
      }

  -- No part is left.
  pub step_all : (fde : FormatDescriptionEvent) (content : List ℕ) (index : ℕ) (reader after : TransactionPayloadReader) (maps behind : TableMaps) (old mid new : T) (number : ℕ)
      → IsVisited visits_part fde content index reader maps old mid number → StepsParts visits_part refuses_part index number reader after maps behind mid (Ok false) new
      → VisitsAll visits_part (AreContentParts fde content) index old new
  step_all fde content index reader after maps behind old mid new number so_far step = record {
    parts = so_far.parts;
    all = subst (AreContentParts fde content) (append-nil so_far.parts) (so_far.left [] step.0);
    visited = subst (VisitsParts visits_part no_table_maps index 0 so_far.parts old) (sym step.1) so_far.visited;
  }

  -- The visitor refused a part.
  refused_by : (fde : FormatDescriptionEvent) (content : List ℕ) (index : ℕ) (reader after : TransactionPayloadReader) (maps : TableMaps) (old mid new : T) (number : ℕ) (error : Error) (part : Part)
      → IsVisited visits_part fde content index reader maps old mid number → NextPart reader after part → refuses_part mid (maps_behind_part maps part) index number part error new
      → RefusesPart visits_part refuses_part (AreContentParts fde content) index old error new
  refused_by fde content index reader after maps old mid new number error part so_far next refused =
      let rest = some_left after in
      let at : maps_behind_part maps part ≡ maps_after_parts no_table_maps (so_far.parts ++ part ∷ []) =
      ap (λ (m : TableMaps). maps_behind_part m part) so_far.behind ∙ sym (maps_after-more no_table_maps so_far.parts part) in
      record {
        before = so_far.parts;
        part = part;
        after = rest.0;
        all = so_far.left (part ∷ rest.0) (next.left rest.0 rest.1);
        mid = mid;
        visited = so_far.visited;
        refused = subst (λ (i : ℕ). refuses_part mid (maps_after_parts no_table_maps (so_far.parts ++ part ∷ [])) index i part error new) (sym so_far.count)
            (subst (λ (m : TableMaps). refuses_part mid m index number part error new) at refused);
      }

  lacking : (fde : FormatDescriptionEvent) (content : List ℕ) (index : ℕ) (reader : TransactionPayloadReader) (maps : TableMaps) (old mid new : T) (number : ℕ) (error : Error)
      → IsVisited visits_part fde content index reader maps old mid number → error ≡ Memory → new ≡ mid → LacksMemory visits_part (AreContentParts fde content) (Unit {0}) index old error new
  lacking fde content index reader maps old mid new number error so_far memory stays =
      let rest = some_left reader in
      record {
        before = so_far.parts;
        after = rest.0;
        all = so_far.left rest.0 rest.1;
        visited = subst (VisitsParts visits_part no_table_maps index 0 so_far.parts old) (sym stays) so_far.visited;
        memory = memory;
        may = tt;
      }

  stop_by : (fde : FormatDescriptionEvent) (content : List ℕ) (index : ℕ) (reader after : TransactionPayloadReader) (maps behind : TableMaps) (old mid new : T) (number : ℕ) (error : Error) (part : Part)
      → IsVisited visits_part fde content index reader maps old mid number → NextPart reader after part → VisitsPart visits_part refuses_part index number part maps behind mid (Err error) new
      → StopsInside visits_part refuses_part (AreContentParts fde content) (Unit {0}) index old error new
  stop_by fde content index reader after maps behind old mid new number error part so_far next (inl refused) =
      inl (refused_by fde content index reader after maps old mid new number error part so_far next refused)
  stop_by fde content index reader after maps behind old mid new number error part so_far next (inr failed) =
      inr (lacking fde content index reader maps old mid new number error so_far failed.0 failed.1)

  -- The visits ended at a part.
  pub step_error : (fde : FormatDescriptionEvent) (content : List ℕ) (index : ℕ) (reader after : TransactionPayloadReader) (maps behind : TableMaps) (old mid new : T) (number : ℕ) (error : Error)
      → IsVisited visits_part fde content index reader maps old mid number → StepsParts visits_part refuses_part index number reader after maps behind mid (Err error) new
      → StopsInside visits_part refuses_part (AreContentParts fde content) (Unit {0}) index old error new
  step_error fde content index reader after maps behind old mid new number error so_far step =
      stop_by fde content index reader after maps behind old mid new number error step.part so_far step.next step.visited

  -- The counter doesn't run out.
  pub visited_out : (fde : FormatDescriptionEvent) (content : List ℕ) (index : ℕ) (reader : TransactionPayloadReader) (maps : TableMaps) (old new : T) (number : ℕ)
      → IsVisited visits_part fde content index reader maps old new number → length content < 2 ^ 63 → 2 ^ 64 - 1 ≤ number → VisitsAll visits_part (AreContentParts fde content) index old new
  visited_out fde content index reader maps old new number so_far few out = absurd (omega (arith, so_far.room, few, out))

  -- ---- the parts of a payload

  stops_along : (are others : List Part → Type 0) (grows may : Type 0) (index : ℕ) (old : T) (error : Error) (new : T) → ((parts : List Part) → are parts → others parts) → (grows → may)
      → StopsInside visits_part refuses_part are grows index old error new → StopsInside visits_part refuses_part others may index old error new
  stops_along are others grows may index old error new to also (inl refused) = inl (record {
    before = refused.before;
    part = refused.part;
    after = refused.after;
    all = to (refused.before ++ refused.part ∷ refused.after) refused.all;
    mid = refused.mid;
    visited = refused.visited;
    refused = refused.refused;
  })
  stops_along are others grows may index old error new to also (inr lacks) = inr (record {
    before = lacks.before;
    after = lacks.after;
    all = to (lacks.before ++ lacks.after) lacks.all;
    visited = lacks.visited;
    memory = lacks.memory;
    may = also lacks.may;
  })

  -- The same for parts that are the same.
  pub visits_along : (are others : List Part → Type 0) (grows may : Type 0) (index : ℕ) (old : T) (result : Result (Unit {0}) Error) (new : T) → ((parts : List Part) → are parts → others parts) → (grows → may)
      → VisitsPartsOf visits_part refuses_part are grows index old result new → VisitsPartsOf visits_part refuses_part others may index old result new
  visits_along are others grows may index old (Ok done) new to also all = record { parts = all.parts; all = to all.parts all.all; visited = all.visited }
  visits_along are others grows may index old (Err error) new to also stops = stops_along are others grows may index old error new to also stops

  -- A refusal was visited.
  pub visits_refusal : (e : PayloadError) (index : ℕ) (old : T) (result : Result (Unit {0}) Error) (new : T) (maps : TableMaps) → maps ≡ no_table_maps
      → OnOk result (visits_part old maps index 0 (Err e) new) → IfErr result (λ error. refuses_part old maps index 0 (Err e) error new)
      → VisitsPartsOf visits_part refuses_part (IsRefusal e) ⊥ index old result new
  visits_refusal e index old (Ok done) new maps none visited refused =
      record { parts = Err e ∷ []; all = refl; visited = (new, subst (λ (m : TableMaps). visits_part old m index 0 (Err e) new) none visited, refl) }
  visits_refusal e index old (Err error) new maps none visited refused = inl (record {
    before = [];
    part = Err e;
    after = [];
    all = refl;
    mid = old;
    visited = refl;
    refused = subst (λ (m : TableMaps). refuses_part old m index 0 (Err e) error new) none refused;
  })

  -- What a payload was decompressed to.
  pub visits_content : (fde : FormatDescriptionEvent) (unpacked : Result (List ℕ) PayloadError) (content : List ℕ) (index : ℕ) (old : T) (result : Result (Unit {0}) Error) (new : T) → unpacked ≡ Ok content
      → VisitsPartsOf visits_part refuses_part (AreContentParts fde content) (Unit {0}) index old result new → VisitsPartsOf visits_part refuses_part (AreUnpackedParts fde unpacked) (Unit {0}) index old result new
  visits_content fde unpacked content index old result new is all =
      visits_along (AreContentParts fde content) (AreUnpackedParts fde unpacked) (Unit {0}) (Unit {0}) index old result new
      (λ parts are. subst (λ (r : Result (List ℕ) PayloadError). AreUnpackedParts fde r parts) (sym is) are) (λ may. may) all

  pub visits_unpacked_refusal : (fde : FormatDescriptionEvent) (unpacked : Result (List ℕ) PayloadError) (e : PayloadError) (index : ℕ) (old : T) (result : Result (Unit {0}) Error) (new : T) → unpacked ≡ Err e
      → VisitsPartsOf visits_part refuses_part (IsRefusal e) ⊥ index old result new → VisitsPartsOf visits_part refuses_part (AreUnpackedParts fde unpacked) (Unit {0}) index old result new
  visits_unpacked_refusal fde unpacked e index old result new is all =
      visits_along (IsRefusal e) (AreUnpackedParts fde unpacked) ⊥ (Unit {0}) index old result new
      (λ parts are. subst (λ (r : Result (List ℕ) PayloadError). AreUnpackedParts fde r parts) (sym is) are) (λ never. tt) all

  -- An allocation failed for it.
  pub unpacked_lacks : (fde : FormatDescriptionEvent) (unpacked : Result (List ℕ) PayloadError) (index : ℕ) (old : T) → LacksMemory visits_part (AreUnpackedParts fde unpacked) (Unit {0}) index old Memory old
  unpacked_lacks fde unpacked index old =
      let all = some_unpacked fde unpacked in
      record { before = []; after = all.0; all = all.1; visited = refl; memory = refl; may = tt }

  -- ---- the parts of an event

  pub visits_nothing : (limit : ℕ) (event : EventView) (index : ℕ) (old : T) → payload_in event ≡ Ok None → VisitsAll visits_part (AreParts limit (Ok event)) index old old
  visits_nothing limit event index old is =
      record { parts = []; all = subst (λ (r : Result (Option Payload) PayloadError). ArePayloadParts limit event.fde r []) (sym is) refl; visited = refl }

  pub visits_payload : (limit : ℕ) (event : EventView) (fde : FormatDescriptionEvent) (payload : Payload) (index : ℕ) (old : T) (result : Result (Unit {0}) Error) (new : T) → payload_in event ≡ Ok (Some payload) → fde ≡ event.fde
      → VisitsPartsOf visits_part refuses_part (AreUnpackedParts fde (content_of limit payload)) (Unit {0}) index old result new
      → VisitsPartsOf visits_part refuses_part (AreParts limit (Ok event)) (HasPayload event) index old result new
  visits_payload limit event fde payload index old result new is same all =
      visits_along (AreUnpackedParts fde (content_of limit payload)) (AreParts limit (Ok event)) (Unit {0}) (HasPayload event) index old result new
      (λ parts are. subst (λ (r : Result (Option Payload) PayloadError). ArePayloadParts limit event.fde r parts) (sym is) (subst (λ (d : FormatDescriptionEvent). AreUnpackedParts d (content_of limit payload) parts) same are))
      (λ may. record { payload = payload; is = is }) all

  pub visits_event_refusal : (limit : ℕ) (event : EventView) (e : PayloadError) (index : ℕ) (old : T) (result : Result (Unit {0}) Error) (new : T) → payload_in event ≡ Err e
      → VisitsPartsOf visits_part refuses_part (IsRefusal e) ⊥ index old result new → VisitsPartsOf visits_part refuses_part (AreParts limit (Ok event)) (HasPayload event) index old result new
  visits_event_refusal limit event e index old result new is all =
      visits_along (IsRefusal e) (AreParts limit (Ok event)) ⊥ (HasPayload event) index old result new
      (λ parts are. subst (λ (r : Result (Option Payload) PayloadError). ArePayloadParts limit event.fde r parts) (sym is) are) (λ never. absurd never) all

-- ---- one part

pub answered_reader : (result : Result (Unit {0}) Error) → IfErr result IsNoReaderError → IfErr (answered result) IsNoReaderError
answered_reader (Ok done) is = tt
answered_reader (Err e) is = is

pub answered_counts : (result : Result (Unit {0}) Error) (old new : Option FailureCount) → CountsKnown result old new → CountsKnown (answered result) old new
answered_counts (Ok done) old new counts = known_ok {A = Unit {0}} {B = Bool} done true old new counts
answered_counts (Err e) old new counts = known_err (Unit {0}) Bool e old new counts

module _ {T : Type 0} (visits_part : PartVisitRelation T) (refuses_part : PartRefusalRelation T) where
  -- The visit of a part that brings these table maps into force.
  pub visited_part : (index number : ℕ) (part : Part) (maps behind : TableMaps) (old : T) (result : Result (Unit {0}) Error) (new : T) → behind ≡ maps_behind_part maps part
      → OnOk result (visits_part old behind index number part new) → IfErr result (λ e. refuses_part old behind index number part e new) → VisitsPart visits_part refuses_part index number part maps behind old (answered result) new
  visited_part index number part maps behind old (Ok done) new is visited refused = (refl, is, subst (λ (m : TableMaps). visits_part old m index number part new) is visited)
  visited_part index number part maps behind old (Err e) new is visited refused = inl (subst (λ (m : TableMaps). refuses_part old m index number part e new) is refused)

  -- An event, and what it brings into force.
  pub visited_event : (index number : ℕ) (event : EventView) (maps behind : TableMaps) (old : T) (result : Result (Unit {0}) Error) (new : T) → Follows None event maps behind
      → OnOk result (visits_part old behind index number (Ok event) new) → IfErr result (λ e. refuses_part old behind index number (Ok event) e new)
      → VisitsPart visits_part refuses_part index number (part_of (checked_event event)) maps behind old (answered result) new
  visited_event index number event maps behind old result new follows visited refused =
      subst (λ (p : Part). VisitsPart visits_part refuses_part index number p maps behind old (answered result) new) (sym (ap part_of follows.0))
      (visited_part index number (Ok event) maps behind old result new follows.1 visited refused)

  -- The error in its place.
  pub visited_refused : (index number : ℕ) (event : EventView) (e : Error) (maps behind : TableMaps) (old : T) (result : Result (Unit {0}) Error) (new : T) → Follows (Some e) event maps behind
      → OnOk result (visits_part old behind index number (Err (errors.Event e)) new) → IfErr result (λ x. refuses_part old behind index number (Err (errors.Event e)) x new)
      → VisitsPart visits_part refuses_part index number (part_of (checked_event event)) maps behind old (answered result) new
  visited_refused index number event e maps behind old result new follows visited refused =
      subst (λ (p : Part). VisitsPart visits_part refuses_part index number p maps behind old (answered result) new) (sym (ap part_of follows.0))
      (visited_part index number (Err (errors.Event e)) maps behind old result new follows.1 visited refused)

  -- A step over it.
  pub steps_over : (index number : ℕ) (before after : TransactionPayloadReader) (part : Part) (maps behind : TableMaps) (old : T) (result : Result Bool Error) (new : T) → NextPart before after part
      → VisitsPart visits_part refuses_part index number part maps behind old result new → StepsParts visits_part refuses_part index number before after maps behind old result new
  steps_over index number before after part maps behind old (Ok true) new next visited = record { part = part; next = next; visited = visited }
  steps_over index number before after part maps behind old (Ok false) new next visited = absurd (let bad : false ≡ true = visited.0 in cc)
  steps_over index number before after part maps behind old (Err e) new next visited = record { part = part; next = next; visited = visited }

-- A refusal that isn't want of memory.
pub refused_else : (e : PayloadError) (reading : Result (List ℕ) PayloadError) → is_memory e ≡ false → Refused e reading → reading ≡ Err e
refused_else e reading other (inl memory) = absurd (let is : is_memory e ≡ true = ap is_memory memory in cc)
refused_else e reading other (inr is) = is

-- ---- an item with its parts

module _ {T : Type 0} (visits : VisitRelation T) (visits_part : PartVisitRelation T) (refuses : RefusalRelation T) (refuses_part : PartRefusalRelation T) where
  -- An error has no parts.
  pub spliced_error : {A : Type 0} (result : Result A Error) (limit : ℕ) (old : T) (maps : TableMaps) (index : ℕ) (error : Error) (new : T) → OnOk result (visits old maps index (Err error) new)
      → OnOk result (VisitsSpliced visits visits_part limit old maps index (Err error) new × (limit ≡ limit))
  spliced_error (Ok x) limit old maps index error new visited = (record { mid = new; own = visited; inside = record { parts = []; all = refl; visited = refl } }, refl)
  spliced_error (Err e) limit old maps index error new visited = visited

  pub own_refused : {A : Type 0} (result : Result A Error) (limit : ℕ) (old : T) (maps : TableMaps) (index : ℕ) (item : Result EventView Error) (new : T) → IfErr result (λ e. refuses old maps index item e new)
      → IfErr result (λ e. RefusesSpliced visits visits_part refuses refuses_part limit old maps index item e new × (limit ≡ limit))
  own_refused (Ok x) limit old maps index item new refused = tt
  own_refused (Err e) limit old maps index item new refused = (inl refused, refl)

  -- An event, and then its parts.
  pub spliced_event : (result : Result (Unit {0}) Error) (limit : ℕ) (old mid : T) (maps : TableMaps) (index : ℕ) (event : EventView) (new : T) → visits old maps index (Ok event) mid
      → VisitsPartsOf visits_part refuses_part (AreParts limit (Ok event)) (HasPayload event) index mid result new
      → OnOk result (VisitsSpliced visits visits_part limit old maps index (Ok event) new × (limit ≡ limit))
  spliced_event (Ok done) limit old mid maps index event new own inside = (record { mid = mid; own = own; inside = inside }, refl)
  spliced_event (Err e) limit old mid maps index event new own inside = tt

  pub refused_inside : (result : Result (Unit {0}) Error) (limit : ℕ) (old mid : T) (maps : TableMaps) (index : ℕ) (event : EventView) (new : T) → visits old maps index (Ok event) mid
      → VisitsPartsOf visits_part refuses_part (AreParts limit (Ok event)) (HasPayload event) index mid result new
      → IfErr result (λ e. RefusesSpliced visits visits_part refuses refuses_part limit old maps index (Ok event) e new × (limit ≡ limit))
  refused_inside (Ok done) limit old mid maps index event new own inside = tt
  refused_inside (Err e) limit old mid maps index event new own inside = (inr (record { mid = mid; own = own; inside = inside }), refl)
