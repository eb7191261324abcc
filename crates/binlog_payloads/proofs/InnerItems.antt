-- The items that a reader of a content gives.
use Rattle.std.proofs.Common.{◌≡◌, ℕ, Bool, true, false, List, [], ◌∷◌, ◌++◌, map, Option, Some, None, Result, Ok, Err, refl, sym, ap, subst, ◌∙◌, arith}
use Rattle.std.specs.Prelude.{◌≢◌}
use Rattle.std.specs.Iterator.{Yields}
use Rattle.binlog_event_format.specs.declared.format_description.FormatDescriptionEvent.{FormatDescriptionEvent}
use Rattle.binlog_events.specs.Events.{EventView}
use Rattle.binlog_events.specs.EventRefs.{view_of}
use Rattle.binlog_events.specs.declared.event_ref.EventRef.{EventRef}
use Rattle.binlog_payloads.specs.declared.error.PayloadError.{PayloadError}
use Rattle.binlog_payloads.specs.declared.inner.TransactionPayloadReader.{TransactionPayloadReader}
use Rattle.binlog_payloads.specs.InnerEvents.{IsContentSplit, inner_refusal, inner_event, tail_items, AreInnerItems, inner_item, reader_fde, TakesInner, StopsInner, AnswersItem, answer_seen, PayloadGives, PayloadGivesAll}
use Rattle.binlog_payloads.proofs.InnerEvents.{short_has_no_inner, content_tail, content-cons, one_content_split}

-- The items that are left.
abbrev LeftItems : FormatDescriptionEvent → Bool → List ℕ → List (Result EventView PayloadError) → Type 0
LeftItems fde true bytes items = items ≡ []
LeftItems fde false bytes items = AreInnerItems fde bytes items

none_left : (fde : FormatDescriptionEvent) (bytes : List ℕ) → bytes ≡ [] → AreInnerItems fde bytes []
none_left fde bytes e = subst (λ (b : List ℕ). AreInnerItems fde b []) (sym e)
    (record { frames = []; tail = []; split = content_tail [] (short_has_no_inner [] (omega arith)); all = refl })

at_end : (fde : FormatDescriptionEvent) (was : Bool) (bytes rest : List ℕ) (is : Bool) → AnswersItem fde was None bytes rest is → LeftItems fde was bytes []
at_end fde true bytes rest is h = refl
at_end fde false bytes rest is h = none_left fde bytes h.0

one_more : (fde : FormatDescriptionEvent) (event : EventView) (bytes rest : List ℕ) (items : List (Result EventView PayloadError)) → TakesInner fde event bytes rest → AreInnerItems fde rest items → AreInnerItems fde bytes (Ok event ∷ items)
one_more fde event bytes rest items takes are = record {
  frames = takes.frame ∷ are.frames;
  tail = are.tail;
  split = subst (λ (b : List ℕ). IsContentSplit b (takes.frame ∷ are.frames) are.tail) (sym takes.whole) (content-cons takes.frame rest are.frames are.tail takes.inner are.split);
  all = ap (λ (e : EventView). Ok e ∷ items) takes.is ∙ ap (λ (l : List (Result EventView PayloadError)). Ok (inner_event fde takes.frame) ∷ l) are.all;
}

error_of : (e : PayloadError) (bytes : List ℕ) → bytes ≢ [] → e ≡ inner_refusal bytes → ◌≡◌ {A = List (Result EventView PayloadError)} (Err e ∷ []) (tail_items bytes)
error_of e [] some is = absurd (some refl)
error_of e (b ∷ bytes) some is = ap (λ (x : PayloadError). Err x ∷ []) is

last_error : (fde : FormatDescriptionEvent) (e : PayloadError) (bytes : List ℕ) → StopsInner e bytes → AreInnerItems fde bytes (Err e ∷ [])
last_error fde e bytes stops = record { frames = []; tail = bytes; split = content_tail bytes stops.none; all = error_of e bytes stops.some stops.is }

item_then : (fde : FormatDescriptionEvent) (was : Bool) (item : Result EventRef PayloadError) (bytes rest : List ℕ) (is : Bool) (items : List (Result EventView PayloadError)) → AnswersItem fde was (answer_seen (Some item)) bytes rest is → LeftItems fde is rest items → LeftItems fde was bytes (inner_item item ∷ items)
item_then fde true (Ok event) bytes rest is items h left = let bad : ◌≡◌ {A = Option (Result EventView PayloadError)} (Some (Ok (view_of event))) None = h.0 in absurd cc
item_then fde true (Err e) bytes rest is items h left = let bad : ◌≡◌ {A = Option (Result EventView PayloadError)} (Some (Err e)) None = h.0 in absurd cc
item_then fde false (Ok event) bytes rest is items h left =
    one_more fde (view_of event) bytes rest items h.0 (subst (λ (b : Bool). LeftItems fde b rest items) h.1 left)
item_then fde false (Err e) bytes rest is items h left =
    let none : items ≡ [] = subst (λ (b : Bool). LeftItems fde b rest items) h.2 left in
    subst (λ (l : List (Result EventView PayloadError)). AreInnerItems fde bytes (Err e ∷ l)) (sym none) (last_error fde e bytes h.0)

given_are_left : (items : List (Result EventRef PayloadError)) (reader last end : TransactionPayloadReader) → Yields PayloadGives reader items last → PayloadGives last None end → LeftItems (reader_fde reader) reader.is_ended reader.rest.now (map inner_item items)
given_are_left [] reader last end given none =
    subst (λ (r : TransactionPayloadReader). LeftItems (reader_fde r) r.is_ended r.rest.now []) (sym given) (at_end (reader_fde last) last.is_ended last.rest.now end.rest.now end.is_ended none.gives)
given_are_left (item ∷ items) reader last end given none =
    let mid = given.0 in
    let left = given_are_left items mid last end given.2 none in
    item_then (reader_fde reader) reader.is_ended item reader.rest.now mid.rest.now mid.is_ended (map inner_item items) given.1.gives
    (subst (λ (d : FormatDescriptionEvent). LeftItems d mid.is_ended mid.rest.now (map inner_item items)) given.1.fde left)

pub all_items_given : (reader end : TransactionPayloadReader) (items : List (Result EventRef PayloadError)) → reader.is_ended ≡ false → PayloadGivesAll reader items end → AreInnerItems (reader_fde reader) reader.rest.now (map inner_item items)
all_items_given reader end items goes given =
    subst (λ (b : Bool). LeftItems (reader_fde reader) b reader.rest.now (map inner_item items)) goes (given_are_left items reader given.0 end given.1 given.2)

pub one_list : (fde : FormatDescriptionEvent) (content : List ℕ) (items others : List (Result EventView PayloadError)) → AreInnerItems fde content items → AreInnerItems fde content others → items ≡ others
one_list fde content items others a b =
    let same = one_content_split content a.frames b.frames a.tail b.tail a.split b.split in
    a.all ∙ ap (λ (fs : List (List ℕ)). map (λ (f : List ℕ). Ok (inner_event fde f)) fs ++ tail_items a.tail) same.0
    ∙ ap (λ (t : List ℕ). map (λ (f : List ℕ). Ok (inner_event fde f)) b.frames ++ tail_items t) same.1 ∙ sym b.all
