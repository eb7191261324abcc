-- The parts of an item: there is one list of them, and a reader of a content gives it part by part.
use Rattle.std.proofs.Common.{◌≡◌, ℕ, ◌+◌, ◌≤◌, Bool, true, false, cond, List, [], ◌∷◌, ◌++◌, map, length, Option, Some, None, Result, Ok, Err, refl, sym, ap, subst, ◌∙◌, arith, length-append}
use Rattle.std.specs.Prelude.{◌≢◌}
use Rattle.binlog_wire.specs.declared.error.Error.{Error}
use Rattle.binlog_event_format.specs.declared.format_description.FormatDescriptionEvent.{FormatDescriptionEvent}
use Rattle.binlog_events.specs.Events.{EventView}
use Rattle.binlog_file.specs.Items.{checked_event}
use Rattle.binlog_payloads.specs.declared.error.PayloadError.{PayloadError}
use Rattle.binlog_payloads.specs.declared.inner.TransactionPayloadReader.{TransactionPayloadReader}
use Rattle.binlog_payloads.specs.Contents.{content_of}
use Rattle.binlog_payloads.specs.Events.{payload_in}
use Rattle.binlog_payloads.specs.Fields.{Payload}
use Rattle.binlog_payloads.specs.InnerEvents.{IsContentSplit, inner_refusal, tail_items, reader_fde, TakesInner, StopsInner, AnswersItem}
use Rattle.binlog_payloads.proofs.InnerEvents.{short_has_no_inner, content_tail, content-cons, some_content_split, one_content_split}
use Rattle.binlog_payload_visits.specs.Parts.{Part, part_of, part_at, AreContentParts, AreUnpackedParts, ArePayloadParts, AreParts}
use Rattle.binlog_payload_visits.specs.Stepping.{LeavesParts, LeftParts, NextPart}

-- ---- an item has one list of parts

one_content : (fde : FormatDescriptionEvent) (content : List ℕ) (parts others : List Part) → AreContentParts fde content parts → AreContentParts fde content others → parts ≡ others
one_content fde content parts others a b =
    let same = one_content_split content a.frames b.frames a.tail b.tail a.split b.split in
    a.all ∙ ap (λ (fs : List (List ℕ)). map (part_at fde) fs ++ tail_items a.tail) same.0 ∙ ap (λ (t : List ℕ). map (part_at fde) b.frames ++ tail_items t) same.1 ∙ sym b.all

one_unpacked : (fde : FormatDescriptionEvent) (content : Result (List ℕ) PayloadError) (parts others : List Part) → AreUnpackedParts fde content parts → AreUnpackedParts fde content others → parts ≡ others
one_unpacked fde (Ok content) parts others a b = one_content fde content parts others a b
one_unpacked fde (Err e) parts others a b = a ∙ sym b

one_payload : (limit : ℕ) (fde : FormatDescriptionEvent) (payload : Result (Option Payload) PayloadError) (parts others : List Part) → ArePayloadParts limit fde payload parts → ArePayloadParts limit fde payload others → parts ≡ others
one_payload limit fde (Ok None) parts others a b = a ∙ sym b
one_payload limit fde (Ok (Some payload)) parts others a b = one_unpacked fde (content_of limit payload) parts others a b
one_payload limit fde (Err e) parts others a b = a ∙ sym b

pub one_list : (limit : ℕ) (item : Result EventView Error) (parts others : List Part) → AreParts limit item parts → AreParts limit item others → parts ≡ others
one_list limit (Ok event) parts others a b = one_payload limit event.fde (payload_in event) parts others a b
one_list limit (Err error) parts others a b = a ∙ sym b

some_content : (fde : FormatDescriptionEvent) (content : List ℕ) → (parts : List Part) × AreContentParts fde content parts
some_content fde content =
    let split = some_content_split content in
    (map (part_at fde) split.0 ++ tail_items split.1, record { frames = split.0; tail = split.1; split = split.2; all = refl })

pub some_unpacked : (fde : FormatDescriptionEvent) (content : Result (List ℕ) PayloadError) → (parts : List Part) × AreUnpackedParts fde content parts
some_unpacked fde (Ok content) = some_content fde content
some_unpacked fde (Err e) = (Err e ∷ [], refl)

pub some_payload : (limit : ℕ) (fde : FormatDescriptionEvent) (payload : Result (Option Payload) PayloadError) → (parts : List Part) × ArePayloadParts limit fde payload parts
some_payload limit fde (Ok None) = ([], refl)
some_payload limit fde (Ok (Some payload)) = some_unpacked fde (content_of limit payload)
some_payload limit fde (Err e) = (Err e ∷ [], refl)

pub some_list : (limit : ℕ) (item : Result EventView Error) → (parts : List Part) × AreParts limit item parts
some_list limit (Ok event) = some_payload limit event.fde (payload_in event)
some_list limit (Err error) = ([], refl)

-- ---- the parts that are left of a content

some_leaves : (fde : FormatDescriptionEvent) (ended : Bool) (bytes : List ℕ) → (parts : List Part) × LeavesParts fde ended bytes parts
some_leaves fde true bytes = ([], refl)
some_leaves fde false bytes = some_content fde bytes

pub some_left : (reader : TransactionPayloadReader) → (parts : List Part) × LeftParts reader parts
some_left reader = some_leaves (reader_fde reader) reader.is_ended reader.rest.now

no_content : (fde : FormatDescriptionEvent) → AreContentParts fde [] []
no_content fde = record { frames = []; tail = []; split = content_tail [] (short_has_no_inner [] (omega arith)); all = refl }

end_by : (fde : FormatDescriptionEvent) (was is : Bool) (bytes rest : List ℕ) → AnswersItem fde was None bytes rest is → LeavesParts fde was bytes []
end_by fde true is bytes rest h = refl
end_by fde false is bytes rest h = subst (λ (b : List ℕ). AreContentParts fde b []) (sym h.0) (no_content fde)

pub at_end : (before after : TransactionPayloadReader) → AnswersItem (reader_fde before) before.is_ended None before.rest.now after.rest.now after.is_ended → LeftParts before []
at_end before after h = end_by (reader_fde before) before.is_ended after.is_ended before.rest.now after.rest.now h

one_more : (fde : FormatDescriptionEvent) (event : EventView) (bytes rest : List ℕ) (parts : List Part) → TakesInner fde event bytes rest → AreContentParts fde rest parts → AreContentParts fde bytes (part_of (checked_event event) ∷ parts)
one_more fde event bytes rest parts takes are = record {
  frames = takes.frame ∷ are.frames;
  tail = are.tail;
  split = subst (λ (b : List ℕ). IsContentSplit b (takes.frame ∷ are.frames) are.tail) (sym takes.whole) (content-cons takes.frame rest are.frames are.tail takes.inner are.split);
  all = ap (λ (e : EventView). part_of (checked_event e) ∷ parts) takes.is ∙ ap (λ (l : List Part). part_at fde takes.frame ∷ l) are.all;
}

error_of : (e : PayloadError) (bytes : List ℕ) → bytes ≢ [] → e ≡ inner_refusal bytes → ◌≡◌ {A = List Part} (Err e ∷ []) (tail_items bytes)
error_of e [] some is = absurd (some refl)
error_of e (b ∷ bytes) some is = ap (λ (x : PayloadError). Err x ∷ []) is

last_error : (fde : FormatDescriptionEvent) (e : PayloadError) (bytes : List ℕ) → StopsInner e bytes → AreContentParts fde bytes (Err e ∷ [])
last_error fde e bytes stops = record { frames = []; tail = bytes; split = content_tail bytes stops.none; all = error_of e bytes stops.some stops.is }

-- What is left before a part, of what is left behind it, and how much less that is.
record Behind (fde d : FormatDescriptionEvent) (was is : Bool) (bytes rest : List ℕ) (part : Part) : Type 0 where
  left : (more : List Part) → LeavesParts d is rest more → LeavesParts fde was bytes (part ∷ more)
  shorter : cond is 0 (length rest + 1) + 1 ≤ cond was 0 (length bytes + 1)

behind_event : (fde d : FormatDescriptionEvent) (was is : Bool) (bytes rest : List ℕ) (event : EventView) → AnswersItem fde was (Some (Ok event)) bytes rest is → d ≡ fde → Behind fde d was is bytes rest (part_of (checked_event event))
behind_event fde d true is bytes rest event h same = let bad : ◌≡◌ {A = Option (Result EventView PayloadError)} (Some (Ok event)) None = h.0 in absurd cc
behind_event fde d false is bytes rest event h same = record {
  left = λ more left. one_more fde event bytes rest more h.0 (subst (λ (x : FormatDescriptionEvent). AreContentParts x rest more) same (subst (λ (b : Bool). LeavesParts d b rest more) h.1 left));
  shorter = rw h.1 (omega (arith, ap length h.0.whole, length-append h.0.frame rest, h.0.inner.frame.header));
}

behind_error : (fde d : FormatDescriptionEvent) (was is : Bool) (bytes rest : List ℕ) (e : PayloadError) → AnswersItem fde was (Some (Err e)) bytes rest is → Behind fde d was is bytes rest (Err e)
behind_error fde d true is bytes rest e h = let bad : ◌≡◌ {A = Option (Result EventView PayloadError)} (Some (Err e)) None = h.0 in absurd cc
behind_error fde d false is bytes rest e h = record {
  left = λ more left.
      let none : more ≡ [] = subst (λ (b : Bool). LeavesParts d b rest more) h.2 left in
      subst (λ (l : List Part). AreContentParts fde bytes (Err e ∷ l)) (sym none) (last_error fde e bytes h.0);
  shorter = rw h.2 (omega arith);
}

pub next_event : (before after : TransactionPayloadReader) (event : EventView) → AnswersItem (reader_fde before) before.is_ended (Some (Ok event)) before.rest.now after.rest.now after.is_ended
    → reader_fde after ≡ reader_fde before → NextPart before after (part_of (checked_event event))
next_event before after event h same =
    let b = behind_event (reader_fde before) (reader_fde after) before.is_ended after.is_ended before.rest.now after.rest.now event h same in
    record { left = b.left; shorter = b.shorter }

pub next_error : (before after : TransactionPayloadReader) (e : PayloadError) → AnswersItem (reader_fde before) before.is_ended (Some (Err e)) before.rest.now after.rest.now after.is_ended
    → NextPart before after (Err e)
next_error before after e h =
    let b = behind_error (reader_fde before) (reader_fde after) before.is_ended after.is_ended before.rest.now after.rest.now e h in
    record { left = b.left; shorter = b.shorter }
