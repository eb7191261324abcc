-- What reading an event's data, and adding it, say of what the event gives.
use Rattle.std.proofs.Common.{◌≡◌, ◌⊎◌, inl, inr, ℕ, ◌<◌, Bool, true, false, cond, ◌||◌, List, [], ◌∷◌, length, Option, Some, None, Result, Ok, Err, is_err, OnOk, OnErr, refl, sym, ap, subst, ◌∙◌, arith}
use Rattle.std.specs.Prelude.{IsOkUnless, MatchOption}
use Rattle.binlog_wire.specs.Reading.{Read}
use Rattle.binlog_wire.specs.declared.error.Error.{Error}
use Rattle.binlog_wire.specs.declared.error.Error.TheVariants as errors
use Rattle.binlog_wire.specs.Errors.{is_environment_error}
use Rattle.binlog_consts.specs.EventTypes.{event_type_of}
use Rattle.binlog_consts.specs.declared.event_type.EventType.{EventType}
use Rattle.binlog_consts.specs.declared.event_type.UnknownEventType.{UnknownEventType}
use Rattle.binlog_event_format.specs.Bodies.{GivesWhole}
use Rattle.binlog_event_format.specs.Headers.{header_of}
use Rattle.binlog_event_format.specs.declared.format_description.FormatDescriptionEvent.{FormatDescriptionEvent}
use Rattle.binlog_event_data.specs.ReadData.{TakesMemory, ReadsAs}
use Rattle.binlog_event_data.specs.declared.event_data.EventData.{EventData}
use Rattle.binlog_events.specs.Events.{EventView, ReadsEventData}
use Rattle.binlog_events.specs.Parts.{data_of}
use Rattle.binlog_gtid_sets.specs.declared.gtid_group.GtidGroup.{GtidGroup}
use Rattle.binlog_gtid_sets.specs.GtidGroups.{Pair, is_tracked}
use Rattle.binlog_gtid_sets.specs.AddedGtids.{is_added, bad_gno_of}
use Rattle.binlog_gtid_listing.specs.GtidItems.{has_gtids, unless_bad, data_in, data_by, gtids_of, adds, AddsGtids}

-- ---- by the type

data_for : (d : FormatDescriptionEvent) (s : List ℕ) (type : Result EventType UnknownEventType) (x : EventData) → ReadsAs d s type (Ok (Some x))
    → data_by d s type ≡ unless_bad x (bad_gno_of x)
data_for d s (Err unknown) x reads = absurd cc
data_for d s (Ok type) x reads = rw reads refl

none_for : (d : FormatDescriptionEvent) (s : List ℕ) (type : Result EventType UnknownEventType) → ReadsAs d s type (Ok None) → data_by d s type ≡ Ok None
none_for d s (Err unknown) reads = refl
none_for d s (Ok type) reads = absurd reads

-- the error is that of the data, or memory ran out
IsWhy : Error → Result (Option EventData) Error → Type 0
IsWhy e found = (e ≡ errors.Memory) ⊎ ((found ≡ Err e) × (is_environment_error e ≡ false))

left_over : (r : List ℕ) (x : EventData) (n : ℕ) → length r ≡ n → 0 < n → data_in (Ok (x, r)) ≡ Err (errors.RemainingBytes n)
left_over [] x n count some = absurd (omega arith)
left_over (b ∷ rest) x n count some = ap (λ (k : ℕ). Err (errors.RemainingBytes k)) count

why_whole : (grows : Type 0) (e : Error) (read : Read EventData) → GivesWhole grows (Err e) read → IsWhy e (data_in read)
unfolding IsWhy
why_whole grows (errors.RemainingBytes n) read (v, r, is, count, some) = inr (rw is (left_over r v n count some), refl)
why_whole grows errors.EndOfBody read gives = inr (rw gives refl, refl)
why_whole grows (errors.InvalidData why) read gives = inr (rw gives refl, refl)
why_whole grows (errors.WrongEventType number) read gives = inr (rw gives refl, refl)
why_whole grows errors.Memory read gives = inl refl
why_whole grows e read gives = absurd gives

why_for : (d : FormatDescriptionEvent) (s : List ℕ) (type : Result EventType UnknownEventType) (e : Error) → ReadsAs d s type (Err e) → IsWhy e (data_by d s type)
why_for d s (Err unknown) e reads = absurd cc
why_for d s (Ok type) e reads = why_whole (TakesMemory type) e _ reads

-- ---- of an event

data_of_event : EventView → Result EventType UnknownEventType → Result (Option EventData) Error
data_of_event event type = data_by event.fde (data_of event.fde.footer event.frame) type

given_none : (event : EventView) → has_gtids event ≡ false → gtids_of event ≡ Ok None
unfolding gtids_of
given_none event has = ap (λ (b : Bool). cond b (data_by event.fde (data_of event.fde.footer event.frame) (event_type_of (header_of event.frame).event_type)) (Ok None)) has

given_data : (event : EventView) (type : Result EventType UnknownEventType) → has_gtids event ≡ true → type ≡ event_type_of (header_of event.frame).event_type
    → gtids_of event ≡ data_of_event event type
unfolding gtids_of data_of_event
given_data event type has same =
    ap (λ (b : Bool). cond b (data_by event.fde (data_of event.fde.footer event.frame) (event_type_of (header_of event.frame).event_type)) (Ok None)) has
    ∙ ap (λ (t : Result EventType UnknownEventType). data_by event.fde (data_of event.fde.footer event.frame) t) (sym same)

-- ---- the answers

pub adds_none : (event : EventView) (groups : List GtidGroup) → has_gtids event ≡ false → AddsGtids event groups (Ok tt) groups
adds_none event groups has =
    let found = given_none event has in
    (ap is_err found, λ pair n. ap (λ (f : Result (Option EventData) Error). adds f pair n || is_tracked groups pair n) (sym found))

pub adds_unknown : (event : EventView) (groups : List GtidGroup) → has_gtids event ≡ true → ReadsEventData event (Ok None) → AddsGtids event groups (Ok tt) groups
unfolding data_of_event
adds_unknown event groups has (type, same, reads) =
    let found : gtids_of event ≡ Ok None = given_data event type has same ∙ none_for _ _ type reads in
    (ap is_err found, λ pair n. ap (λ (f : Result (Option EventData) Error). adds f pair n || is_tracked groups pair n) (sym found))

why_added : (event : EventView) (groups : List GtidGroup) (e : Error) → has_gtids event ≡ true → IsWhy e (gtids_of event) → AddsGtids event groups (Err e) groups
unfolding IsWhy
why_added event groups e has (inl memory) = (refl, inl (memory, has))
why_added event groups e has (inr why) = (refl, inr why)

pub adds_unread : (event : EventView) (groups : List GtidGroup) (e : Error) → has_gtids event ≡ true → ReadsEventData event (Err e) → AddsGtids event groups (Err e) groups
unfolding data_of_event
adds_unread event groups e has (type, same, reads) =
    why_added event groups e has (subst (IsWhy e) (sym (given_data event type has same)) (why_for _ _ type e reads))

-- the data was read, and the set took it or refused it
added_by : (event : EventView) (x : EventData) (bad : Option ℕ) (answer : Result (Unit {0}) Error) (old new : List GtidGroup) → has_gtids event ≡ true → gtids_of event ≡ unless_bad x bad
    → OnOk answer ((pair : Pair) (n : ℕ) → is_tracked new pair n ≡ (is_added x pair n || is_tracked old pair n))
    → MatchOption bad (IsOkUnless answer errors.Memory) (λ gno. answer ≡ Err (errors.BadGno gno)) → OnErr answer (new ≡ old) → AddsGtids event old answer new
added_by event x None (Ok done) old new has found grown good kept =
    (ap is_err found, λ pair n. grown pair n ∙ ap (λ (f : Result (Option EventData) Error). adds f pair n || is_tracked old pair n) (sym found))
added_by event x None (Err e) old new has found grown good kept = (kept, inl (good, has))
added_by event x (Some gno) (Ok done) old new has found grown bad kept = absurd cc
added_by event x (Some gno) (Err e) old new has found grown bad kept =
    let is : e ≡ errors.BadGno gno = cc in
    (kept, inr (found ∙ ap (λ (f : Error). Err f) (sym is), ap is_environment_error is))

pub adds_data : (event : EventView) (x : EventData) (answer : Result (Unit {0}) Error) (old new : List GtidGroup) → has_gtids event ≡ true → ReadsEventData event (Ok (Some x))
    → OnOk answer ((pair : Pair) (n : ℕ) → is_tracked new pair n ≡ (is_added x pair n || is_tracked old pair n))
    → MatchOption (bad_gno_of x) (IsOkUnless answer errors.Memory) (λ gno. answer ≡ Err (errors.BadGno gno)) → OnErr answer (new ≡ old) → AddsGtids event old answer new
unfolding data_of_event
adds_data event x answer old new has (type, same, reads) grown bad kept =
    added_by event x (bad_gno_of x) answer old new has (given_data event type has same ∙ data_for _ _ type x reads) grown bad kept
