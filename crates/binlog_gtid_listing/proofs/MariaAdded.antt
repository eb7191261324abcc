-- What reading an event's data, and adding it, say of what the event gives.
use Rattle.std.proofs.Common.{◌≡◌, ◌⊎◌, inl, inr, ℕ, ◌<◌, false, List, [], ◌∷◌, ◌++◌, length, Option, Some, None, Result, Ok, Err, is_err, OnOk, OnErr, refl, sym, ap, subst, ◌∙◌, arith, append-nil}
use Rattle.std.specs.Prelude.{IsOkUnless}
use Rattle.binlog_wire.specs.Reading.{Read}
use Rattle.binlog_wire.specs.declared.error.Error.{Error}
use Rattle.binlog_wire.specs.declared.error.Error.TheVariants as errors
use Rattle.binlog_wire.specs.Errors.{is_environment_error}
use Rattle.binlog_event_format.specs.Bodies.{GivesWhole}
use Rattle.binlog_event_format.specs.Headers.{header_of}
use Rattle.binlog_event_format.specs.declared.format_description.FormatDescriptionEvent.{FormatDescriptionEvent}
use Rattle.binlog_events.specs.Events.{EventView}
use Rattle.binlog_events.specs.Parts.{data_of}
use Rattle.binlog_mariadb.specs.EventTypes.{maria_event_type_of}
use Rattle.binlog_mariadb.specs.EventBodies.{TakesMemory, ReadsAs}
use Rattle.binlog_mariadb.specs.declared.maria_gtid.MariaGtid.{MariaGtid}
use Rattle.binlog_mariadb.specs.declared.event_type.MariaEventType.{MariaEventType}
use Rattle.binlog_mariadb.specs.declared.event_type.UnknownMariaEventType.{UnknownMariaEventType}
use Rattle.binlog_mariadb.specs.declared.event_data.MariaEventData.{MariaEventData}
use Rattle.binlog_maria_gtids.specs.AddedGtids.{gtids_of}
use Rattle.binlog_maria_gtids.specs.LastGtids.{last_of, KeepLast}
use Rattle.binlog_gtid_listing.specs.MariaItems.{maria_data_in, maria_data_by, maria_data_of, ReadsMaria, gtids_found, event_gtids, AddsMariaGtids}

-- ---- by the type

data_for : (d : FormatDescriptionEvent) (s : List ℕ) (type : Result MariaEventType UnknownMariaEventType) (x : MariaEventData) → ReadsAs d s type (Ok (Some x)) → maria_data_by d s type ≡ Ok (Some x)
data_for d s (Err unknown) x reads = absurd cc
data_for d s (Ok type) x reads = rw reads refl

none_for : (d : FormatDescriptionEvent) (s : List ℕ) (type : Result MariaEventType UnknownMariaEventType) → ReadsAs d s type (Ok None) → maria_data_by d s type ≡ Ok None
none_for d s (Err unknown) reads = refl
none_for d s (Ok type) reads = absurd reads

-- the error is that of the data, or memory ran out
IsWhy : Error → Result (Option MariaEventData) Error → Type 0
IsWhy e found = (e ≡ errors.Memory) ⊎ ((found ≡ Err e) × (is_environment_error e ≡ false))

left_over : (r : List ℕ) (x : MariaEventData) (n : ℕ) → length r ≡ n → 0 < n → maria_data_in (Ok (x, r)) ≡ Err (errors.RemainingBytes n)
left_over [] x n count some = absurd (omega arith)
left_over (b ∷ rest) x n count some = ap (λ (k : ℕ). Err (errors.RemainingBytes k)) count

why_whole : (grows : Type 0) (e : Error) (read : Read MariaEventData) → GivesWhole grows (Err e) read → IsWhy e (maria_data_in read)
unfolding IsWhy
why_whole grows (errors.RemainingBytes n) read (v, r, is, count, some) = inr (rw is (left_over r v n count some), refl)
why_whole grows errors.EndOfBody read gives = inr (rw gives refl, refl)
why_whole grows (errors.InvalidData why) read gives = inr (rw gives refl, refl)
why_whole grows (errors.WrongEventType number) read gives = inr (rw gives refl, refl)
why_whole grows errors.Memory read gives = inl refl
why_whole grows e read gives = absurd gives

why_for : (d : FormatDescriptionEvent) (s : List ℕ) (type : Result MariaEventType UnknownMariaEventType) (e : Error) → ReadsAs d s type (Err e) → IsWhy e (maria_data_by d s type)
why_for d s (Err unknown) e reads = absurd cc
why_for d s (Ok type) e reads = why_whole (TakesMemory type) e _ reads

-- ---- of an event

given_data : (event : EventView) (type : Result MariaEventType UnknownMariaEventType) → type ≡ maria_event_type_of (header_of event.frame).event_type
    → maria_data_of event ≡ maria_data_by event.fde (data_of event.fde.footer event.frame) type
unfolding maria_data_of
given_data event type same = ap (λ (t : Result MariaEventType UnknownMariaEventType). maria_data_by event.fde (data_of event.fde.footer event.frame) t) (sym same)

-- ---- the answers

keeps_found : (event : EventView) (found : Result (Option MariaEventData) Error) (old new : List MariaGtid) → maria_data_of event ≡ found
    → KeepLast (old ++ gtids_found (header_of event.frame).server_id found) new → KeepLast (old ++ event_gtids event) new
keeps_found event found old new is kept =
    subst (λ (f : Result (Option MariaEventData) Error). KeepLast (old ++ gtids_found (header_of event.frame).server_id f) new) (sym is) kept

-- nothing behind the old ones
pub keeps_none : (old : List MariaGtid) → KeepLast (old ++ []) old
keeps_none old o = ap (λ (gs : List MariaGtid). last_of gs o) (sym (append-nil old))

pub adds_unknown : (event : EventView) (old : List MariaGtid) → ReadsMaria event (Ok None) → AddsMariaGtids event old (Ok tt) old
adds_unknown event old (type, same, reads) =
    let found : maria_data_of event ≡ Ok None = given_data event type same ∙ none_for _ _ type reads in
    (ap is_err found, keeps_found event (Ok None) old old found (keeps_none old))

pub adds_unread : (event : EventView) (old : List MariaGtid) (e : Error) → ReadsMaria event (Err e) → AddsMariaGtids event old (Err e) old
unfolding IsWhy
adds_unread event old e (type, same, reads) =
    (refl, subst (IsWhy e) (sym (given_data event type same)) (why_for _ _ type e reads))

added_by : (event : EventView) (x : MariaEventData) (answer : Result (Unit {0}) Error) (old new : List MariaGtid) → maria_data_of event ≡ Ok (Some x)
    → OnOk answer (KeepLast (old ++ gtids_of (header_of event.frame).server_id x) new) → OnErr answer (new ≡ old) → IsOkUnless answer errors.Memory → AddsMariaGtids event old answer new
added_by event x (Ok done) old new found grown kept memory = (ap is_err found, keeps_found event (Ok (Some x)) old new found grown)
added_by event x (Err e) old new found grown kept memory = (kept, inl memory)

-- the data was read, and its GTIDs were added or memory ran out
pub adds_data : (event : EventView) (x : MariaEventData) (answer : Result (Unit {0}) Error) (old new : List MariaGtid) → ReadsMaria event (Ok (Some x))
    → OnOk answer (KeepLast (old ++ gtids_of (header_of event.frame).server_id x) new) → OnErr answer (new ≡ old) → IsOkUnless answer errors.Memory → AddsMariaGtids event old answer new
adds_data event x answer old new (type, same, reads) grown kept memory =
    added_by event x answer old new (given_data event type same ∙ data_for _ _ type x reads) grown kept memory
