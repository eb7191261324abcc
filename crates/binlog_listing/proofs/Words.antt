-- The word for the result of checking an event's data.
use Rattle.std.proofs.Common.{◌≡◌, ℕ, Bool, true, false, ◌<◌, List, [], ◌∷◌, length, Result, Ok, Err, refl, sym, subst, arith}
use Rattle.binlog_wire.specs.Reading.{Read}
use Rattle.binlog_wire.specs.declared.error.Error.{Error}
use Rattle.binlog_wire.specs.declared.error.Error.TheVariants as errors
use Rattle.binlog_wire.specs.Errors.{is_environment_error}
use Rattle.binlog_consts.specs.EventTypes.{event_type_of}
use Rattle.binlog_consts.specs.declared.event_type.EventType.{EventType}
use Rattle.binlog_consts.specs.declared.event_type.UnknownEventType.{UnknownEventType}
use Rattle.binlog_event_format.specs.Bodies.{GivesWhole}
use Rattle.binlog_event_format.specs.Headers.{header_of}
use Rattle.binlog_event_format.specs.declared.format_description.FormatDescriptionEvent.{FormatDescriptionEvent}
use Rattle.binlog_event_data.specs.ReadData.{TakesMemory}
use Rattle.binlog_event_data.specs.CheckedData.{ChecksAs}
use Rattle.binlog_event_data.specs.declared.event_data.EventData.{EventData}
use Rattle.binlog_events.specs.Events.{EventView, ChecksEventData}
use Rattle.binlog_events.specs.Parts.{data_of}
use Rattle.binlog_listing.specs.Words.{word_by, word_of, read_whole, MayTakeMemory, TakesMemoryFor}
use Rattle.binlog_listing.specs.declared.word.Word.{Word}
use Rattle.binlog_listing.specs.declared.word.Word.TheVariants as words

-- ---- by the type

read_by : (d : FormatDescriptionEvent) (s : List ℕ) (type : Result EventType UnknownEventType) → ChecksAs d s type (Ok true) → word_by d s type ≡ words.Read
read_by d s (Err unknown) checks = absurd cc
read_by d s (Ok type) (known, (event, is)) = rw is refl

unknown_by : (d : FormatDescriptionEvent) (s : List ℕ) (type : Result EventType UnknownEventType) → ChecksAs d s type (Ok false) → word_by d s type ≡ words.Unknown
unknown_by d s (Err unknown) checks = refl
unknown_by d s (Ok type) (known, (event, is)) = absurd cc

-- Bytes are left after the value.
left_over : (r : List ℕ) (x : EventData) (read : Read EventData) → read ≡ Ok (x, r) → 0 < length r → read_whole read ≡ words.Refused
left_over [] x read is some = absurd (omega arith)
left_over (b ∷ rest) x read is some = rw is refl

refused_whole : (grows : Type 0) (e : Error) (read : Read EventData) → is_environment_error e ≡ false → GivesWhole grows (Err e) read → read_whole read ≡ words.Refused
refused_whole grows (errors.RemainingBytes n) read inside (x, r, is, count, some) = left_over r x read is (omega (arith, count))
refused_whole grows errors.EndOfBody read inside gives = rw gives refl
refused_whole grows (errors.InvalidData why) read inside gives = rw gives refl
refused_whole grows (errors.WrongEventType number) read inside gives = rw gives refl
refused_whole grows errors.Memory read inside gives = absurd cc
refused_whole grows e read inside gives = absurd gives

refused_by : (d : FormatDescriptionEvent) (s : List ℕ) (type : Result EventType UnknownEventType) (e : Error) → is_environment_error e ≡ false → ChecksAs d s type (Err e) → word_by d s type ≡ words.Refused
refused_by d s (Err unknown) e inside checks = absurd cc
refused_by d s (Ok type) e inside checks = refused_whole (TakesMemory type) e _ inside checks

memory_whole : (grows : Type 0) (e : Error) (read : Read EventData) → is_environment_error e ≡ true → GivesWhole grows (Err e) read → (e ≡ errors.Memory) × grows
memory_whole grows (errors.RemainingBytes n) read outside gives = absurd cc
memory_whole grows errors.EndOfBody read outside gives = absurd cc
memory_whole grows (errors.InvalidData why) read outside gives = absurd cc
memory_whole grows (errors.WrongEventType number) read outside gives = absurd cc
memory_whole grows errors.Memory read outside gives = (refl, gives)
memory_whole grows e read outside gives = absurd gives

memory_by : (d : FormatDescriptionEvent) (s : List ℕ) (type : Result EventType UnknownEventType) (e : Error) → is_environment_error e ≡ true → ChecksAs d s type (Err e)
    → (e ≡ errors.Memory) × MayTakeMemory type
memory_by d s (Err unknown) e outside checks = absurd cc
memory_by d s (Ok type) e outside checks = memory_whole (TakesMemory type) e _ outside checks

-- ---- of an event

-- The word for a type that is the event's.
word_at : (event : EventView) (type : Result EventType UnknownEventType) (word : Word) → type ≡ event_type_of (header_of event.frame).event_type
    → word_by event.fde (data_of event.fde.footer event.frame) type ≡ word → word ≡ word_of event
unfolding word_of
word_at event type word is same = sym (subst (λ (t : Result EventType UnknownEventType). word_by event.fde (data_of event.fde.footer event.frame) t ≡ word) is same)

pub read_word : (event : EventView) (answer : Result Bool Error) → answer ≡ Ok true → ChecksEventData event answer → words.Read ≡ word_of event
read_word event answer is (type, same, checks) = word_at event type words.Read same (read_by _ _ type (subst (ChecksAs _ _ type) is checks))

pub unknown_word : (event : EventView) (answer : Result Bool Error) → answer ≡ Ok false → ChecksEventData event answer → words.Unknown ≡ word_of event
unknown_word event answer is (type, same, checks) = word_at event type words.Unknown same (unknown_by _ _ type (subst (ChecksAs _ _ type) is checks))

pub refused_word : (event : EventView) (answer : Result Bool Error) (e : Error) → answer ≡ Err e → is_environment_error e ≡ false
    → ChecksEventData event answer → words.Refused ≡ word_of event
refused_word event answer e is inside (type, same, checks) = word_at event type words.Refused same (refused_by _ _ type e inside (subst (ChecksAs _ _ type) is checks))

pub no_memory : (event : EventView) (answer : Result Bool Error) (e : Error) → answer ≡ Err e → is_environment_error e ≡ true
    → ChecksEventData event answer → (e ≡ errors.Memory) × TakesMemoryFor event
unfolding TakesMemoryFor
no_memory event answer e is outside (type, same, checks) =
    let memory = memory_by _ _ type e outside (subst (ChecksAs _ _ type) is checks) in
    (memory.0, subst MayTakeMemory same memory.1)
