-- The row event that was read, by the result of reading the data of an event.
use Rattle.std.proofs.Common.{◌≡◌, ℕ, ◌<◌, true, false, List, [], ◌∷◌, length, None, Some, Result, Ok, Err, refl, subst, arith}
use Rattle.binlog_wire.specs.declared.error.Error.{Error}
use Rattle.binlog_wire.specs.declared.error.Error.TheVariants.{RemainingBytes, EndOfBody, InvalidData, WrongEventType, Memory}
use Rattle.binlog_consts.specs.EventTypes.{event_type_of}
use Rattle.binlog_consts.specs.declared.event_type.EventType.{EventType}
use Rattle.binlog_consts.specs.declared.event_type.EventType.TheVariants.{PREVIOUS_GTIDS_EVENT, GTID_TAGGED_LOG_EVENT}
use Rattle.binlog_consts.specs.declared.event_type.UnknownEventType.{UnknownEventType}
use Rattle.binlog_event_format.specs.declared.format_description.FormatDescriptionEvent.{FormatDescriptionEvent}
use Rattle.binlog_event_data.specs.ReadData.{TakesMemory, ReadsAs, ReadsData}
use Rattle.binlog_event_data.specs.declared.event_data.EventData.{EventData}
use Rattle.binlog_filters.specs.RowEvents.{is_rows_type, is_of_rows, rows_in, rows_read, rows_event_in}

-- Another type.
pub of_other_type : (d : FormatDescriptionEvent) (s : List ℕ) (type : Result EventType UnknownEventType) → is_of_rows type ≡ false → rows_event_in d s type ≡ None
of_other_type d s (Err unknown) other = refl
of_other_type d s (Ok type) other = rw other refl

-- Reading a row event takes no memory.
no_memory : (type : EventType) → is_rows_type type ≡ true → TakesMemory type → ⊥
no_memory PREVIOUS_GTIDS_EVENT rows takes = cc
no_memory GTID_TAGGED_LOG_EVENT rows takes = cc
no_memory type rows takes = takes

some_by : (d : FormatDescriptionEvent) (s : List ℕ) (type : Result EventType UnknownEventType) (body : EventData) → is_of_rows type ≡ true → ReadsAs d s type (Ok (Some body))
    → rows_event_in d s type ≡ rows_in body
some_by d s (Err unknown) body rows reads = absurd cc
some_by d s (Ok type) body rows reads = rw (rows, reads) refl

none_by : (d : FormatDescriptionEvent) (s : List ℕ) (type : Result EventType UnknownEventType) → is_of_rows type ≡ true → ReadsAs d s type (Ok None) → rows_event_in d s type ≡ None
none_by d s (Err unknown) rows reads = absurd cc
none_by d s (Ok type) rows reads = absurd reads

with_rest : (body : EventData) (rest : List ℕ) (n : ℕ) → length rest ≡ n → 0 < n → rows_read (Ok (body, rest)) ≡ None
with_rest body [] n count some = absurd (omega (arith, count, some))
with_rest body (b ∷ rest) n count some = refl

error_by : (d : FormatDescriptionEvent) (s : List ℕ) (type : Result EventType UnknownEventType) (error : Error) → is_of_rows type ≡ true → ReadsAs d s type (Err error)
    → rows_event_in d s type ≡ None
error_by d s (Err unknown) error rows reads = absurd cc
error_by d s (Ok type) (RemainingBytes n) rows (body, rest, is, count, some) = rw (rows, is) (with_rest body rest n count some)
error_by d s (Ok type) EndOfBody rows reads = rw (rows, reads) refl
error_by d s (Ok type) (InvalidData why) rows reads = rw (rows, reads) refl
error_by d s (Ok type) (WrongEventType number) rows reads = rw (rows, reads) refl
error_by d s (Ok type) Memory rows reads = absurd (no_memory type rows reads)
error_by d s (Ok type) error rows reads = absurd reads

-- A body.
pub read_some : (d : FormatDescriptionEvent) (number : ℕ) (s : List ℕ) (body : EventData) → is_of_rows (event_type_of number) ≡ true → ReadsData d number s (Ok (Some body))
    → rows_event_in d s (event_type_of number) ≡ rows_in body
read_some d number s body rows (type, is, reads) = some_by d s (event_type_of number) body rows (subst (λ (t : Result EventType UnknownEventType). ReadsAs d s t (Ok (Some body))) is reads)

-- No body.
pub read_none : (d : FormatDescriptionEvent) (number : ℕ) (s : List ℕ) → is_of_rows (event_type_of number) ≡ true → ReadsData d number s (Ok None) → rows_event_in d s (event_type_of number) ≡ None
read_none d number s rows (type, is, reads) = none_by d s (event_type_of number) rows (subst (λ (t : Result EventType UnknownEventType). ReadsAs d s t (Ok None)) is reads)

-- An error.
pub read_error : (d : FormatDescriptionEvent) (number : ℕ) (s : List ℕ) (error : Error) → is_of_rows (event_type_of number) ≡ true → ReadsData d number s (Err error)
    → rows_event_in d s (event_type_of number) ≡ None
read_error d number s error rows (type, is, reads) = error_by d s (event_type_of number) error rows (subst (λ (t : Result EventType UnknownEventType). ReadsAs d s t (Err error)) is reads)
