-- The last word of an event's line.
use Rattle.std.specs.Prelude.{ℕ, List, [], ◌∷◌, Result, Ok, Err, codes}
use Rattle.binlog_wire.specs.Reading.{Read}
use Rattle.binlog_consts.specs.EventTypes.{event_type_of}
use Rattle.binlog_consts.specs.declared.event_type.EventType.{EventType}
use Rattle.binlog_consts.specs.declared.event_type.UnknownEventType.{UnknownEventType}
use Rattle.binlog_event_format.specs.Headers.{header_of}
use Rattle.binlog_event_format.specs.declared.format_description.FormatDescriptionEvent.{FormatDescriptionEvent}
use Rattle.binlog_event_data.specs.ReadData.{TakesMemory, data_read}
use Rattle.binlog_events.specs.Events.{EventView}
use Rattle.binlog_events.specs.Parts.{data_of}
use Rattle.binlog_listing.specs.declared.word.Word.{Word}
use Rattle.binlog_listing.specs.declared.word.Word.TheVariants as words

-- The text of a word.
abbrev pub word_text : Word → List ℕ
word_text words.Read = codes "read"
word_text words.Unknown = codes "unknown"
word_text words.Refused = codes "refused"

-- The value takes all of the bytes, else they are refused.
abbrev pub read_whole : {V : Type 0} → Read V → Word
read_whole (Ok (v, [])) = words.Read
read_whole (Ok (v, b ∷ rest)) = words.Refused
read_whole (Err why) = words.Refused

-- The word for data of this type: the type is unknown, or the data is a body of it, or the data isn't one.
abbrev pub word_by : FormatDescriptionEvent → List ℕ → Result EventType UnknownEventType → Word
word_by d s (Err unknown) = words.Unknown
word_by d s (Ok type) = read_whole (data_read d s type)

-- The word of an event.
unfoldable pub word_of : EventView → Word
word_of event = word_by event.fde (data_of event.fde.footer event.frame) (event_type_of (header_of event.frame).event_type)

-- Reading data of this type may allocate.
abbrev pub MayTakeMemory : Result EventType UnknownEventType → Type 0
MayTakeMemory (Err unknown) = ⊥
MayTakeMemory (Ok type) = TakesMemory type

-- Reading the data of the event may allocate.
unfoldable pub TakesMemoryFor : EventView → Type 0
TakesMemoryFor event = MayTakeMemory (event_type_of (header_of event.frame).event_type)
