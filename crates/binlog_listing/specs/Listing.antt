-- The line of an item in the listing.
use Rattle.std.specs.Prelude.{ℕ, List, ◌++◌, length, Option, Some, None, Result, Ok, Err, decimal, codes}
use Rattle.std.specs.Int.{w16, to_be_bytes}
use Rattle.hex.specs.Hex.{encode_lower}
use Rattle.binlog_wire.specs.declared.error.Error.{Error}
use Rattle.binlog_wire.specs.Errors.{error_number}
use Rattle.binlog_event_format.specs.Headers.{header_of}
use Rattle.binlog_events.specs.Parts.{data_of, checksum_of}
use Rattle.binlog_events.specs.Events.{EventView}
use Rattle.binlog_listing.specs.Words.{word_text, word_of, TakesMemoryFor}
use Rattle.binlog_listing.specs.declared.word.Word.{Word}

-- ---- lines

-- A number as four lower-case hexadecimal digits.
abbrev pub four_digits : ℕ → List ℕ
four_digits flags = encode_lower (to_be_bytes w16 flags)

-- The four stored bytes of a checksum, in order, as eight lower-case hexadecimal digits, or `-` if there is none.
abbrev pub checksum_text : Option (List ℕ) → List ℕ
checksum_text None = codes "-"
checksum_text (Some checksum) = encode_lower checksum

-- The line of an event: `index type size log_pos flags data_len checksum word`.
unfoldable pub event_line : ℕ → EventView → Word → List ℕ
event_line index event word =
    let header = header_of event.frame in
    decimal index ++ codes " " ++ decimal header.event_type ++ codes " " ++ decimal header.event_size
    ++ codes " " ++ decimal header.log_pos ++ codes " " ++ four_digits header.flags
    ++ codes " " ++ decimal (length (data_of event.fde.footer event.frame))
    ++ codes " " ++ checksum_text (checksum_of event.fde.footer event.frame)
    ++ codes " " ++ word_text word ++ codes "\n"

-- The line of an error: `index error E<number>`.
unfoldable pub error_line : ℕ → Error → List ℕ
error_line index error = decimal index ++ codes " error E" ++ decimal (error_number error) ++ codes "\n"

-- The line of an item.
abbrev pub item_line : ℕ → Result EventView Error → List ℕ
item_line index (Ok event) = event_line index event (word_of event)
item_line index (Err error) = error_line index error

-- Making the line of the item may allocate, for reading the event's data.
abbrev pub MayGrow : Result EventView Error → Type 0
MayGrow (Ok event) = TakesMemoryFor event
MayGrow (Err error) = ⊥
