-- The object of an event with a payload.
use Rattle.std.specs.Prelude.{ℕ, Bool, true, false, List, [], ◌∷◌, ◌++◌, codes, length}
use Rattle.json.specs.Print.{print}
use Rattle.json.specs.Token.{Token, string}
use Rattle.json_line.specs.Tokens.{number_value, bytes_value, or_null, member, object}
use Rattle.binlog_events.specs.Events.{EventView}
use Rattle.binlog_payloads.specs.Fields.{Payload}
use Rattle.binlog_payloads.specs.declared.compression.TransactionPayloadCompressionType.{TransactionPayloadCompressionType}
use Rattle.binlog_payloads.specs.declared.compression.TransactionPayloadCompressionType.TheVariants as kinds
use Rattle.binlog_json_lines.specs.ItemLines.{event_head}

-- The name of a compression type.
abbrev pub compression_name : TransactionPayloadCompressionType → List ℕ
compression_name kinds.ZSTD = codes "ZSTD"
compression_name kinds.NONE = codes "NONE"

-- The member with the stored bytes of the payload, where they are kept.
abbrev pub stored_payload : (keeps_stored : Bool) → Payload → List Token
stored_payload true payload = member (codes "payload") (bytes_value payload.payload)
stored_payload false payload = []

-- What the data of the event say: how the payload is compressed, its size, and that of its content, if it is stated.
abbrev pub payload_members : (keeps_stored : Bool) → Payload → List Token
payload_members keeps_stored payload =
    member (codes "compression") (string (compression_name payload.algorithm) ∷ [])
    ++ member (codes "payload_size") (number_value (length payload.payload))
    ++ member (codes "uncompressed_size") (or_null number_value payload.uncompressed_size)
    ++ stored_payload keeps_stored payload

-- The object of the event.
abbrev pub payload_object : (keeps_stored : Bool) → ℕ → EventView → Payload → List Token
payload_object keeps_stored index event payload = object (event_head index event ++ member (codes "data") (object (payload_members keeps_stored payload)))

-- Its line: the object, and a line feed.
abbrev pub payload_line : (keeps_stored : Bool) → ℕ → EventView → Payload → List ℕ
payload_line keeps_stored index event payload = print (payload_object keeps_stored index event payload) ++ codes "\n"
