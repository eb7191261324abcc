-- The data that are written for a TRANSACTION_PAYLOAD event.
use Rattle.std.specs.Prelude.{ℕ, ◌^◌, ◌<◌, List, [], ◌++◌, length, Option, Some, None, IfSome}
use Rattle.binlog_variable_fields.specs.LenEnc.{lenenc_written}
use Rattle.binlog_payloads.specs.Fields.{Payload, number_of}

-- A field of this type, whose value is this number: type, length and value, each as short as can be.
abbrev pub field_written : ℕ → ℕ → List ℕ
field_written type number = lenenc_written type ++ (lenenc_written (length (lenenc_written number)) ++ lenenc_written number)

-- The field of the content's size, where it is stated.
abbrev pub size_written : Option ℕ → List ℕ
size_written (Some size) = field_written 3 size
size_written None = []

-- The fields in the order in which servers write them, and their end.
abbrev pub fields_written : Payload → List ℕ
fields_written event = field_written 2 (number_of event.algorithm) ++ (size_written event.uncompressed_size ++ (field_written 1 (length event.payload) ++ lenenc_written 0))

-- The fields, and the payload.
unfoldable pub written : Payload → List ℕ
written event = fields_written event ++ event.payload

-- The numbers of the event fit eight bytes.
pub record Fits (event : Payload) : Type 0 where
  pub size : IfSome event.uncompressed_size (λ size. size < 256 ^ 8)
  pub payload : length event.payload < 256 ^ 8
