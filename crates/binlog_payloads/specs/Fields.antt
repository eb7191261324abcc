-- The data of a TRANSACTION_PAYLOAD event: how bytes spell fields and a payload, and what reading bytes gives.
-- Source: the server's `mysql::binlog::event::codecs::binary::Transaction_payload`.
use Rattle.std.specs.Prelude.{◌≡◌, ◌≢◌, ℕ, zero, suc, ◌==◌, Bool, true, false, nat_lt, List, [], ◌∷◌, ◌++◌, length, take, drop, get_or, Option, Some, None, is_some, Result, Ok, Err, if◌then◌else◌}
use Rattle.binlog_wire.specs.Reading.{Read, ends}
use Rattle.binlog_variable_fields.specs.LenEnc.{IsLenEnc, lenenc_at}
use Rattle.binlog_payloads.specs.declared.error.PayloadError.{PayloadError}
use Rattle.binlog_payloads.specs.declared.error.PayloadError.TheVariants as errors
use Rattle.binlog_payloads.specs.declared.compression.TransactionPayloadCompressionType.{TransactionPayloadCompressionType}
use Rattle.binlog_payloads.specs.declared.compression.TransactionPayloadCompressionType.TheVariants as kinds
use Rattle.binlog_payloads.specs.declared.fields.Stated.{Stated}
use Rattle.binlog_payloads.specs.Results.{step}

-- What an event says: how its payload is compressed, how long the content is, if it is stated, and the payload.
pub record Payload : Type 0 where
  pub algorithm : TransactionPayloadCompressionType
  pub uncompressed_size : Option ℕ
  pub payload : List ℕ

-- The numbers of the compression types.
abbrev pub number_of : TransactionPayloadCompressionType → ℕ
number_of kinds.ZSTD = 0
number_of kinds.NONE = 255

-- The compression type of a number.
abbrev pub algorithm_of : ℕ → Result TransactionPayloadCompressionType PayloadError
algorithm_of number = if number == 0 then Ok kinds.ZSTD else if number == 255 then Ok kinds.NONE else Err (errors.Kind number)

-- ---- the grammar

-- A field: its type, and the bytes of its value.
pub record Field : Type 0 where
  pub type : ℕ
  pub value : List ℕ

-- The bytes are these fields, then their end, which is the number 0, and then the rest. A field is its type, which isn't 0, the
-- length of its value, and its value.
abbrev pub AreFields : List ℕ → List Field → List ℕ → Type 0
AreFields bytes [] rest = IsLenEnc bytes 0 rest
AreFields bytes (field ∷ fields) rest =
    (field.type ≢ 0) × (sized : List ℕ) × IsLenEnc bytes field.type sized
    × (others : List ℕ) × IsLenEnc sized (length field.value) (field.value ++ others) × AreFields others fields rest

-- The values of the fields of a type, in order.
abbrev pub values : ℕ → List Field → List (List ℕ)
values type [] = []
values type (field ∷ fields) = if field.type == type then field.value ∷ values type fields else values type fields

-- The fields state this number for a type, once: it is all of the value. Or they have no such field.
abbrev pub States : ℕ → List Field → Option ℕ → Type 0
States type fields (Some number) = (value : List ℕ) × (values type fields ≡ value ∷ []) × IsLenEnc value number []
States type fields None = values type fields ≡ []

-- The bytes are the data of an event that says this. Fields may be in any order, and those of other types may be there, too.
pub record IsPayloadEvent (bytes : List ℕ) (event : Payload) : Type 0 where
  pub fields : List Field
  pub spelled : AreFields bytes fields event.payload
  pub payload_size : States 1 fields (Some (length event.payload))
  pub algorithm : States 2 fields (Some (number_of event.algorithm))
  pub uncompressed_size : States 3 fields event.uncompressed_size

-- ---- reading

-- The number at the front of bytes and the bytes behind it, or the refusal.
abbrev pub number_read : Read ℕ → Result (ℕ × List ℕ) PayloadError
number_read (Ok found) = Ok found
number_read (Err ends) = Err errors.EventTruncated
number_read (Err why) = Err errors.Lenenc

unfoldable pub number : List ℕ → Result (ℕ × List ℕ) PayloadError
number bytes = number_read (lenenc_at bytes)

-- A length and as many bytes, and the bytes behind them.
unfoldable pub value : List ℕ → Result (List ℕ × List ℕ) PayloadError
value bytes = step (number bytes) (λ size.
    if nat_lt (length size.1) size.0 then Err errors.EventTruncated else Ok (take size.0 size.1, drop size.0 size.1))

-- The bytes of a number that begins with this byte.
abbrev pub width : ℕ → ℕ
width first = if first == 252 then 3 else if first == 253 then 4 else if first == 254 then 9 else 1

-- The number that is all of a value.
unfoldable pub whole_number : List ℕ → Result ℕ PayloadError
whole_number value = if length value == width (get_or value 0 0) then step (number value) (λ found. Ok found.0) else Err errors.FieldLength

-- The number of a field that may be there once.
unfoldable pub number_once : Bool → List ℕ → Result ℕ PayloadError
number_once was_given value = if was_given then Err errors.FieldTwice else whole_number value

-- What is stated behind a field of this type with this value.
unfoldable pub with_field : ℕ → List ℕ → Stated → Result Stated PayloadError
with_field type value stated =
    if type == 1 then step (number_once (is_some stated.payload_size) value) (λ size. Ok (record stated { payload_size = Some size })) else
    if type == 2 then step (number_once (is_some stated.algorithm) value) (λ number. step (algorithm_of number) (λ algorithm. Ok (record stated { algorithm = Some algorithm }))) else
    if type == 3 then step (number_once (is_some stated.uncompressed_size) value) (λ size. Ok (record stated { uncompressed_size = Some size })) else
    Ok stated

-- What is behind a field: what is stated there, the bytes that are left, and whether this was the fields' end.
pub record Behind : Type 0 where
  pub stated : Stated
  pub rest : List ℕ
  pub is_end : Bool

-- The field at the front of bytes.
unfoldable pub field : Stated → List ℕ → Result Behind PayloadError
field stated bytes = step (number bytes) (λ type.
    if type.0 == 0 then Ok (record { stated = stated; rest = type.1; is_end = true }) else
    step (value type.1) (λ found.
    step (with_field type.0 found.0 stated) (λ after. Ok (record { stated = after; rest = found.1; is_end = false }))))

-- Fields up to their end, n at most, as each has a byte at least.
unfoldable pub fields : ℕ → Stated → List ℕ → Result (Stated × List ℕ) PayloadError
fields zero stated bytes = Err errors.EventTruncated
fields (suc n) stated bytes = step (field stated bytes) (λ behind.
    if behind.is_end then Ok (behind.stated, behind.rest) else fields n behind.stated behind.rest)

-- Nothing is stated.
abbrev pub nothing : Stated
nothing = record { payload_size = None; algorithm = None; uncompressed_size = None }

-- The event of what is stated, and of the bytes behind the fields.
abbrev pub finished : Option ℕ → Option TransactionPayloadCompressionType → Option ℕ → List ℕ → Result Payload PayloadError
finished (Some size) (Some algorithm) uncompressed_size payload =
    if size == length payload then Ok (record { algorithm = algorithm; uncompressed_size = uncompressed_size; payload = payload }) else Err errors.PayloadSize
finished _ _ uncompressed_size payload = Err errors.NoField

-- What data of an event say, or the first refusal.
unfoldable pub payload_event : List ℕ → Result Payload PayloadError
payload_event bytes = step (fields (length bytes) nothing bytes) (λ found.
    finished found.0.payload_size found.0.algorithm found.0.uncompressed_size found.1)
