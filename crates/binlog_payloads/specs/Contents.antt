-- The content of a payload.
use Rattle.std.specs.Prelude.{ℕ, ◌==◌, nat_lt, List, length, Option, Some, None, Result, Ok, Err, unwrap_or, if◌then◌else◌}
use Rattle.zstd_decode.specs.Blocks.{zstd}
use Rattle.zstd_decode.specs.declared.error.ZstdError.{ZstdError}
use Rattle.zstd_decode.specs.declared.error.ZstdError.TheVariants as faults
use Rattle.binlog_payloads.specs.declared.error.PayloadError.{PayloadError}
use Rattle.binlog_payloads.specs.declared.error.PayloadError.TheVariants as errors
use Rattle.binlog_payloads.specs.declared.compression.TransactionPayloadCompressionType.{TransactionPayloadCompressionType}
use Rattle.binlog_payloads.specs.declared.compression.TransactionPayloadCompressionType.TheVariants as kinds
use Rattle.binlog_payloads.specs.Results.{step}
use Rattle.binlog_payloads.specs.Fields.{Payload}

-- A refusal of compressed data, where the content's size is stated or not. More content than was allowed is more than was
-- stated, if it was.
abbrev pub refusal : Option ℕ → ZstdError → PayloadError
refusal (Some size) faults.Limit = errors.UncompressedSize
refusal None faults.Limit = errors.Limit
refusal stated faults.Memory = errors.Memory
refusal stated fault = errors.Zstd fault

-- What decompressing data gave.
abbrev pub decoded : Option ℕ → Result (List ℕ) ZstdError → Result (List ℕ) PayloadError
decoded stated (Ok content) = Ok content
decoded stated (Err fault) = Err (refusal stated fault)

-- The content of a payload that isn't compressed.
abbrev pub copied : ℕ → List ℕ → Result (List ℕ) PayloadError
copied limit payload = if nat_lt limit (length payload) then Err errors.Limit else Ok payload

-- The content that a payload has by its compression type.
abbrev pub unpacked : ℕ → Option ℕ → TransactionPayloadCompressionType → List ℕ → Result (List ℕ) PayloadError
unpacked limit stated kinds.ZSTD payload = decoded stated (zstd (unwrap_or stated limit) payload)
unpacked limit stated kinds.NONE payload = copied limit payload

-- A content, if it has the size that is stated.
abbrev pub sized : Option ℕ → List ℕ → Result (List ℕ) PayloadError
sized (Some size) content = if length content == size then Ok content else Err errors.UncompressedSize
sized None content = Ok content

-- The content of a payload, of at most `limit` bytes, or the first refusal.
unfoldable pub content_of : ℕ → Payload → Result (List ℕ) PayloadError
content_of limit event =
    if nat_lt limit (unwrap_or event.uncompressed_size 0) then Err errors.Limit else
    step (unpacked limit event.uncompressed_size event.algorithm event.payload) (λ content. sized event.uncompressed_size content)
