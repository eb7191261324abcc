-- Why a compressed transaction is refused, as the members of an object.
use Rattle.std.specs.Prelude.{ℕ, List, [], ◌∷◌, ◌++◌, codes}
use Rattle.json.specs.Token.{Token, string}
use Rattle.json_line.specs.Tokens.{number_value, member}
use Rattle.binlog_wire.specs.Errors.{error_number}
use Rattle.binlog_payloads.specs.declared.error.PayloadError.{PayloadError}
use Rattle.binlog_payloads.specs.declared.error.PayloadError.TheVariants as payload
use Rattle.zstd_decode.specs.declared.error.ZstdError.{ZstdError}
use Rattle.zstd_decode.specs.declared.error.ZstdError.TheVariants as zstd

-- Why data aren't Zstandard's, by its name.
abbrev pub zstd_name : ZstdError → List ℕ
zstd_name zstd.Truncated = codes "Truncated"
zstd_name zstd.Magic = codes "Magic"
zstd_name zstd.Reserved = codes "Reserved"
zstd_name zstd.Dictionary = codes "Dictionary"
zstd_name zstd.Limit = codes "Limit"
zstd_name zstd.BlockType = codes "BlockType"
zstd_name zstd.BlockSize = codes "BlockSize"
zstd_name zstd.Content = codes "Content"
zstd_name zstd.Checksum = codes "Checksum"
zstd_name zstd.Short = codes "Short"
zstd_name zstd.LiteralsSize = codes "LiteralsSize"
zstd_name zstd.FourStreams = codes "FourStreams"
zstd_name zstd.NoTree = codes "NoTree"
zstd_name zstd.Jump = codes "Jump"
zstd_name zstd.Accuracy = codes "Accuracy"
zstd_name zstd.Symbols = codes "Symbols"
zstd_name zstd.OneSymbol = codes "OneSymbol"
zstd_name zstd.TooMany = codes "TooMany"
zstd_name zstd.Weight = codes "Weight"
zstd_name zstd.Tree = codes "Tree"
zstd_name zstd.NoMark = codes "NoMark"
zstd_name zstd.BitsOut = codes "BitsOut"
zstd_name zstd.BitsLeft = codes "BitsLeft"
zstd_name zstd.LeftOver = codes "LeftOver"
zstd_name zstd.Modes = codes "Modes"
zstd_name zstd.Symbol = codes "Symbol"
zstd_name zstd.NoTable = codes "NoTable"
zstd_name zstd.Literals = codes "Literals"
zstd_name zstd.Offset = codes "Offset"
zstd_name zstd.Window = codes "Window"
zstd_name zstd.BlockOutput = codes "BlockOutput"
zstd_name zstd.Memory = codes "Memory"

-- What is refused, by its name.
abbrev pub refusal_name : PayloadError → List ℕ
refusal_name payload.EventTruncated = codes "EventTruncated"
refusal_name payload.Lenenc = codes "Lenenc"
refusal_name payload.FieldTwice = codes "FieldTwice"
refusal_name payload.FieldLength = codes "FieldLength"
refusal_name (payload.Kind number) = codes "Kind"
refusal_name payload.NoField = codes "NoField"
refusal_name payload.PayloadSize = codes "PayloadSize"
refusal_name payload.Limit = codes "Limit"
refusal_name payload.UncompressedSize = codes "UncompressedSize"
refusal_name (payload.Zstd error) = codes "Zstd"
refusal_name payload.InnerTruncated = codes "InnerTruncated"
refusal_name payload.InnerSize = codes "InnerSize"
refusal_name (payload.Type type) = codes "Type"
refusal_name (payload.Event error) = codes "Event"
refusal_name payload.Memory = codes "Memory"

-- What else is known of it: the number of a compression type or of an event type, why data aren't Zstandard's, or the number of the
-- error of an event's data.
abbrev pub refusal_detail : PayloadError → List Token
refusal_detail (payload.Kind number) = member (codes "compression_type") (number_value number)
refusal_detail (payload.Zstd error) = member (codes "zstd") (string (zstd_name error) ∷ [])
refusal_detail (payload.Type type) = member (codes "event_type") (number_value type)
refusal_detail (payload.Event error) = member (codes "number") (number_value (error_number error))
refusal_detail error = []

abbrev pub refusal_members : PayloadError → List Token
refusal_members error = member (codes "error") (string (refusal_name error) ∷ []) ++ refusal_detail error
