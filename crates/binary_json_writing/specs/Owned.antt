-- The values of documents that were written.
use Rattle.std.specs.Prelude.{ℕ, ℤ, ◌^◌, nat_lt, if◌then◌else◌}
use Rattle.binary_json.specs.Values.{Scalar, int16, uint16, int32, uint32, int64, uint64, Json}
use Rattle.binary_json.specs.Decoding.{document_value}
use Rattle.binary_json_writing.specs.Writable.{is_signed}
use Rattle.binary_json_writing.specs.declared.owned.OwnedDocument.{OwnedDocument}

abbrev pub owned_value : OwnedDocument → Json
owned_value d = document_value d.bytes.items

-- The first of two, four and eight bytes that holds the number.
abbrev pub smallest_signed : ℤ → Scalar
smallest_signed n = if is_signed (2 ^ 15) n then int16 n else if is_signed (2 ^ 31) n then int32 n else int64 n

abbrev pub smallest_unsigned : ℕ → Scalar
smallest_unsigned n = if nat_lt n (2 ^ 16) then uint16 n else if nat_lt n (2 ^ 32) then uint32 n else uint64 n
