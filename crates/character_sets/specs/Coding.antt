-- How the characters of a set are coded.
use Rattle.std.specs.Prelude.{Bool, true, false}
use Rattle.character_sets.specs.declared.character_set.CharacterSet.{CharacterSet}
use Rattle.character_sets.specs.declared.character_set.CharacterSet.TheVariants.{Swe7, Big5, Binary, Cp932, Eucjpms, Euckr, Gb18030, Gb2312, Gbk, Sjis, Ujis, Ucs2, Utf16, Utf16le, Utf32, Utf8mb3, Utf8mb4}
use Rattle.character_sets.specs.declared.coding.Coding.{Coding}
use Rattle.character_sets.specs.declared.coding.Coding.TheVariants as codings

-- How the characters of a set are coded: by a table of bytes, unless it is Unicode or not decoded.
unfoldable pub coding_of : CharacterSet → Coding
coding_of Utf8mb3 = codings.BasicUtf8
coding_of Utf8mb4 = codings.Utf8
coding_of Ucs2 = codings.Ucs2
coding_of Utf16 = codings.Utf16
coding_of Utf16le = codings.Utf16le
coding_of Utf32 = codings.Utf32
coding_of Binary = codings.Unknown
coding_of Big5 = codings.Unknown
coding_of Cp932 = codings.Unknown
coding_of Eucjpms = codings.Unknown
coding_of Euckr = codings.Unknown
coding_of Gb18030 = codings.Unknown
coding_of Gb2312 = codings.Unknown
coding_of Gbk = codings.Unknown
coding_of Sjis = codings.Unknown
coding_of Ujis = codings.Unknown
coding_of _ = codings.SingleByte

-- The characters of such a set are decoded.
abbrev pub is_decoded : Coding → Bool
is_decoded codings.Unknown = false
is_decoded _ = true

-- Each character is a byte.
abbrev pub is_single_byte : Coding → Bool
is_single_byte codings.SingleByte = true
is_single_byte _ = false

-- The bytes below 80 are ASCII, and each byte is a character.
unfoldable pub has_ascii_bytes : CharacterSet → Bool
has_ascii_bytes Swe7 = false
has_ascii_bytes set = is_single_byte (coding_of set)
