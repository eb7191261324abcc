-- How many bytes a character takes.
-- Source: MySQL's and MariaDB's documentation of SHOW CHARACTER SET, the column Maxlen.
use Rattle.std.specs.Prelude.{ℕ}
use Rattle.character_sets.specs.declared.character_set.CharacterSet.{CharacterSet}
use Rattle.character_sets.specs.declared.character_set.CharacterSet.TheVariants.{Big5, Cp932, Eucjpms, Euckr, Gb18030, Gb2312, Gbk, Sjis, Ucs2, Ujis, Utf16, Utf16le, Utf32, Utf8mb3, Utf8mb4}

-- The greatest number of bytes of a character of a set.
abbrev pub bytes_per_character : CharacterSet → ℕ
bytes_per_character Big5 = 2
bytes_per_character Cp932 = 2
bytes_per_character Euckr = 2
bytes_per_character Gb2312 = 2
bytes_per_character Gbk = 2
bytes_per_character Sjis = 2
bytes_per_character Ucs2 = 2
bytes_per_character Eucjpms = 3
bytes_per_character Ujis = 3
bytes_per_character Utf8mb3 = 3
bytes_per_character Gb18030 = 4
bytes_per_character Utf16 = 4
bytes_per_character Utf16le = 4
bytes_per_character Utf32 = 4
bytes_per_character Utf8mb4 = 4
bytes_per_character _ = 1
