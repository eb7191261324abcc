-- The names of the character sets.
use Rattle.std.specs.Prelude.{ℕ, List, Option, Some, codes, find, bytes_eq, if◌then◌else◌}
use Rattle.character_sets.specs.declared.character_set.CharacterSet.{CharacterSet}
use Rattle.character_sets.specs.declared.character_set.CharacterSet.TheVariants.{Armscii8, Ascii, Big5, Binary, Cp1250, Cp1251, Cp1256, Cp1257, Cp850, Cp852, Cp866, Cp932, Dec8, Eucjpms, Euckr, Gb18030, Gb2312, Gbk, Geostd8, Greek, Hebrew, Hp8, Keybcs2, Koi8r, Koi8u, Latin1, Latin2, Latin5, Latin7, Macce, Macroman, Sjis, Swe7, Tis620, Ucs2, Ujis, Utf16, Utf16le, Utf32, Utf8mb3, Utf8mb4}
use Rattle.character_sets.specs.declared.character_set.TheConstants.{CHARACTER_SETS}

-- The name of a set.
unfoldable pub name_of : CharacterSet → List ℕ
name_of Armscii8 = codes "armscii8"
name_of Ascii = codes "ascii"
name_of Big5 = codes "big5"
name_of Binary = codes "binary"
name_of Cp1250 = codes "cp1250"
name_of Cp1251 = codes "cp1251"
name_of Cp1256 = codes "cp1256"
name_of Cp1257 = codes "cp1257"
name_of Cp850 = codes "cp850"
name_of Cp852 = codes "cp852"
name_of Cp866 = codes "cp866"
name_of Cp932 = codes "cp932"
name_of Dec8 = codes "dec8"
name_of Eucjpms = codes "eucjpms"
name_of Euckr = codes "euckr"
name_of Gb18030 = codes "gb18030"
name_of Gb2312 = codes "gb2312"
name_of Gbk = codes "gbk"
name_of Geostd8 = codes "geostd8"
name_of Greek = codes "greek"
name_of Hebrew = codes "hebrew"
name_of Hp8 = codes "hp8"
name_of Keybcs2 = codes "keybcs2"
name_of Koi8r = codes "koi8r"
name_of Koi8u = codes "koi8u"
name_of Latin1 = codes "latin1"
name_of Latin2 = codes "latin2"
name_of Latin5 = codes "latin5"
name_of Latin7 = codes "latin7"
name_of Macce = codes "macce"
name_of Macroman = codes "macroman"
name_of Sjis = codes "sjis"
name_of Swe7 = codes "swe7"
name_of Tis620 = codes "tis620"
name_of Ucs2 = codes "ucs2"
name_of Ujis = codes "ujis"
name_of Utf16 = codes "utf16"
name_of Utf16le = codes "utf16le"
name_of Utf32 = codes "utf32"
name_of Utf8mb3 = codes "utf8mb3"
name_of Utf8mb4 = codes "utf8mb4"

-- All sets.
unfoldable pub all_sets : List CharacterSet
all_sets = CHARACTER_SETS

-- The name that utf8mb3 had.
abbrev pub old_utf8 : List ℕ
old_utf8 = codes "utf8"

-- The set of a name, if one has it.
abbrev pub set_named : List ℕ → Option CharacterSet
set_named name = if bytes_eq name old_utf8 then Some Utf8mb3 else find (λ set. bytes_eq (name_of set) name) all_sets
