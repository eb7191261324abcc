-- The characters of a single-byte character set: the entries of the tables.
use Rattle.std.specs.Prelude.{◌-◌, ◌==◌, ℕ, List, Option, Some, None, nat_lt, slice_index, if◌then◌else◌}
use Rattle.character_sets.specs.declared.character_set.CharacterSet.{CharacterSet}
use Rattle.character_sets.specs.declared.character_set.CharacterSet.TheVariants.{Armscii8, Cp1250, Cp1251, Cp1256, Cp1257, Cp850, Cp852, Cp866, Dec8, Geostd8, Greek, Hebrew, Hp8, Keybcs2, Koi8r, Koi8u, Latin1, Latin2, Latin5, Latin7, Macce, Macroman, Swe7, Tis620}
use Rattle.character_sets.specs.declared.tables.TheConstants.{UNASSIGNED, ASCII, SWE7_LOWER, NO_CHARACTERS, ARMSCII8, CP1250, CP1251, CP1256, CP1257, CP850, CP852, CP866, DEC8, GEOSTD8, GREEK, HEBREW, HP8, KEYBCS2, KOI8R, KOI8U, LATIN1, LATIN2, LATIN5, LATIN7, MACCE, MACROMAN, TIS620}

-- The entries of the bytes 00 to 7f.
unfoldable pub lower_half : CharacterSet → List ℕ
lower_half Swe7 = SWE7_LOWER
lower_half _ = ASCII

-- The entries of the bytes 80 to ff.
unfoldable pub upper_half : CharacterSet → List ℕ
upper_half Armscii8 = ARMSCII8
upper_half Cp1250 = CP1250
upper_half Cp1251 = CP1251
upper_half Cp1256 = CP1256
upper_half Cp1257 = CP1257
upper_half Cp850 = CP850
upper_half Cp852 = CP852
upper_half Cp866 = CP866
upper_half Dec8 = DEC8
upper_half Geostd8 = GEOSTD8
upper_half Greek = GREEK
upper_half Hebrew = HEBREW
upper_half Hp8 = HP8
upper_half Keybcs2 = KEYBCS2
upper_half Koi8r = KOI8R
upper_half Koi8u = KOI8U
upper_half Latin1 = LATIN1
upper_half Latin2 = LATIN2
upper_half Latin5 = LATIN5
upper_half Latin7 = LATIN7
upper_half Macce = MACCE
upper_half Macroman = MACROMAN
upper_half Tis620 = TIS620
upper_half _ = NO_CHARACTERS

-- The entry of a byte.
abbrev pub entry_of : CharacterSet → ℕ → ℕ
entry_of set byte = if nat_lt byte 128 then slice_index (lower_half set) byte else slice_index (upper_half set) (byte - 128)

-- The character of an entry.
abbrev pub character_of : ℕ → Option ℕ
character_of entry = if entry == UNASSIGNED then None else Some entry

-- The character of a byte, if it is one.
unfoldable pub byte_character : CharacterSet → ℕ → Option ℕ
byte_character set byte = character_of (entry_of set byte)
