-- The characters of the sets of UTF-8.
use Rattle.std.specs.Prelude.{ℕ, Bool, true, List, nat_lt}
use Rattle.std.specs.List.{list_all}
use Rattle.character_sets.specs.declared.coding.Coding.{Coding}
use Rattle.character_sets.specs.declared.coding.Coding.TheVariants.{BasicUtf8, Utf8}

-- The coding is UTF-8.
abbrev pub IsUtf8Coding : Coding → Type 0
IsUtf8Coding BasicUtf8 = Unit {0}
IsUtf8Coding Utf8 = Unit {0}
IsUtf8Coding _ = ⊥

-- The character is in the basic multilingual plane.
abbrev pub is_basic : ℕ → Bool
is_basic c = nat_lt c 0x1_0000

-- All of these characters are in a set of this coding.
abbrev pub are_in_utf8 : Coding → List ℕ → Bool
are_in_utf8 BasicUtf8 cs = list_all is_basic cs
are_in_utf8 _ cs = true
