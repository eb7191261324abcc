-- Commas in the sets that no arm names.
use Rattle.std.proofs.Common.{◌≡◌, [], ◌∷◌, Option, None, Some, refl}
use Rattle.character_sets.specs.declared.character_set.CharacterSet.{CharacterSet}
use Rattle.character_sets.specs.declared.character_set.CharacterSet.TheVariants.{Ucs2, Utf16, Utf16le, Utf32}
use Rattle.binlog_json_values.specs.Texts.{comma_in}

-- A comma of one byte.
pub other_comma : (set : Option CharacterSet) → (set ≡ Some Ucs2 → ⊥) → (set ≡ Some Utf16 → ⊥) → (set ≡ Some Utf16le → ⊥) → (set ≡ Some Utf32 → ⊥) → comma_in set ≡ 44 ∷ []
other_comma None a b c d = refl
other_comma (Some Ucs2) a b c d = absurd (a refl)
other_comma (Some Utf16) a b c d = absurd (b refl)
other_comma (Some Utf16le) a b c d = absurd (c refl)
other_comma (Some Utf32) a b c d = absurd (d refl)
other_comma (Some _) a b c d = refl
