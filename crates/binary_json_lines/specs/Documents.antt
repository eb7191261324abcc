-- Documents as JSON.
use Rattle.std.specs.Prelude.{◌≡◌, Bool, true, false, List, [], ◌∷◌, ◌++◌, Some, None, decimal}
use Rattle.std.specs.Fmt.{signed_decimal}
use Rattle.json.specs.Token.{Token, begin_object, end_object, begin_array, end_array, key as key_token, string as string_token, number, boolean as boolean_token, null as null_token}
use Rattle.binary_json.specs.Values.{Scalar, null, boolean, int16, uint16, int32, uint32, int64, uint64, double, string, opaque, Json, scalar, array, object, Entries, no_entries, entry}
use Rattle.binary_json_lines.specs.HasText.{HasText}
use Rattle.binary_json_lines.specs.Opaques.{opaque_token}
use Rattle.binary_json_lines.specs.Parts.{Part, exactly, reading_back, Shows}

-- A value that holds no others. Integers have all their digits, whatever the width of their type.
abbrev pub scalar_part : Scalar → Part
scalar_part null = exactly null_token
scalar_part (boolean b) = exactly (boolean_token b)
scalar_part (int16 n) = exactly (number (signed_decimal n))
scalar_part (uint16 n) = exactly (number (decimal n))
scalar_part (int32 n) = exactly (number (signed_decimal n))
scalar_part (uint32 n) = exactly (number (decimal n))
scalar_part (int64 n) = exactly (number (signed_decimal n))
scalar_part (uint64 n) = exactly (number (decimal n))
scalar_part (double bits) = reading_back bits
scalar_part (string s) = exactly (string_token s)
scalar_part (opaque column s) = exactly (opaque_token column s)

-- A value: its elements or members in the order in which they are stored, and equal keys too.
abbrev mutual
  pub value_parts : Json → List Part
  value_parts (scalar x) = scalar_part x ∷ []
  value_parts (array es) = exactly begin_array ∷ (elements_parts es ++ exactly end_array ∷ [])
  value_parts (object es) = exactly begin_object ∷ (members_parts es ++ exactly end_object ∷ [])

  pub elements_parts : Entries → List Part
  elements_parts no_entries = []
  elements_parts (entry key v es) = value_parts v ++ elements_parts es

  pub members_parts : Entries → List Part
  members_parts no_entries = []
  members_parts (entry None v es) = members_parts es
  members_parts (entry (Some key) v es) = (exactly (key_token key) ∷ value_parts v) ++ members_parts es

-- ---- values that may have no text

-- The answer says whether the value has a text. The text is appended, or else nothing or tokens that are no value.
abbrev pub BeginsText : Bool → Json → List Token → List Token → Type 0
BeginsText true v old new = HasText v × Shows old new (value_parts v)
BeginsText false v old new = (HasText v → ⊥) × ((tokens : List Token) × (new ≡ old ++ tokens))

-- The same, but else nothing is appended.
abbrev pub WritesIfText : Bool → Json → List Token → List Token → Type 0
WritesIfText true v old new = HasText v × Shows old new (value_parts v)
WritesIfText false v old new = (HasText v → ⊥) × (new ≡ old)
