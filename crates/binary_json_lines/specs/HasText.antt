-- Which values have a text.
use Rattle.std.specs.Prelude.{Bool, true, ◌&&◌, IsTrue, IsUtf8, Some, None, from_bits}
use Rattle.std.specs.Str.{is_utf8}
use Rattle.std.specs.Float.{binary64, float_is_finite}
use Rattle.binary_json.specs.Values.{Scalar, null, boolean, int16, uint16, int32, uint32, int64, uint64, double, string, opaque, Json, scalar, array, object, Entries, no_entries, entry}

-- A string is UTF-8, and a floating-point number is finite.
abbrev pub ScalarHasText : Scalar → Type 0
ScalarHasText null = Unit {0}
ScalarHasText (boolean b) = Unit {0}
ScalarHasText (int16 n) = Unit {0}
ScalarHasText (uint16 n) = Unit {0}
ScalarHasText (int32 n) = Unit {0}
ScalarHasText (uint32 n) = Unit {0}
ScalarHasText (int64 n) = Unit {0}
ScalarHasText (uint64 n) = Unit {0}
ScalarHasText (double bits) = IsTrue (float_is_finite (from_bits binary64 bits))
ScalarHasText (string s) = IsUtf8 s
ScalarHasText (opaque k s) = Unit {0}

-- All strings and keys are UTF-8, and all floating-point numbers are finite.
abbrev mutual
  pub HasText : Json → Type 0
  HasText (scalar x) = ScalarHasText x
  HasText (array es) = ElementsHaveText es
  HasText (object es) = MembersHaveText es

  pub ElementsHaveText : Entries → Type 0
  ElementsHaveText no_entries = Unit {0}
  ElementsHaveText (entry key v es) = HasText v × ElementsHaveText es

  pub MembersHaveText : Entries → Type 0
  MembersHaveText no_entries = Unit {0}
  MembersHaveText (entry None v es) = MembersHaveText es
  MembersHaveText (entry (Some key) v es) = (IsUtf8 key × HasText v) × MembersHaveText es

-- The same, as a test.
abbrev pub scalar_has_text : Scalar → Bool
scalar_has_text null = true
scalar_has_text (boolean b) = true
scalar_has_text (int16 n) = true
scalar_has_text (uint16 n) = true
scalar_has_text (int32 n) = true
scalar_has_text (uint32 n) = true
scalar_has_text (int64 n) = true
scalar_has_text (uint64 n) = true
scalar_has_text (double bits) = float_is_finite (from_bits binary64 bits)
scalar_has_text (string s) = is_utf8 s
scalar_has_text (opaque k s) = true

abbrev mutual
  pub has_text : Json → Bool
  has_text (scalar x) = scalar_has_text x
  has_text (array es) = elements_have_text es
  has_text (object es) = members_have_text es

  pub elements_have_text : Entries → Bool
  elements_have_text no_entries = true
  elements_have_text (entry key v es) = has_text v && elements_have_text es

  pub members_have_text : Entries → Bool
  members_have_text no_entries = true
  members_have_text (entry None v es) = members_have_text es
  members_have_text (entry (Some key) v es) = (is_utf8 key && has_text v) && members_have_text es
