-- The test for a text says whether there is one.
use Rattle.std.proofs.Common.{◌≡◌, ℕ, List, true, false, Some, None, refl}
use Rattle.std.specs.Prelude.{IsAscii, IsUtf8}
use Rattle.std.proofs.lemmas.Bool.{and_parts, and_from, false_from_ne_true}
use Rattle.std.proofs.lemmas.Str.{IsUtf8-from_is_utf8, is_utf8-from_IsUtf8, IsUtf8-from_ascii}
use Rattle.binary_json.specs.Values.{Scalar, null, boolean, int16, uint16, int32, uint32, int64, uint64, double, string, opaque, Json, scalar, array, object, Entries, no_entries, entry}
use Rattle.binary_json_lines.specs.HasText.{ScalarHasText, HasText, ElementsHaveText, MembersHaveText, scalar_has_text, has_text, elements_have_text, members_have_text}

-- ASCII is UTF-8.
pub ascii_is_utf8 : (bytes : List ℕ) → IsAscii bytes → IsUtf8 bytes
ascii_is_utf8 bytes ascii = IsUtf8-from_ascii bytes ascii

scalar_tested : (x : Scalar) → ScalarHasText x → scalar_has_text x ≡ true
scalar_tested null h = refl
scalar_tested (boolean b) h = refl
scalar_tested (int16 n) h = refl
scalar_tested (uint16 n) h = refl
scalar_tested (int32 n) h = refl
scalar_tested (uint32 n) h = refl
scalar_tested (int64 n) h = refl
scalar_tested (uint64 n) h = refl
scalar_tested (double bits) h = h
scalar_tested (string s) h = is_utf8-from_IsUtf8 s h
scalar_tested (opaque k s) h = refl

scalar_passes : (x : Scalar) → scalar_has_text x ≡ true → ScalarHasText x
scalar_passes null e = tt
scalar_passes (boolean b) e = tt
scalar_passes (int16 n) e = tt
scalar_passes (uint16 n) e = tt
scalar_passes (int32 n) e = tt
scalar_passes (uint32 n) e = tt
scalar_passes (int64 n) e = tt
scalar_passes (uint64 n) e = tt
scalar_passes (double bits) e = e
scalar_passes (string s) e = IsUtf8-from_is_utf8 s e
scalar_passes (opaque k s) e = tt

mutual
  pub tested : (v : Json) → HasText v → has_text v ≡ true
  tested (scalar x) h = scalar_tested x h
  tested (array es) h = elements_tested es h
  tested (object es) h = members_tested es h

  elements_tested : (es : Entries) → ElementsHaveText es → elements_have_text es ≡ true
  elements_tested no_entries h = refl
  elements_tested (entry key v es) h = and_from _ _ (tested v h.0) (elements_tested es h.1)

  members_tested : (es : Entries) → MembersHaveText es → members_have_text es ≡ true
  members_tested no_entries h = refl
  members_tested (entry None v es) h = members_tested es h
  members_tested (entry (Some key) v es) h = and_from _ _ (and_from _ _ (is_utf8-from_IsUtf8 key h.0.0) (tested v h.0.1)) (members_tested es h.1)

mutual
  pub passes : (v : Json) → has_text v ≡ true → HasText v
  passes (scalar x) e = scalar_passes x e
  passes (array es) e = elements_pass es e
  passes (object es) e = members_pass es e

  elements_pass : (es : Entries) → elements_have_text es ≡ true → ElementsHaveText es
  elements_pass no_entries e = tt
  elements_pass (entry key v es) e = let both = and_parts _ _ e in (passes v both.0, elements_pass es both.1)

  members_pass : (es : Entries) → members_have_text es ≡ true → MembersHaveText es
  members_pass no_entries e = tt
  members_pass (entry None v es) e = members_pass es e
  members_pass (entry (Some key) v es) e =
      let both = and_parts _ _ e in
      let first = and_parts _ _ both.0 in
      ((IsUtf8-from_is_utf8 key first.0, passes v first.1), members_pass es both.1)

-- A value without a text fails the test.
pub fails : (v : Json) → (HasText v → ⊥) → has_text v ≡ false
fails v none = false_from_ne_true (has_text v) (λ e. none (passes v e))
