-- Names as texts.
use Rattle.std.proofs.Common.{◌≡◌, ℕ, List, ◌∷◌, drop, Some, None, refl}
use Rattle.std.proofs.lemmas.Bool.{false_from_ne_true}
use Rattle.std.proofs.lemmas.Str.{is_utf8-from_IsUtf8, IsUtf8-from_is_utf8}
use Rattle.std.specs.Prelude.{slice_get}
use Rattle.std.specs.Option.{option_and_then}
use Rattle.std.specs.Str.{IsUtf8, is_utf8}
use Rattle.binlog_optional_metadata.specs.Stated.{text_of}

-- Bytes that are UTF-8 are a text, and others aren't.
pub is_text : (s : List ℕ) → IsUtf8 s → text_of s ≡ Some s
is_text s utf8 = rw (is_utf8-from_IsUtf8 s utf8) refl

pub is_no_text : (s : List ℕ) → ¬ (IsUtf8 s) → text_of s ≡ None
is_no_text s other = rw (false_from_ne_true (is_utf8 s) (λ utf8. other (IsUtf8-from_is_utf8 s utf8))) refl

-- The first name, and the others.
pub first_text : (names others : List (List ℕ)) (name : List ℕ) → names ≡ name ∷ others → option_and_then text_of (slice_get names 0) ≡ text_of name
first_text names others name split = rw split refl

pub other_names : (names others : List (List ℕ)) (name : List ℕ) → names ≡ name ∷ others → drop 1 names ≡ others
other_names names others name split = rw split refl
