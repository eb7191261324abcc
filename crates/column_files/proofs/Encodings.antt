-- Whether bytes are UTF-8.
use Rattle.std.proofs.Common.{◌≡◌, ℕ, Bool, true, false, List, Some, None, refl, sym}
use Rattle.std.specs.Str.{is_utf8, IsUtf8}
use Rattle.std.proofs.lemmas.Str.{is_utf8-from_IsUtf8, IsUtf8-from_is_utf8}
use Rattle.column_files.specs.Tables.{text_of}

untrue : (b : Bool) → (b ≡ true → ⊥) → false ≡ b
untrue false isnt = refl
untrue true isnt = absurd (isnt refl)

pub not_utf8 : (s : List ℕ) → (IsUtf8 s → ⊥) → false ≡ is_utf8 s
not_utf8 s isnt = untrue (is_utf8 s) (λ is. isnt (IsUtf8-from_is_utf8 s is))

-- Bytes that are UTF-8 are a text, and others aren't.
pub is_text : (s : List ℕ) → IsUtf8 s → text_of s ≡ Some s
is_text s utf8 = rw (is_utf8-from_IsUtf8 s utf8) refl

pub is_no_text : (s : List ℕ) → ¬ (IsUtf8 s) → text_of s ≡ None
is_no_text s other = rw (sym (not_utf8 s other)) refl
