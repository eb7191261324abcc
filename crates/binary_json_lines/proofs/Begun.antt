-- Values of which a text is begun.
use Rattle.std.proofs.Common.{◌≡◌, ℕ, Bool, true, false, Result, Ok, Err, List, [], ◌∷◌, ◌++◌, refl, sym, ap, ◌∙◌, append_assoc, append-nil}
use Rattle.std.specs.Prelude.{IfOk, IsTrue, IsUtf8, from_bits}
use Rattle.std.specs.Float.{binary64, float_is_finite}
use Rattle.json.specs.Token.{Token, string as string_token, key as key_token}
use Rattle.json_line.specs.Tokens.{AddsIfUtf8}
use Rattle.binary_json.specs.Values.{Json, scalar, string, double}
use Rattle.binary_json_lines.specs.HasText.{HasText}
use Rattle.binary_json_lines.specs.Parts.{Part, exactly, reading_back, Shows}
use Rattle.binary_json_lines.specs.Documents.{value_parts, BeginsText, WritesIfText}
use Rattle.binary_json_lines.proofs.PartLemmas.{ShowsSome, shows_token}

-- Tokens are appended.
abbrev pub Further : List Token → List Token → Type 0
Further old new = (tokens : List Token) × (new ≡ old ++ tokens)

pub no_further : (old new : List Token) → new ≡ old → Further old new
no_further old new same = ([], same ∙ sym (append-nil old))

pub both_further : (old mid new : List Token) → Further old mid → Further mid new → Further old new
both_further old mid new a b = (a.0 ++ b.0, b.1 ∙ ap (λ (l : List Token). l ++ b.0) a.1 ∙ append_assoc old a.0 b.0)

pub some_further : (first : Token) (old new : List Token) (left all : List Part) → ShowsSome first old new left all → Further old new
some_further first old new left all some = (some.shown.tokens, some.shown.is)

-- What the answer says.
pub with_text : (has : Bool) (v : Json) (old new : List Token) → has ≡ true → BeginsText has v old new → HasText v × Shows old new (value_parts v)
with_text true v old new e begun = begun
with_text false v old new e begun = absurd cc

pub without_text : (has : Bool) (v : Json) (old new : List Token) → has ≡ false → BeginsText has v old new → (HasText v → ⊥) × Further old new
without_text true v old new e begun = absurd cc
without_text false v old new e begun = begun

-- The same where nothing stays of a beginning.
pub if_text : (has : Bool) (v : Json) (old new : List Token) → has ≡ true → WritesIfText has v old new → HasText v × Shows old new (value_parts v)
if_text true v old new e written = written
if_text false v old new e written = absurd cc

pub if_none : (has : Bool) (v : Json) (old new : List Token) → has ≡ false → WritesIfText has v old new → (HasText v → ⊥) × (new ≡ old)
if_none true v old new e written = absurd cc
if_none false v old new e written = written

-- The same of a key.
pub with_key : (is : Bool) (key : List ℕ) (old new : List Token) → is ≡ true → AddsIfUtf8 is key (key_token key) old new → IsUtf8 key × (new ≡ old ++ key_token key ∷ [])
with_key true key old new e added = added
with_key false key old new e added = absurd cc

pub without_key : (is : Bool) (key : List ℕ) (old new : List Token) → is ≡ false → AddsIfUtf8 is key (key_token key) old new → (IsUtf8 key → ⊥) × (new ≡ old)
without_key true key old new e added = absurd cc
without_key false key old new e added = added

-- A string.
string_is : (is : Bool) (s : List ℕ) (old new : List Token) → AddsIfUtf8 is s (string_token s) old new → BeginsText is (scalar (string s)) old new
string_is true s old new added = (added.0, shows_token old new (string_token s) added.1)
string_is false s old new added = (added.0, no_further old new added.1)

pub string_begun : {E : Type 0} (result : Result Bool E) (s : List ℕ) (old new : List Token) → IfOk result (λ (is : Bool). AddsIfUtf8 is s (string_token s) old new)
    → IfOk result (λ (is : Bool). BeginsText is (scalar (string s)) old new)
string_begun (Ok is) s old new added = string_is is s old new added
string_begun (Err e) s old new added = tt

-- A floating-point number that isn't finite.
pub infinite : (bits : ℕ) (old : List Token) → float_is_finite (from_bits binary64 bits) ≡ false → BeginsText false (scalar (double bits)) old old
infinite bits old e = ((λ h. cc), no_further old old refl)

-- A document of this value.
pub of_value : {E : Type 0} (result : Result Bool E) (v w : Json) (old new : List Token) → v ≡ w → IfOk result (λ (has : Bool). WritesIfText has v old new) → IfOk result (λ (has : Bool). WritesIfText has w old new)
of_value result v w old new same written = rw (sym same) written
