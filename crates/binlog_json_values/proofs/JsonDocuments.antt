-- Bytes that are a document with a text, and others.
use Rattle.std.proofs.Common.{◌≡◌, ℕ, Bool, true, false, List, refl, ap, ◌∙◌, inl, inr}
use Rattle.std.specs.Prelude.{is_none, codes}
use Rattle.std.proofs.lemmas.Bool.{and_from, cases_Bool}
use Rattle.binary_json.specs.Values.{Json}
use Rattle.binary_json.specs.Grammar.{IsDocument}
use Rattle.binary_json.specs.Refusals.{document_refusal}
use Rattle.binary_json.specs.Decoding.{document_value}
use Rattle.binary_json.proofs.Documents.{found, accepted}
use Rattle.binary_json_lines.specs.HasText.{HasText, has_text}
use Rattle.binary_json_lines.proofs.TextTests.{tested, fails}
use Rattle.json.specs.Token.{Token}
use Rattle.binlog_json_values.specs.Parts.{exact, Shows}
use Rattle.binlog_json_values.specs.Documents.{encoded_value, is_text_document, shown_parts, json_parts, ShowsIfText}

-- A document with a text.
pub has_one : (s : List ℕ) (v : Json) → IsDocument s v → HasText v → is_text_document s ≡ true
has_one s v is text =
    let both = accepted s v is in
    and_from _ _ both.0 (ap (λ (w : Json). has_text w) both.1 ∙ tested v text)

pub shown_if : (s : List ℕ) → is_text_document s ≡ true → json_parts s ≡ shown_parts (document_value s)
unfolding json_parts
shown_if s e = rw e refl

pub document_shown : (s : List ℕ) (v : Json) → IsDocument s v → HasText v → json_parts s ≡ shown_parts v
document_shown s v is text = shown_if s (has_one s v is text) ∙ ap (λ (w : Json). shown_parts w) (accepted s v is).1

pub digits_if : (s : List ℕ) → is_text_document s ≡ false → json_parts s ≡ exact (encoded_value (codes "jsonb") s)
unfolding json_parts
digits_if s e = rw e refl

-- A document without one, and bytes that are refused.
pub has_none : (s : List ℕ) (v : Json) → IsDocument s v → (HasText v → ⊥) → is_text_document s ≡ false
has_none s v is none =
    let both = accepted s v is in
    let hasnt : has_text (document_value s) ≡ false = ap (λ (w : Json). has_text w) both.1 ∙ fails v none in
    rw (both.0, hasnt) refl

pub no_document : (s : List ℕ) → ((v : Json) → IsDocument s v → ⊥) → is_text_document s ≡ false
no_document s none = elim (cases_Bool (is_none (document_refusal s))) [
  | inl e ↦ absurd (none (document_value s) (found s e))
  | inr e ↦ rw e refl
]

-- What the answer says.
pub if_shown : (is : Bool) (s : List ℕ) (old new : List Token) → is ≡ true → ShowsIfText is s old new → (is_text_document s ≡ true) × Shows old new (shown_parts (document_value s))
if_shown true s old new e shown = shown
if_shown false s old new e shown = absurd cc

pub if_hidden : (is : Bool) (s : List ℕ) (old new : List Token) → is ≡ false → ShowsIfText is s old new → (is_text_document s ≡ false) × (new ≡ old)
if_hidden true s old new e hidden = absurd cc
if_hidden false s old new e hidden = hidden

-- Bytes that are no document with a text.
pub others_hidden : (s : List ℕ) → ((v : Json) → IsDocument s v → HasText v → ⊥) → json_parts s ≡ exact (encoded_value (codes "jsonb") s)
others_hidden s none = elim (cases_Bool (is_none (document_refusal s))) [
  | inl e ↦ digits_if s (has_none s (document_value s) (found s e) (none (document_value s) (found s e)))
  | inr e ↦ digits_if s (rw e refl)
]
