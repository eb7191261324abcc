-- Several tokens written at once.
use Rattle.std.proofs.Common.{◌≡◌, ℕ, ◌^◌, ◌<◌, Bool, true, false, List, [], ◌∷◌, ◌++◌, codes, IsUtf8, refl, ap, ◌∙◌, arith, append_assoc}
use Rattle.std.proofs.lemmas.Str.{IsUtf8-from_ascii}
use Rattle.std.proofs.lemmas.Fmt.{IsAscii-decimal_wide}
use Rattle.std.specs.Fmt.{decimal}
use Rattle.json.specs.Token.{begin_object, key, string, number}
use Rattle.json.specs.Lex.{tokens}
use Rattle.json.specs.Print.{separator, token_text}
use Rattle.json.proofs.Printed.Utf8.{IsUtf8-are_ascii, IsUtf8-quoted, IsUtf8-key}
use Rattle.json.proofs.Printed.Decimals.{IsNumber-decimal}
use Rattle.json_line.specs.Buffers.{comma}
use Rattle.json_line.specs.Lines.{IsLine, IsPlainText}
use Rattle.json_line.proofs.PlainTexts.{plain_text, string_text, key_text}
use Rattle.json_line.proofs.OneMore.{text_begun, pushed, pushed_tokens}

pub number_utf8 : (n : ℕ) → n < 2 ^ 64 → IsUtf8 (decimal n)
number_utf8 n fits = IsUtf8-from_ascii _ (IsAscii-decimal_wide n (omega arith))

-- The name of a member and its number.
module _ (old : List ℕ) (after_value : Bool) (line : IsLine old after_value) (name : List ℕ) (plain : IsPlainText name) (utf8 : IsUtf8 name) (n : ℕ) (fits : n < 2 ^ 64)
    (new : List ℕ) (is : new ≡ old ++ (comma after_value ++ (34 ∷ (name ++ 34 ∷ 58 ∷ [])) ++ decimal n)) where
  abbrev named : List ℕ
  named = old ++ (comma after_value ++ 34 ∷ (name ++ 34 ∷ 58 ∷ []))

  name_added : IsLine named false
  name_added = pushed old after_value line (key name) tt (IsUtf8-key name utf8) named false refl (text_begun old named after_value (key name) _ refl (key_text name (plain_text name plain)) refl)

  name_tokens : tokens named ≡ tokens old ++ key name ∷ []
  name_tokens = pushed_tokens old after_value line (key name) tt (IsUtf8-key name utf8) named false refl (text_begun old named after_value (key name) _ refl (key_text name (plain_text name plain)) refl)

  behind_name : new ≡ named ++ decimal n
  behind_name = is ∙ simp append_assoc

  pub number_added : IsLine new true
  number_added = pushed named false name_added (number (decimal n)) (IsNumber-decimal n fits) (number_utf8 n fits) new true refl (text_begun named new false (number (decimal n)) _ refl refl behind_name)

  pub number_tokens : tokens new ≡ tokens old ++ key name ∷ number (decimal n) ∷ []
  number_tokens =
      pushed_tokens named false name_added (number (decimal n)) (IsNumber-decimal n fits) (number_utf8 n fits) new true refl (text_begun named new false (number (decimal n)) _ refl refl behind_name)
      ∙ ap (λ l. l ++ number (decimal n) ∷ []) name_tokens ∙ append_assoc (tokens old) (key name ∷ []) (number (decimal n) ∷ [])

-- The key of an object, and the name of its value.
module _ (old : List ℕ) (after_value : Bool) (line : IsLine old after_value) (text : List ℕ) (plain : IsPlainText text) (utf8 : IsUtf8 text)
    (new : List ℕ) (is : new ≡ old ++ (comma after_value ++ (codes "{\"key\":\"" ++ (text ++ codes "\",\"value\":")))) where
  abbrev begun : List ℕ
  begun = old ++ (comma after_value ++ 123 ∷ [])

  abbrev keyed : List ℕ
  keyed = begun ++ 34 ∷ (codes "key" ++ 34 ∷ 58 ∷ [])

  abbrev shown : List ℕ
  shown = keyed ++ 34 ∷ (text ++ 34 ∷ [])

  begun_text : begun ≡ old ++ (separator after_value begin_object ++ token_text begin_object)
  begun_text = text_begun old begun after_value begin_object _ refl refl refl

  keyed_text : keyed ≡ begun ++ (separator false (key (codes "key")) ++ token_text (key (codes "key")))
  keyed_text = text_begun begun keyed false (key (codes "key")) _ refl (key_text (codes "key") (plain_text _ refl)) refl

  shown_text : shown ≡ keyed ++ (separator false (string text) ++ token_text (string text))
  shown_text = text_begun keyed shown false (string text) _ refl (string_text text (plain_text text plain)) refl

  behind_text : new ≡ shown ++ 44 ∷ 34 ∷ (codes "value" ++ 34 ∷ 58 ∷ [])
  behind_text = is ∙ simp append_assoc

  new_text : new ≡ shown ++ (separator true (key (codes "value")) ++ token_text (key (codes "value")))
  new_text = text_begun shown new true (key (codes "value")) _ refl (key_text (codes "value") (plain_text _ refl)) behind_text

  begun_line : IsLine begun false
  begun_line = pushed old after_value line begin_object tt (IsUtf8-are_ascii _ refl) begun false refl begun_text

  keyed_line : IsLine keyed false
  keyed_line = pushed begun false begun_line (key (codes "key")) tt (IsUtf8-key (codes "key") (IsUtf8-are_ascii (codes "key") refl)) keyed false refl keyed_text

  shown_line : IsLine shown true
  shown_line = pushed keyed false keyed_line (string text) tt (IsUtf8-quoted text utf8) shown true refl shown_text

  pub entry_begun : IsLine new false
  entry_begun = pushed shown true shown_line (key (codes "value")) tt (IsUtf8-key (codes "value") (IsUtf8-are_ascii (codes "value") refl)) new false refl new_text

  begun_tokens : tokens begun ≡ tokens old ++ begin_object ∷ []
  begun_tokens = pushed_tokens old after_value line begin_object tt (IsUtf8-are_ascii _ refl) begun false refl begun_text

  keyed_tokens : tokens keyed ≡ tokens begun ++ key (codes "key") ∷ []
  keyed_tokens = pushed_tokens begun false begun_line (key (codes "key")) tt (IsUtf8-key (codes "key") (IsUtf8-are_ascii (codes "key") refl)) keyed false refl keyed_text

  shown_tokens : tokens shown ≡ tokens keyed ++ string text ∷ []
  shown_tokens = pushed_tokens keyed false keyed_line (string text) tt (IsUtf8-quoted text utf8) shown true refl shown_text

  pub entry_tokens : tokens new ≡ tokens old ++ begin_object ∷ key (codes "key") ∷ string text ∷ key (codes "value") ∷ []
  entry_tokens =
      pushed_tokens shown true shown_line (key (codes "value")) tt (IsUtf8-key (codes "value") (IsUtf8-are_ascii (codes "value") refl)) new false refl new_text
      ∙ rw (shown_tokens, keyed_tokens, begun_tokens) (simp append_assoc)
