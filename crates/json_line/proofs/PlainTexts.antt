-- Texts that need no escape in a string.
use Rattle.std.proofs.Common.{◌≡◌, ℕ, zero, suc, ◌/◌, ◌%◌, ◌<◌, Bool, true, ◌&&◌, get_or, slice_index, List, [], ◌∷◌, ◌++◌, length, Fits, w8, refl, sym, ap, arith, append_assoc}
use Rattle.std.proofs.lemmas.Bool.{and_parts}
use Rattle.hex.specs.Hex.{encode_lower, encode_with, lower_digits}
use Rattle.json.specs.Token.{key, string}
use Rattle.json.specs.Run.{is_plain}
use Rattle.json.specs.Print.{escape, token_text}
use Rattle.json.specs.Written.{PlainBetween}
use Rattle.json.proofs.Printed.Plain.{escape_on_plain}
use Rattle.json_line.specs.Lines.{are_plain, IsPlainText}

plain_between : (text : List ℕ) → IsPlainText text → PlainBetween text 0 (length text)
plain_between [] is k from to = absurd (omega arith)
plain_between (byte ∷ text) is zero from to = (and_parts _ _ is).0
plain_between (byte ∷ text) is (suc k) from to = plain_between text (and_parts _ _ is).1 k (omega arith) (omega arith)

pub plain_text : (text : List ℕ) → IsPlainText text → escape text ≡ text
plain_text text is = escape_on_plain true text (plain_between text is)

-- ---- hexadecimal digits

both_plain : (a b : Bool) → a ≡ true → b ≡ true → (a && b) ≡ true
both_plain a b x y = rw (x, y) refl

pass : (digits : List ℕ) (n : ℕ) → are_plain digits ≡ true → n < length digits → is_plain (slice_index digits n) ≡ true
pass [] n is below = absurd (omega arith)
pass (digit ∷ digits) zero is below = (and_parts _ _ is).0
pass (digit ∷ digits) (suc n) is below = pass digits n (and_parts _ _ is).1 (omega arith)

digits_pass : (n : ℕ) → n < 16 → is_plain (slice_index lower_digits n) ≡ true
digits_pass n below = pass lower_digits n refl below

are_plain-digits : (bytes : List ℕ) → ((k : ℕ) → Fits w8 (get_or bytes k 0)) → are_plain (encode_lower bytes) ≡ true
unfolding encode_with
are_plain-digits [] fits = refl
are_plain-digits (byte ∷ bytes) fits =
    let small = fits 0 in
    both_plain _ _ (digits_pass (byte / 16) (omega (arith, small.fits)))
    (both_plain _ _ (digits_pass (byte % 16) (omega arith)) (are_plain-digits bytes (λ k. fits (suc k))))

pub plain_digits : (bytes : List ℕ) → ((k : ℕ) → Fits w8 (get_or bytes k 0)) → escape (encode_lower bytes) ≡ encode_lower bytes
plain_digits bytes fits = plain_text (encode_lower bytes) (are_plain-digits bytes fits)

-- ---- the texts of tokens

pub string_text : (text : List ℕ) → escape text ≡ text → 34 ∷ (text ++ 34 ∷ []) ≡ token_text (string text)
string_text text is = rw is refl

pub key_text : (text : List ℕ) → escape text ≡ text → 34 ∷ (text ++ 34 ∷ 58 ∷ []) ≡ token_text (key text)
key_text text is = rw is (ap (λ l. 34 ∷ l) (sym (append_assoc text (34 ∷ []) (58 ∷ []))))
