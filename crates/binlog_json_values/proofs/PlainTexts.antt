-- Texts that need no escape.
use Rattle.std.proofs.Common.{◌≡◌, ℕ, ◌+◌, ◌%◌, ◌^◌, ◌<◌, true, List, [], ◌∷◌, ◌++◌, refl, arith}
use Rattle.std.proofs.lemmas.Bool.Decides.{nat_tests}
use Rattle.std.proofs.lemmas.Bool.{and_parts, and_from}
use Rattle.std.proofs.lemmas.Fmt.{decimal_by_steps}
use Rattle.std.specs.Fmt.{decimal}
use Rattle.json.specs.Run.{is_plain}
use Rattle.json_line.specs.Lines.{IsPlainText}

digit_is_plain : (n : ℕ) → n < 10 → is_plain (48 + n) ≡ true
digit_is_plain n small = grind (arith, nat_tests)

plain_before : (text : List ℕ) (n : ℕ) → n < 10 → IsPlainText text → IsPlainText (text ++ (48 + n) ∷ [])
plain_before [] n small plain = and_from _ _ (digit_is_plain n small) refl
plain_before (byte ∷ text) n small plain = let parts = and_parts _ _ plain in and_from _ _ parts.0 (plain_before text n small parts.1)

plain_decimal : (n : ℕ) → n < 2 ^ 64 → IsPlainText (decimal n)
plain_decimal n small = decimal_by_steps (λ n text. IsPlainText text) (λ n digit. plain_before [] n digit refl) (λ n text more plain. plain_before text (n % 10) (omega arith) plain) n small

-- The name of a column by its number.
pub plain_name : (n : ℕ) → n < 2 ^ 64 → IsPlainText (64 ∷ decimal n)
plain_name n small = plain_decimal n small
