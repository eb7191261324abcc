use Rattle.std.proofs.Common.{◌++◌, ◌∷◌, [], true, refl, ap, ◌∙◌, rules, ℤ}
use Rattle.std.proofs.Math.Facts.{to_z-of_z}
use Rattle.json_line.specs.Buffers.{comma}
use Rattle.json.specs.Token.{number}
use Rattle.std.specs.Fmt.{signed_decimal}
use Rattle.std.proofs.lemmas.Str.{IsUtf8-from_ascii}
use Rattle.itoa.proofs.Decimal.{IsAscii-signed_decimal}
use Rattle.json.proofs.Printed.Decimals.{IsNumber-signed_decimal}
use Rattle.json_line.proofs.OneMore.{text_begun, pushed, pushed_tokens}
use Rattle.json_line.proofs.line.Line.signed_number.Goals as goal

pub invariant_of-self-2 : goal.invariant_of-self-2
invariant_of-self-2 c =
    pushed _ _ c.self.invariant (number (signed_decimal c.args.number)) (IsNumber-signed_decimal c.args.number (search rules)) (IsUtf8-from_ascii _ (IsAscii-signed_decimal c.args.number c.ranges.number)) _ true refl (text_begun _ _ _ (number (signed_decimal c.args.number)) _ refl refl (c.in_ok-add_signed.ensures ∙ ap (λ (z : ℤ). c.self.inside.text.text ++ (comma c.self.inside.after_value ++ signed_decimal z)) (to_z-of_z c.ranges.number)))

pub returns-clause-added : goal.returns-clause-added
returns-clause-added c =
    pushed_tokens _ _ c.self.invariant (number (signed_decimal c.args.number)) (IsNumber-signed_decimal c.args.number (search rules)) (IsUtf8-from_ascii _ (IsAscii-signed_decimal c.args.number c.ranges.number)) _ true refl (text_begun _ _ _ (number (signed_decimal c.args.number)) _ refl refl (c.in_ok-add_signed.ensures ∙ ap (λ (z : ℤ). c.self.inside.text.text ++ (comma c.self.inside.after_value ++ signed_decimal z)) (to_z-of_z c.ranges.number)))
    ∙ ap (λ l. l ++ number (signed_decimal c.args.number) ∷ []) c.self.view_is
