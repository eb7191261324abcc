use Rattle.std.proofs.Common.{◌++◌, ◌∷◌, [], true, refl, ap, ◌∙◌}
use Rattle.json.specs.Token.{string}
use Rattle.json.proofs.Printed.Utf8.{IsUtf8-quoted}
use Rattle.hex.specs.Hex.{encode_lower}
use Rattle.json_line.proofs.Texts.{digits_are_text}
use Rattle.json_line.proofs.PlainTexts.{plain_digits, string_text}
use Rattle.json_line.proofs.OneMore.{text_begun, pushed, pushed_tokens}
use Rattle.json_line.proofs.line.Line.bytes.Goals as goal

pub invariant_of-self-2 : goal.invariant_of-self-2
invariant_of-self-2 c =
    pushed _ _ c.self.invariant (string (encode_lower c.args.bytes.now)) tt (IsUtf8-quoted _ (digits_are_text c.args.bytes.now)) _ true refl (text_begun _ _ _ (string (encode_lower c.args.bytes.now)) _ refl (string_text _ (plain_digits c.args.bytes.now c.type_inv.bytes)) c.in_ok-add_hexadecimal.ensures)

pub returns-clause-added : goal.returns-clause-added
returns-clause-added c =
    pushed_tokens _ _ c.self.invariant (string (encode_lower c.args.bytes.now)) tt (IsUtf8-quoted _ (digits_are_text c.args.bytes.now)) _ true refl (text_begun _ _ _ (string (encode_lower c.args.bytes.now)) _ refl (string_text _ (plain_digits c.args.bytes.now c.type_inv.bytes)) c.in_ok-add_hexadecimal.ensures)
    ∙ ap (λ l. l ++ string (encode_lower c.args.bytes.now) ∷ []) c.self.view_is
