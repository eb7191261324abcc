use Rattle.std.proofs.Common.{◌++◌, ◌∷◌, [], true, refl, ap, ◌∙◌, arith}
use Rattle.json.specs.Token.{string}
use Rattle.json.proofs.Printed.Utf8.{IsUtf8-quoted}
use Rattle.json_line.specs.Decimals.{decimal_text}
use Rattle.json_line.proofs.PlainTexts.{string_text}
use Rattle.json_line.proofs.Decimals.{plain_decimal}
use Rattle.json_line.proofs.OneMore.{text_begun, pushed, pushed_tokens}
use Rattle.json_line.proofs.line.Line.decimal.Goals as goal

pub invariant_of-self-2 : goal.invariant_of-self-2
invariant_of-self-2 c =
    let plain = plain_decimal c.args.parts.now.is_negative c.args.parts.now.first c.args.parts.now.whole.now c.args.parts.now.scale c.args.parts.now.part.now c.args.parts.now.last (omega arith) in
    let token = string (decimal_text c.args.parts.now.is_negative c.args.parts.now.first c.args.parts.now.whole.now c.args.parts.now.scale c.args.parts.now.part.now c.args.parts.now.last) in
    pushed _ _ c.self.invariant token tt (IsUtf8-quoted _ plain.1) _ true refl (text_begun _ _ _ token _ refl (string_text _ plain.0) c.in_ok-add_decimal.ensures)

pub returns-clause-added : goal.returns-clause-added
returns-clause-added c =
    let plain = plain_decimal c.args.parts.now.is_negative c.args.parts.now.first c.args.parts.now.whole.now c.args.parts.now.scale c.args.parts.now.part.now c.args.parts.now.last (omega arith) in
    let token = string (decimal_text c.args.parts.now.is_negative c.args.parts.now.first c.args.parts.now.whole.now c.args.parts.now.scale c.args.parts.now.part.now c.args.parts.now.last) in
    pushed_tokens _ _ c.self.invariant token tt (IsUtf8-quoted _ plain.1) _ true refl (text_begun _ _ _ token _ refl (string_text _ plain.0) c.in_ok-add_decimal.ensures)
    ∙ ap (λ l. l ++ token ∷ []) c.self.view_is
