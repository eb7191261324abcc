use Rattle.std.proofs.Common.{◌++◌, ◌∷◌, [], true, refl, ap, ◌∙◌, arith}
use Rattle.json.specs.Token.{string}
use Rattle.json.proofs.Printed.Utf8.{IsUtf8-quoted}
use Rattle.json_line.specs.Moments.{date_text}
use Rattle.json_line.proofs.PlainTexts.{string_text}
use Rattle.json_line.proofs.PlainMoments.{plain_date}
use Rattle.json_line.proofs.OneMore.{text_begun, pushed, pushed_tokens}
use Rattle.json_line.proofs.line.Line.date.Goals as goal

pub invariant_of-self-2 : goal.invariant_of-self-2
invariant_of-self-2 c =
    let plain = plain_date c.args.date.now.year c.args.date.now.month c.args.date.now.day (omega arith) (omega arith) (omega arith) in
    let token = string (date_text c.args.date.now.year c.args.date.now.month c.args.date.now.day) in
    pushed _ _ c.self.invariant token tt (IsUtf8-quoted _ plain.1) _ true refl (text_begun _ _ _ token _ refl (string_text _ plain.0) c.in_ok-add_date.ensures)

pub returns-clause-added : goal.returns-clause-added
returns-clause-added c =
    let plain = plain_date c.args.date.now.year c.args.date.now.month c.args.date.now.day (omega arith) (omega arith) (omega arith) in
    let token = string (date_text c.args.date.now.year c.args.date.now.month c.args.date.now.day) in
    pushed_tokens _ _ c.self.invariant token tt (IsUtf8-quoted _ plain.1) _ true refl (text_begun _ _ _ token _ refl (string_text _ plain.0) c.in_ok-add_date.ensures)
    ∙ ap (λ l. l ++ token ∷ []) c.self.view_is
