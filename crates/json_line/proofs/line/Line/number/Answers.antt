use Rattle.std.proofs.Common.{◌++◌, ◌∷◌, [], true, refl, ap, ◌∙◌}
use Rattle.json.specs.Token.{number}
use Rattle.std.specs.Fmt.{decimal}
use Rattle.json.proofs.Printed.Decimals.{IsNumber-decimal}
use Rattle.json_line.proofs.Members.{number_utf8}
use Rattle.json_line.proofs.OneMore.{text_begun, pushed, pushed_tokens}
use Rattle.json_line.proofs.line.Line.number.Goals as goal

pub invariant_of-self-2 : goal.invariant_of-self-2
invariant_of-self-2 c =
    pushed _ _ c.self.invariant (number (decimal c.args.number)) (IsNumber-decimal c.args.number c.ranges.number.fits) (number_utf8 c.args.number c.ranges.number.fits) _ true refl (text_begun _ _ _ (number (decimal c.args.number)) _ refl refl c.in_ok-add_number.ensures)

pub returns-clause-added : goal.returns-clause-added
returns-clause-added c =
    pushed_tokens _ _ c.self.invariant (number (decimal c.args.number)) (IsNumber-decimal c.args.number c.ranges.number.fits) (number_utf8 c.args.number c.ranges.number.fits) _ true refl (text_begun _ _ _ (number (decimal c.args.number)) _ refl refl c.in_ok-add_number.ensures)
    ∙ ap (λ l. l ++ number (decimal c.args.number) ∷ []) c.self.view_is
