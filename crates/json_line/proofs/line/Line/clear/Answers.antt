use Rattle.std.proofs.Common.{false, subst, sym, ap, ◌∙◌}
use Rattle.json.specs.Lex.{tokens}
use Rattle.json_line.specs.Lines.{IsLine}
use Rattle.json_line.proofs.OneMore.{empty, nothing_shown}
use Rattle.json_line.proofs.line.Line.clear.Goals as goal

pub invariant_of-self : goal.invariant_of-self
invariant_of-self c = subst (λ text. IsLine text false) (sym c.clear.ensures) empty

pub returns : goal.returns
returns c = ap tokens c.clear.ensures ∙ nothing_shown
