use Rattle.std.proofs.Common.{false, subst, sym, ap, ◌∙◌}
use Rattle.json.specs.Lex.{tokens}
use Rattle.json_line.specs.Lines.{IsLine}
use Rattle.json_line.proofs.OneMore.{empty, nothing_shown}
use Rattle.json_line.proofs.line.Line.new.Goals as goal

pub invariant_of-result : goal.invariant_of-result
invariant_of-result c = subst (λ text. IsLine text false) (sym c.new.ensures) empty

pub returns : goal.returns
returns c = ap tokens c.new.ensures ∙ nothing_shown
