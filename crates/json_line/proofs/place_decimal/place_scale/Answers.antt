use Rattle.std.proofs.Common.{rules}
use Rattle.std.proofs.lemmas.Bool.{eq-eqb, ne_eqb}
use Rattle.json_line.specs.Decimals.{scale_text}
use Rattle.json_line.proofs.place_decimal.place_scale.Goals as goal

pub returns-then-scale-eq0-clause-placed : goal.returns-then-scale-eq0-clause-placed
unfolding scale_text
returns-then-scale-eq0-clause-placed c = rw (eq-eqb c.args.parts.now.scale 0 c.if-scale-eq0.true) (search rules)

pub returns-else-scale-eq0-clause-placed : goal.returns-else-scale-eq0-clause-placed
unfolding scale_text
returns-else-scale-eq0-clause-placed c = rw (ne_eqb c.args.parts.now.scale 0 c.if-scale-eq0.false) c.place_digits.ensures.placed
