use Rattle.std.proofs.Common.{rules}
use Rattle.std.proofs.lemmas.Bool.{eq-eqb, ne_eqb}
use Rattle.json_line.specs.Moments.{fraction_text}
use Rattle.json_line.proofs.place_moment.place_fraction.Goals as goal

pub returns-then-digits-eq0-clause-placed : goal.returns-then-digits-eq0-clause-placed
unfolding fraction_text
returns-then-digits-eq0-clause-placed c = rw (eq-eqb c.args.digits 0 c.if-digits-eq0.true) (search rules)

pub returns-else-digits-eq0-clause-placed : goal.returns-else-digits-eq0-clause-placed
unfolding fraction_text
returns-else-digits-eq0-clause-placed c = rw (ne_eqb c.args.digits 0 c.if-digits-eq0.false) c.place_part.ensures
