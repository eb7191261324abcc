use Rattle.json.proofs.Printed.Places.{Placed-then}
use Rattle.json_line.proofs.place_decimal.place_decimal.Goals as goal

pub returns-clause-placed : goal.returns-clause-placed
returns-clause-placed c = Placed-then c.place_number-nines.ensures.placed (Placed-then c.place_nines-point.ensures.placed c.place_scale.ensures.placed)
