use Rattle.json.proofs.Printed.Places.{Placed-then}
use Rattle.json_line.proofs.place_decimal.place_digits.Goals as goal

pub returns-clause-placed : goal.returns-clause-placed
returns-clause-placed c = Placed-then c.place_byte-nines.ensures (Placed-then c.place_nines-last.ensures.placed c.place_last.ensures.placed)
