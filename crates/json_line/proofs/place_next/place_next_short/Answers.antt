use Rattle.json.proofs.Printed.Places.{Placed-then}
use Rattle.json_line.proofs.place_next.place_next_short.Goals as goal

pub returns : goal.returns
returns c = Placed-then c.place_comma-at.ensures c.place_short.ensures
