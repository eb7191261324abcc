use Rattle.json.proofs.Printed.Places.{Placed-then}
use Rattle.json_line.proofs.place_next.place_next_named_number.Goals as goal

pub returns : goal.returns
returns c = Placed-then c.place_next_name-at.ensures.placed c.place_number.ensures.placed
