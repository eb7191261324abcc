use Rattle.json.proofs.Printed.Places.{Placed-then}
use Rattle.json_line.proofs.place_next.place_next_between.Goals as goal

pub returns : goal.returns
returns c = Placed-then c.place_comma-at.ensures (Placed-then c.place_bytes-at.ensures (Placed-then c.place_bytes-at-2.ensures c.place_bytes.ensures))
