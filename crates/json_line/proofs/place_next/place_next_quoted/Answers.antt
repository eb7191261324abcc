use Rattle.json.proofs.Printed.Places.{Placed-then}
use Rattle.json_line.proofs.place_next.place_next_quoted.Goals as goal

pub returns : goal.returns
returns c = Placed-then c.place_comma-at.ensures (Placed-then c.place_byte-at.ensures (Placed-then c.place_bytes-at.ensures c.place_byte.ensures))
