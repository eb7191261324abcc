use Rattle.json.proofs.Printed.Places.{Placed-then}
use Rattle.json_line.proofs.place_next.place_next_name.Goals as goal

pub returns-clause-placed : goal.returns-clause-placed
returns-clause-placed c =
    Placed-then c.place_comma-at.ensures
    (Placed-then c.place_byte-at.ensures (Placed-then c.place_bytes-at.ensures (Placed-then c.place_byte-at-2.ensures c.place_byte.ensures)))
