use Rattle.json.proofs.Printed.Places.{Placed-then}
use Rattle.json_line.specs.Decimals.{decimal_text}
use Rattle.json_line.proofs.place_next.place_next_decimal.Goals as goal

pub returns : goal.returns
unfolding decimal_text
returns c =
    Placed-then c.place_comma-at.ensures
    (Placed-then c.place_byte-at.ensures (Placed-then (Placed-then c.place_minus-at.ensures.placed c.place_decimal-at.ensures.placed) c.place_byte.ensures))
