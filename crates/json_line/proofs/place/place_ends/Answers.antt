use Rattle.std.proofs.Common.{◌-◌, rules, length}
use Rattle.std.proofs.lemmas.List.{take_rest}
use Rattle.json.proofs.Printed.Places.{Placed-ends}
use Rattle.json_line.proofs.place.place_ends.Goals as goal

pub returns : goal.returns
returns g c =
    let bytes = c.args.bytes.now in
    Placed-ends bytes g.row.N (search rules) c.requires.covers.0 c.requires.covers.1 c.place_front.ensures
    (rw (take_rest bytes (length bytes - g.row.N)) at c.place_front-2.ensures)
