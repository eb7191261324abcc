use Rattle.std.proofs.Common.{◌≡◌, take, arith}
use Rattle.std.proofs.lemmas.List.{take_all}
use Rattle.json.proofs.Printed.Places.{Placed-then}
use Rattle.json_line.proofs.Decimals.{nines_more, length-nines_text}
use Rattle.json_line.proofs.place_decimal.place_nines.Goals as goal

pub groups-preserved : goal.groups-preserved
groups-preserved c = (
  rw (nines_more c.groups.group-index c.args.groups.now c.groups-test.true) (Placed-then c.groups.invariant.0 c.place_last-place.ensures.placed),
  omega (arith, c.groups.invariant.1, c.place_last-place.ensures.end),
)

pub returns-clause-placed : goal.returns-clause-placed
returns-clause-placed c =
    let all : take c.groups.group-index c.args.groups.now ≡ c.args.groups.now = take_all c.groups.group-index c.args.groups.now (omega arith) in
    rw all at c.groups.invariant.0

pub returns-clause-end : goal.returns-clause-end
returns-clause-end c =
    let all : take c.groups.group-index c.args.groups.now ≡ c.args.groups.now = take_all c.groups.group-index c.args.groups.now (omega arith) in
    let placed = rw all at c.groups.invariant.0 in
    omega (arith, placed.moved, length-nines_text c.args.groups.now)
