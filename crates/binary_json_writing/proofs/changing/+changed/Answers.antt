use Rattle.std.proofs.Common.{◌≡◌, ◌<◌, List, ◌∷◌, length, map, sym, ap}
use Rattle.std.specs.Prelude.{option_map}
use Rattle.std.proofs.lemmas.Result.{err_from_is_err_and}
use Rattle.binary_json.specs.Views.{json}
use Rattle.binary_json_writing.specs.declared.paths.JsonPathLeg.{JsonPathLeg}
use Rattle.binary_json_writing.specs.Paths.{leg_of}
use Rattle.binary_json_writing.proofs.PathLegs.{some_mapped}
use Rattle.binary_json_writing.proofs.Placed.{index_place, inner_fails}
use Rattle.binary_json_writing.proofs.changing.+changed.Goals as goal

pub returns-in_err-inner-clause-refused : goal.returns-in_err-inner-clause-refused
returns-in_err-inner-clause-refused t c =
    let p = err_from_is_err_and c.from_residual-in_err-inner.result c.from_residual-in_err-inner.ensures.1 in
    let o = c.args.operation in
    let new = option_map json c.args.new.now in
    let v = json c.args.value.now in
    let leg = leg_of c.in-Some.leg.now in
    let rest = map leg_of c.in-Some.rest.now in
    let legs : map leg_of c.args.legs.now ≡ leg ∷ rest = ap (λ (l : List JsonPathLeg). map leg_of l) c.in-Some.ensures.cases.0 in
    let more : 0 < length rest = some_mapped leg_of c.in-Some.rest.now c.is_empty.result c.is_empty.ensures c.if-is_empty.false in
    let at = sym c.in-Some-entry_at.ensures in
    rw (p.1, p.2, legs) (inner_fails o new leg v rest c.in_ok-index.index (c.in-Some-entry_at.field-0-0.now, json c.in-Some-entry_at.entry) _ more c.in_ok-index.ensures at c.in_err-inner.ensures.refused)

pub spliced-requires-clause-within : goal.spliced-requires-clause-within
spliced-requires-clause-within t c = (index_place (leg_of c.in-Some.leg.now) (json c.args.value.now) c.in_ok-index.index c.in_ok-index.ensures).room
