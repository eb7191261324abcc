use Rattle.std.proofs.Common.{◌≡◌, ℕ, List, ◌∷◌, [], ◌++◌, map, ap, sym, subst, ◌∙◌}
use Rattle.std.proofs.lemmas.Result.{err_from_is_err_and}
use Rattle.binary_json_writing.specs.declared.paths.JsonPathLeg.{JsonPathLeg}
use Rattle.binary_json_writing.specs.Paths.{Leg, leg_of, AreLegs}
use Rattle.binary_json_writing.proofs.Built.{map_more}
use Rattle.binary_json_writing.proofs.PathLegs.{legs_more, legs_refused, is_over}
use Rattle.binary_json_writing.proofs.paths.legs.Goals as goal

pub legs-preserved : goal.legs-preserved
legs-preserved c =
    let bytes = c.args.bytes.now in
    let legs = c.legs.legs.items in
    let others = c.in_ok-leg.others.now in
    let leg = c.in_ok-leg.leg in
    let more = legs_more (map leg_of legs) bytes c.legs.rest.now others (leg_of leg) c.legs.invariant c.in_ok-leg.ensures.found in
    let same : map leg_of c.push.new.legs.items ≡ map leg_of legs ++ leg_of leg ∷ [] = ap (λ (l : List JsonPathLeg). map leg_of l) c.in_ok-push.ensures ∙ map_more leg_of legs leg in
    subst (λ (ls : List Leg). AreLegs ls bytes others) (sym same) more

pub returns-clause-found : goal.returns-clause-found
returns-clause-found c =
    let over = is_over c.legs.rest.now c.is_empty.result c.is_empty.ensures c.legs-test.false in
    subst (λ (r : List ℕ). AreLegs (map leg_of c.legs.legs.items) c.args.bytes.now r) over c.legs.invariant

pub returns-in_err-leg-clause-refused : goal.returns-in_err-leg-clause-refused
returns-in_err-leg-clause-refused c =
    let p = err_from_is_err_and c.from_residual.result c.from_residual.ensures.1 in
    rw (p.1, p.2) (legs_refused (map leg_of c.legs.legs.items) c.args.bytes.now c.legs.rest.now _ c.is_empty.result c.is_empty.ensures c.legs-test.true c.legs.invariant c.in_err-leg.ensures.refused)
