use Rattle.std.proofs.Common.{◌≡◌, ◌+◌, ◌-◌, ◌^◌, ◌∷◌, ◌++◌, [], Bool, true, take, drop, replicate, ap, ◌∙◌, arith}
use Rattle.std.specs.Prelude.{◌&&◌, nat_lt}
use Rattle.binary_json.specs.Opaques.{magnitude, number_behind, groups_fit}
use Rattle.binary_json.proofs.Decimals.{fit_step}
use Rattle.binary_json.proofs.decimal.groups_fit.Goals as goal

pub groups-preserved : goal.groups-preserved
groups-preserved c =
    let s = magnitude c.args.digits.now in
    let place = c.groups.place in
    let others = groups_fit (replicate (c.args.count - (c.groups.index + 1)) 9 ++ c.args.tail ∷ []) (drop (place + 4) s) in
    let fits : nat_lt (number_behind 0 (take 4 (drop place s))) (10 ^ 9) ≡ true = cc (c.group_fits.ensures, c.if-not-group_fits.false) in
    let step = fit_step c.args.count c.groups.index c.args.tail place s (omega arith) in
    (omega arith, c.groups.invariant.1 ∙ step ∙ ap (λ (b : Bool). b && others) fits)
