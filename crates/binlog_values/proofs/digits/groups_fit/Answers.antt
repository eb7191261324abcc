use Rattle.std.proofs.Common.{◌≡◌, ◌+◌, ◌-◌, ◌^◌, ◌∷◌, ◌++◌, [], Bool, true, drop, replicate, ap, ◌∙◌, arith}
use Rattle.std.specs.Prelude.{◌&&◌, nat_lt}
use Rattle.byteorder.specs.Endian.{big_number}
use Rattle.binlog_values.specs.Contents.{magnitude, groups_fit}
use Rattle.binlog_values.specs.DecimalLaws.{fit_step}
use Rattle.binlog_values.proofs.digits.groups_fit.Goals as goal

pub loop-index-preserved : goal.loop-index-preserved
loop-index-preserved c =
    let s = magnitude c.args.bytes.now in
    let place = c.loop-index.place in
    let others = groups_fit (replicate (c.args.count - (c.loop-index._index + 1)) 9 ++ c.args.tail ∷ []) (drop (place + 4) s) in
    let fits : nat_lt (big_number 4 (drop place s)) (10 ^ 9) ≡ true = cc (c.group_fits.ensures, c.if-not-group_fits.false) in
    let step = fit_step c.args.count c.loop-index._index c.args.tail place s (omega arith) in
    (omega arith, c.loop-index.invariant.1 ∙ step ∙ ap (λ (b : Bool). b && others) fits)
