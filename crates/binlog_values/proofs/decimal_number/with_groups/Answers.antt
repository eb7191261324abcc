use Rattle.std.proofs.Common.{rules, ◌≡◌, ◌≤◌, ◌+◌, ◌-◌, ◌*◌, ◌^◌, ◌∷◌, ◌++◌, [], ℕ, List, ap, drop, replicate, sym, ◌∙◌, arith}
use Rattle.byteorder.specs.Endian.{big_number}
use Rattle.binlog_values.specs.Contents.{magnitude}
use Rattle.binlog_values.specs.Decimals.{digits_count, groups_number}
use Rattle.binlog_values.specs.DecimalLaws.{number_step, number_over, power_some}
use Rattle.binlog_values.proofs.decimal_number.with_groups.Goals as goal

pub returns-in_err-number : goal.returns-in_err-number
returns-in_err-number c =
    let s = magnitude c.args.bytes.now in
    let counts : List ℕ = replicate (c.args.count - (c.loop-index._index + 1)) 9 ++ c.args.tail ∷ [] in
    let step = number_step c.args.count c.loop-index._index c.args.tail c.loop-index.place c.loop-index.number s (omega arith) in
    let group : c.group_number.result ≡ big_number 4 (drop c.loop-index.place s) = c.group_number.ensures in
    let found : 2 ^ 128 ≤ c.loop-index.number * 10 ^ 9 + c.group_number.result = c.in_err-number.ensures in
    let many : 2 ^ 128 ≤ c.loop-index.number * 10 ^ 9 + big_number 4 (drop c.loop-index.place s) = rw (← group) found in
    let over = number_over (2 ^ 128) _ (10 ^ digits_count counts) (groups_number counts (drop (c.loop-index.place + 4) s)) many (power_some (digits_count counts)) in
    rw (c.from_residual.ensures, ← c.loop-index.invariant.1, step) over

pub loop-index-preserved : goal.loop-index-preserved
loop-index-preserved c =
    let s = magnitude c.args.bytes.now in
    let counts : List ℕ = replicate (c.args.count - (c.loop-index._index + 1)) 9 ++ c.args.tail ∷ [] in
    let rest : ℕ = groups_number counts (drop (c.loop-index.place + 4) s) in
    let step = number_step c.args.count c.loop-index._index c.args.tail c.loop-index.place c.loop-index.number s (omega arith) in
    let joined : c.in_ok-number.number ≡ c.loop-index.number * 10 ^ 9 + c.group_number.result = search rules in
    let is : c.in_ok-number.number ≡ c.loop-index.number * 10 ^ 9 + big_number 4 (drop c.loop-index.place s) = joined ∙ ap (λ (g : ℕ). c.loop-index.number * 10 ^ 9 + g) c.group_number.ensures in
    (omega arith, ap (λ (n : ℕ). n * 10 ^ digits_count counts + rest) is ∙ sym step ∙ c.loop-index.invariant.1)
