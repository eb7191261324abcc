use Rattle.std.proofs.Common.{◌≡◌, ◌+◌, rules, arith, ap, length, take-add, length-take-le, take-append-drop}
use Rattle.std.proofs.lemmas.List.{take_rest}
use Rattle.json.proofs.Printed.Places.{Placed-then}
use Rattle.json_line.proofs.place.place_long.Goals as goal

pub loop-done-preserved : goal.loop-done-preserved
loop-done-preserved c =
    let bytes = c.args.bytes.now in
    let done = c.loop-done.done in
    let both = Placed-then c.loop-done.invariant.1 (rw (take_rest bytes done) at c.place_front.ensures) in
    let whole = length-take-le (done + 32) bytes (search rules) in
    let end : c.place_front.result ≡ c.args.at + (done + 32) = omega (arith, both.moved, ap length (take-add done 32 bytes), whole) in
    (search rules, rw (take-add done 32 bytes, ← end) both)

pub returns : goal.returns
returns c =
    let bytes = c.args.bytes.now in
    let done = c.loop-done.done in
    rw (take-append-drop done bytes) at (Placed-then c.loop-done.invariant.1 (rw (take_rest bytes done) at c.place_ends.ensures))
