use Rattle.std.proofs.Common.{◌≡◌, ◌+◌, rules, arith, ap, length, take-add, length-take-le, take-append-drop}
use Rattle.std.proofs.lemmas.List.{take_rest}
use Rattle.json.proofs.Printed.Places.{Placed-then}
use Rattle.json_line.proofs.PlacedPlain.{on, on_map, joined, front_kept, ends_there}
use Rattle.json_line.proofs.place_plain.place_plain_blocks.Goals as goal

pub loop-done-preserved : goal.loop-done-preserved
loop-done-preserved g c =
    let text = c.args.text.now in
    let done = c.loop-done.done in
    let n = g.row.N in
    let both = Placed-then c.loop-done.invariant.2 (rw (take_rest text done) at c.place_front.ensures) in
    let whole = length-take-le (done + n) text (search rules) in
    let end : c.place_front.result ≡ c.args.at + (done + n) = omega (arith, both.moved, ap length (take-add done n text), whole) in
    (search rules, joined text done (done + n) c.loop-done.invariant.1 (rw c.if-not-is_plain_block.false at c.is_plain_block.ensures), rw (take-add done n text, ← end) both)

pub returns-clause-placed : goal.returns-clause-placed
returns-clause-placed g c =
    let text = c.args.text.now in
    let done = c.loop-done.done in
    on c.is_plain_from.result (ends_there (rw (take-append-drop done text) at (Placed-then c.loop-done.invariant.2 (rw (take_rest text done) at c.place_ends.ensures))))

pub returns-clause-plain : goal.returns-clause-plain
returns-clause-plain g c =
    on_map c.is_plain_from.result c.is_plain_from.ensures (joined c.args.text.now c.loop-done.done (length c.args.text.now) c.loop-done.invariant.1)

pub returns-clause-kept : goal.returns-clause-kept
returns-clause-kept g c = front_kept (search rules) (Placed-then c.loop-done.invariant.2 c.place_ends.ensures)

pub returns-then-not-is_plain_block-clause-kept : goal.returns-then-not-is_plain_block-clause-kept
returns-then-not-is_plain_block-clause-kept g c = front_kept (search rules) (Placed-then c.loop-done.invariant.2 c.place_front.ensures)
