use Rattle.std.specs.Prelude.{◌==◌}
use Rattle.std.proofs.Common.{ℕ, ◌+◌, List, Bor, refl, arith}
use Rattle.binlog_cli.specs.Outputs.{written, unwritten}
use Rattle.binlog_inputs.specs.Positions.{in_file}
use Rattle.binlog_inputs.specs.Reports.{taking}
use Rattle.binlog_inputs.specs.Reading.{unless_followed, is_last, is_last_followed, ReadsFile}
use Rattle.binlog_inputs.proofs.TakenFiles.{last_is_followed, last_is_last, taken_at, none_left}
use Rattle.binlog_inputs.proofs.files.read_files.Goals as goal

pub returns-in-Err : goal.returns-in-Err
returns-in-Err g c =
    let last = last_is_followed c.args.reading.is_followed c.args.names.now (c.loop-place.place + 1) (omega (arith, c.loop-place-test.true)) in
    let is_last_one = last_is_last c.args.names.now (c.loop-place.place + 1) (omega (arith, c.loop-place-test.true)) in
    rw c.unwritten.ensures (c.loop-place.invariant (unwritten c.loop-place.status) c.read_file.new.visitor
    (taken_at (λ (index : ℕ) (behind : List (Bor (List ℕ))) (name : Bor (List ℕ)) old answer new. ReadsFile g.T.Visitor.visits g.T.Visitor.refuses g.T.Refusing.refusals c.args.reading.is_verified
    (unless_followed (is_last_followed c.args.reading.is_followed behind) (g.S.Inputs.bytes c.args.inputs.now name.now)) (taking (in_file c.args.asked (index == 0) (is_last behind)) old) answer new)
    c.args.names.now c.loop-place.place _ c.loop-place-test.true c.loop-place.status c.loop-place.visitor c.read_file.result c.read_file.new.visitor (unwritten c.loop-place.status) c.read_file.new.visitor
    (rw (last, is_last_one) at (rw (c.of_file.ensures, c.take_positions.ensures, c.in_file.ensures) at c.read_file.ensures.reads)) (rw c.in-Err.is (refl, refl))))

pub loop-place-preserved : goal.loop-place-preserved
loop-place-preserved g c = λ result new others.
    let last = last_is_followed c.args.reading.is_followed c.args.names.now (c.loop-place.place + 1) (omega (arith, c.loop-place-test.true)) in
    let is_last_one = last_is_last c.args.names.now (c.loop-place.place + 1) (omega (arith, c.loop-place-test.true)) in
    c.loop-place.invariant result new
    (taken_at (λ (index : ℕ) (behind : List (Bor (List ℕ))) (name : Bor (List ℕ)) old answer new. ReadsFile g.T.Visitor.visits g.T.Visitor.refuses g.T.Refusing.refusals c.args.reading.is_verified
    (unless_followed (is_last_followed c.args.reading.is_followed behind) (g.S.Inputs.bytes c.args.inputs.now name.now)) (taking (in_file c.args.asked (index == 0) (is_last behind)) old) answer new)
    c.args.names.now c.loop-place.place _ c.loop-place-test.true c.loop-place.status c.loop-place.visitor c.read_file.result c.read_file.new.visitor result new
    (rw (last, is_last_one) at (rw (c.of_file.ensures, c.take_positions.ensures, c.in_file.ensures) at c.read_file.ensures.reads)) (rw c.in-Ok.is (rw c.worse-status.ensures at others)))

pub returns : goal.returns
returns g c =
    rw c.written.ensures (c.loop-place.invariant (written c.loop-place.status) c.loop-place.visitor
    (none_left (λ (index : ℕ) (behind : List (Bor (List ℕ))) (name : Bor (List ℕ)) old answer new. ReadsFile g.T.Visitor.visits g.T.Visitor.refuses g.T.Refusing.refusals c.args.reading.is_verified
    (unless_followed (is_last_followed c.args.reading.is_followed behind) (g.S.Inputs.bytes c.args.inputs.now name.now)) (taking (in_file c.args.asked (index == 0) (is_last behind)) old) answer new)
    c.args.names.now c.loop-place.place c.loop-place-test.false c.loop-place.status c.loop-place.visitor))
