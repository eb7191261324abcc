use Rattle.std.specs.Prelude.{◌==◌}
use Rattle.std.proofs.Common.{ℕ, ◌+◌, List, Bor, refl, arith}
use Rattle.binlog_cli.specs.Outputs.{written, unwritten}
use Rattle.binlog_event_commands.specs.Changes.{taking, ChangesFile}
use Rattle.binlog_inputs.specs.Positions.{in_file}
use Rattle.binlog_inputs.specs.Reading.{unless_followed, is_last, is_last_followed}
use Rattle.binlog_inputs.proofs.TakenFiles.{last_is_followed, last_is_last, taken_at, none_left}
use Rattle.binlog_event_commands.proofs.changes.write_files.Goals as goal

pub returns-in-Err : goal.returns-in-Err
returns-in-Err g c =
    let last = last_is_followed c.args.reading.is_followed c.args.names.now (c.loop-place.place + 1) (omega (arith, c.loop-place-test.true)) in
    let is_last_one = last_is_last c.args.names.now (c.loop-place.place + 1) (omega (arith, c.loop-place-test.true)) in
    rw c.unwritten.ensures (rw (c.of-asked.ensures, c.filter.ensures) at (c.loop-place.invariant (unwritten c.loop-place.status) c.write_file-read.result.1
    (taken_at (λ (index : ℕ) (behind : List (Bor (List ℕ))) (name : Bor (List ℕ)) old answer new. ChangesFile g.W.Write.contents c.args.reading.is_verified
    (unless_followed (is_last_followed c.args.reading.is_followed behind) (g.S.Inputs.bytes c.args.inputs.now name.now)) name.now
    (taking (in_file c.of-asked.result (index == 0) (is_last behind)) old) answer new)
    c.args.names.now c.loop-place.place _ c.loop-place-test.true c.loop-place.status c.loop-place.lines c.write_file-read.result.0 c.write_file-read.result.1 (unwritten c.loop-place.status) c.write_file-read.result.1
    (rw (last, is_last_one) at (rw (c.of_file.ensures, c.take_positions.ensures, c.in_file-positions.ensures) at c.write_file-read.ensures)) (rw c.in-Err.is (refl, refl)))))

pub loop-place-preserved : goal.loop-place-preserved
loop-place-preserved g c = λ result new others.
    let last = last_is_followed c.args.reading.is_followed c.args.names.now (c.loop-place.place + 1) (omega (arith, c.loop-place-test.true)) in
    let is_last_one = last_is_last c.args.names.now (c.loop-place.place + 1) (omega (arith, c.loop-place-test.true)) in
    c.loop-place.invariant result new
    (taken_at (λ (index : ℕ) (behind : List (Bor (List ℕ))) (name : Bor (List ℕ)) old answer new. ChangesFile g.W.Write.contents c.args.reading.is_verified
    (unless_followed (is_last_followed c.args.reading.is_followed behind) (g.S.Inputs.bytes c.args.inputs.now name.now)) name.now
    (taking (in_file c.of-asked.result (index == 0) (is_last behind)) old) answer new)
    c.args.names.now c.loop-place.place _ c.loop-place-test.true c.loop-place.status c.loop-place.lines c.write_file-read.result.0 c.write_file-read.result.1 result new
    (rw (last, is_last_one) at (rw (c.of_file.ensures, c.take_positions.ensures, c.in_file-positions.ensures) at c.write_file-read.ensures)) (rw c.in-Ok.is (rw c.worse-status.ensures at others)))

pub returns : goal.returns
returns g c =
    rw c.written.ensures (rw (c.of-asked.ensures, c.filter.ensures) at (c.loop-place.invariant (written c.loop-place.status) c.loop-place.lines
    (none_left (λ (index : ℕ) (behind : List (Bor (List ℕ))) (name : Bor (List ℕ)) old answer new. ChangesFile g.W.Write.contents c.args.reading.is_verified
    (unless_followed (is_last_followed c.args.reading.is_followed behind) (g.S.Inputs.bytes c.args.inputs.now name.now)) name.now
    (taking (in_file c.of-asked.result (index == 0) (is_last behind)) old) answer new)
    c.args.names.now c.loop-place.place c.loop-place-test.false c.loop-place.status c.loop-place.lines)))
