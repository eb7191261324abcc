use Rattle.std.specs.Prelude.{◌==◌}
use Rattle.std.proofs.Common.{List, Bor, ℕ, ◌+◌, refl, arith}
use Rattle.binlog_cli.specs.Outputs.{written, unwritten}
use Rattle.binlog_inputs.specs.Positions.{in_file}
use Rattle.binlog_inputs.specs.Reading.{unless_followed, is_last}
use Rattle.binlog_event_commands.specs.Verifying.{verifying, verifying_at, VerifiesFile}
use Rattle.binlog_inputs.proofs.TakenFiles.{last_is_last, taken_at, none_left}
use Rattle.binlog_event_commands.proofs.verifying.verify_files.Goals as goal

pub returns-in-Err : goal.returns-in-Err
returns-in-Err g c =
    let last = last_is_last c.args.files.now (c.loop-place.place + 1) (omega (arith, c.loop-place-test.true)) in
    rw c.unwritten.ensures (rw c.positions-asked.ensures at (c.loop-place.invariant (unwritten c.loop-place.status) (verifying c.verify_file.new.reported (g.W.Write.contents c.verify_file.new.output))
    (taken_at (λ (index : ℕ) (behind : List (Bor (List ℕ))) (name : Bor (List ℕ)) old answer new. VerifiesFile c.args.reading.is_verified (unless_followed c.args.reading.is_followed (g.S.Inputs.bytes c.args.inputs.now name.now)) c.args.is_quiet name.now
    (verifying_at (in_file c.positions-asked.result (index == 0) (is_last behind)) old) answer new)
    c.args.files.now c.loop-place.place _ c.loop-place-test.true c.loop-place.status (verifying c.loop-place.reported (g.W.Write.contents c.loop-place.output)) c.verify_file.result
    (verifying c.verify_file.new.reported (g.W.Write.contents c.verify_file.new.output)) (unwritten c.loop-place.status) (verifying c.verify_file.new.reported (g.W.Write.contents c.verify_file.new.output))
    (rw last at (rw (c.take_positions.ensures, c.in_file.ensures) at c.verify_file.ensures.verifies)) (rw c.in-Err.is (refl, refl)))))

pub loop-place-preserved : goal.loop-place-preserved
loop-place-preserved g c = λ result new others.
    let last = last_is_last c.args.files.now (c.loop-place.place + 1) (omega (arith, c.loop-place-test.true)) in
    c.loop-place.invariant result new
    (taken_at (λ (index : ℕ) (behind : List (Bor (List ℕ))) (name : Bor (List ℕ)) old answer new. VerifiesFile c.args.reading.is_verified (unless_followed c.args.reading.is_followed (g.S.Inputs.bytes c.args.inputs.now name.now)) c.args.is_quiet name.now
    (verifying_at (in_file c.positions-asked.result (index == 0) (is_last behind)) old) answer new)
    c.args.files.now c.loop-place.place _ c.loop-place-test.true c.loop-place.status (verifying c.loop-place.reported (g.W.Write.contents c.loop-place.output)) c.verify_file.result
    (verifying c.verify_file.new.reported (g.W.Write.contents c.verify_file.new.output)) result new
    (rw last at (rw (c.take_positions.ensures, c.in_file.ensures) at c.verify_file.ensures.verifies)) (rw c.in-Ok.is (rw c.worse-status.ensures at others)))

pub returns : goal.returns
returns g c =
    rw c.written.ensures (rw c.positions-asked.ensures at (c.loop-place.invariant (written c.loop-place.status) (verifying c.loop-place.reported (g.W.Write.contents c.loop-place.output))
    (none_left (λ (index : ℕ) (behind : List (Bor (List ℕ))) (name : Bor (List ℕ)) old answer new. VerifiesFile c.args.reading.is_verified (unless_followed c.args.reading.is_followed (g.S.Inputs.bytes c.args.inputs.now name.now)) c.args.is_quiet name.now
    (verifying_at (in_file c.positions-asked.result (index == 0) (is_last behind)) old) answer new)
    c.args.files.now c.loop-place.place c.loop-place-test.false c.loop-place.status (verifying c.loop-place.reported (g.W.Write.contents c.loop-place.output)))))
