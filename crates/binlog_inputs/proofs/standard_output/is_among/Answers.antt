use Rattle.std.proofs.Common.{true, false, ℕ, List, Bor}
use Rattle.binlog_inputs.specs.StandardOutput.{Asks}
use Rattle.binlog_inputs.proofs.NamesSoFar.{all_next, all_end, any_here}
use Rattle.binlog_inputs.proofs.standard_output.is_among.Goals as goal

pub returns-then-is_named-clause-one : goal.returns-then-is_named-clause-one
returns-then-is_named-clause-one g c = λ same.
    let here = rw c.if-is_named.true at c.is_named.ensures in
    any_here (λ (name : Bor (List ℕ)). Asks (g.S.LogFiles.has_named c.args.inputs.now) c.args.file name.now true)
    c.args.names.now c.loop-name.name-index _ c.loop-name-test.true here

pub loop-name-preserved : goal.loop-name-preserved
loop-name-preserved g c =
    let here = rw c.if-is_named.false at c.is_named.ensures in
    all_next (λ (name : Bor (List ℕ)). Asks (g.S.LogFiles.has_named c.args.inputs.now) c.args.file name.now false)
    c.args.names.now c.loop-name.name-index _ c.loop-name-test.true c.loop-name.invariant here

pub returns-clause-none : goal.returns-clause-none
returns-clause-none g c = λ same.
    all_end (λ (name : Bor (List ℕ)). Asks (g.S.LogFiles.has_named c.args.inputs.now) c.args.file name.now false)
    c.args.names.now c.loop-name.name-index c.loop-name-test.false c.loop-name.invariant
