use Rattle.std.proofs.Common.{ap}
use Rattle.std.specs.Prelude.{is_some}
use Rattle.binlog_undo_command.specs.Descriptions.{HasNone, IsUnder}
use Rattle.binlog_undo_command.proofs.LogsSoFar.{all_next, all_end, any_here}
use Rattle.binlog_undo_command.proofs.descriptions.first_description.Goals as goal

pub returns-in-Some-clause-some : goal.returns-in-Some-clause-some
returns-in-Some-clause-some g c =
    any_here (IsUnder (g.L.Logs.has_frames c.args.logs.now) g.L.Sought.Frames.is_at c.in-Some.description.body.items c.in-Some.description.has_checksums)
    c.args.scanned.now c.loop-log.log-index _ c.loop-log-test.true c.log-item.is (rw c.in-Some.is at c.in_ok-description.ensures.some)

pub loop-log-preserved : goal.loop-log-preserved
loop-log-preserved g c =
    all_next HasNone c.args.scanned.now c.loop-log.log-index _ _ c.loop-log-test.true c.log-item.is c.loop-log.invariant
    (c.in_ok-description.ensures.none (ap is_some c.in_default.is))

pub returns-clause-none : goal.returns-clause-none
returns-clause-none g c = λ none. all_end HasNone c.args.scanned.now c.loop-log.log-index c.loop-log-test.false c.loop-log.invariant
