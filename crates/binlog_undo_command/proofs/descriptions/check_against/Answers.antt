use Rattle.std.proofs.Common.{◌⊎◌}
use Rattle.std.proofs.lemmas.Result.{err_from_is_err_and}
use Rattle.binlog_undo_command.specs.Descriptions.{HasNone, IsUnder, IsUnderOther}
use Rattle.binlog_undo_command.specs.declared.scanning.ScannedLog.{ScannedLog}
use Rattle.binlog_undo_command.proofs.LogsSoFar.{all_next, all_end, any_here}
use Rattle.binlog_undo_command.proofs.descriptions.check_against.Goals as goal

pub returns-in_err-check_log-clause-differ : goal.returns-in_err-check_log-clause-differ
returns-in_err-check_log-clause-differ g c =
    let p = err_from_is_err_and c.from_residual.result c.from_residual.ensures.1 in
    rw (p.1, p.2) (λ damaged.
    any_here (IsUnderOther (g.L.Logs.has_frames c.args.logs.now) g.L.Sought.Frames.is_at c.args.first.now.body.items c.args.first.now.has_checksums)
    c.args.scanned.now c.loop-log.log-index _ c.loop-log-test.true c.log-item.is (c.in_err-check_log.ensures.differ damaged))

pub loop-log-preserved : goal.loop-log-preserved
loop-log-preserved g c =
    all_next (λ (log : ScannedLog). HasNone log ⊎ IsUnder (g.L.Logs.has_frames c.args.logs.now) g.L.Sought.Frames.is_at c.args.first.now.body.items c.args.first.now.has_checksums log)
    c.args.scanned.now c.loop-log.log-index _ _ c.loop-log-test.true c.log-item.is c.loop-log.invariant c.in_ok-check_log.ensures.ok

pub returns-clause-ok : goal.returns-clause-ok
returns-clause-ok g c =
    all_end (λ (log : ScannedLog). HasNone log ⊎ IsUnder (g.L.Logs.has_frames c.args.logs.now) g.L.Sought.Frames.is_at c.args.first.now.body.items c.args.first.now.has_checksums log)
    c.args.scanned.now c.loop-log.log-index c.loop-log-test.false c.loop-log.invariant
