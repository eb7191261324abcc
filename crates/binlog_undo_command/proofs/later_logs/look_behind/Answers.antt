use Rattle.std.proofs.Common.{ℕ, ◌+◌, Bor, List, drop, map, sym, subst}
use Rattle.binlog_undo_command.specs.LaterLogs.{FindsInAll}
use Rattle.binlog_undo_command.specs.declared.scanning.ScannedLog.{ScannedLog}
use Rattle.binlog_undo_command.proofs.LaterFound.{if_ok, left_more, left_end}
use Rattle.binlog_undo_command.proofs.later_logs.look_behind.Goals as goal

pub loop-log-init : goal.loop-log-init
loop-log-init g c = λ end all. (c.new-changes.result, c.new-changes.ensures, all)

pub loop-log-preserved : goal.loop-log-preserved
loop-log-preserved g c = λ end more.
    let finds = FindsInAll (g.L.Logs.bytes c.args.logs.now) (g.L.Logs.has_frames c.args.logs.now) g.L.Sought.Frames.is_at c.args.rules in
    let names = map (λ (name : Bor (List ℕ)). name.now) c.args.later.now in
    c.loop-log.invariant end (subst (λ (l : List ScannedLog). finds c.loop-log.number l names c.loop-log.changes end)
    (sym (left_more c.args.scanned.now c.loop-log.log-index _ _ c.loop-log-test.true c.log-item.is)) (
      c.in_ok-changes.changes,
      c.in_ok-changes.ensures.ok,
      subst (λ (n : ℕ). finds n (drop (c.loop-log.log-index + 1) c.args.scanned.now) names c.in_ok-changes.changes end) c.saturating_add-number.ensures more,
    ))

pub returns-clause-ok : goal.returns-clause-ok
returns-clause-ok g c =
    let finds = FindsInAll (g.L.Logs.bytes c.args.logs.now) (g.L.Logs.has_frames c.args.logs.now) g.L.Sought.Frames.is_at c.args.rules in
    let names = map (λ (name : Bor (List ℕ)). name.now) c.args.later.now in
    if_ok c.look_at_later.result _ _
    (λ changes found. c.loop-log.invariant changes (subst (λ (l : List ScannedLog). finds c.loop-log.number l names c.loop-log.changes changes)
    (sym (left_end c.args.scanned.now c.loop-log.log-index c.loop-log-test.false)) found))
    c.look_at_later.ensures.ok
