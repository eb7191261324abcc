use Rattle.std.proofs.Common.{ℕ, Bor, List, map, refl, sym, subst}
use Rattle.binlog_undo_command.specs.LaterLogs.{FindsInLater}
use Rattle.binlog_undo_command.proofs.LaterFound.{left_end, finds_next}
use Rattle.binlog_undo_command.proofs.later_logs.look_at_later.Goals as goal

pub loop-name-init : goal.loop-name-init
loop-name-init g c = λ end all. all

pub loop-name-preserved : goal.loop-name-preserved
loop-name-preserved g c = λ end more.
    c.loop-name.invariant end (finds_next (g.L.Logs.bytes c.args.logs.now) c.args.rules c.loop-name.number _ c.args.later.now c.loop-name.name-index _ c.loop-name.changes c.in_ok-changes.changes end _
    c.loop-name-test.true c.new-undone.ensures c.in_ok-changes.ensures.ok c.saturating_add-number.ensures more)

pub returns-clause-ok : goal.returns-clause-ok
returns-clause-ok g c =
    c.loop-name.invariant c.loop-name.changes (subst (λ (l : List (Bor (List ℕ))). FindsInLater (g.L.Logs.bytes c.args.logs.now) c.args.rules c.loop-name.number (map (λ (name : Bor (List ℕ)). name.now) l) c.loop-name.changes c.loop-name.changes)
    (sym (left_end c.args.later.now c.loop-name.name-index c.loop-name-test.false)) refl)
