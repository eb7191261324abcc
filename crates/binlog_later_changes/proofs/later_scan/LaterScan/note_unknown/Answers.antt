use Rattle.std.proofs.Common.{sym, ◌∙◌}
use Rattle.binlog_later_changes.proofs.SeenEvents.{sees_skipped, sees_unknown}
use Rattle.binlog_later_changes.proofs.later_scan.LaterScan.note_unknown.Goals as goal

pub returns-then-has-clause-ok : goal.returns-then-has-clause-ok
returns-then-has-clause-ok c = sees_skipped c.args.self.now c.args.reason (sym c.has.ensures ∙ c.if-has.true)

pub returns-clause-ok : goal.returns-clause-ok
returns-clause-ok c =
    sees_unknown c.args.self.now c.args.reason c.event-here.result c.change_any.new.self (sym c.has.ensures ∙ c.if-has.false) c.event-here.ensures c.in_ok-change_any.ensures
