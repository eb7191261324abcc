use Rattle.std.proofs.Common.{ap, ◌∙◌}
use Rattle.binlog_later_changes.specs.Looks.{at_of}
use Rattle.binlog_later_changes.specs.Places.{places_of}
use Rattle.binlog_later_changes.specs.declared.later_scan.LaterScan.{LaterScan}
use Rattle.binlog_later_changes.proofs.SeenLogs.{later_if}
use Rattle.binlog_later_changes.proofs.finding.find_later.Goals as goal

pub returns-in-Ok : goal.returns-in-Ok
returns-in-Ok g c =
    later_if c.into_changes.result (g.R.ReadCounted.remaining c.args.input.now) c.args.rules c.args.log (places_of c.args.undone) c.args.changes c.new-spliced.result c.in-Ok.ensures.between
    c.visit_whole.new.scan.visitor c.in-Ok.ensures.tail_len
    c.new-spliced.ensures.limit (ap (λ (s : LaterScan). s.rules) c.new-spliced.ensures.visitor ∙ c.new-scan.ensures.rules) (ap (λ (s : LaterScan). s.log) c.new-spliced.ensures.visitor ∙ c.new-scan.ensures.log)
    (ap at_of c.new-spliced.ensures.visitor ∙ c.new-scan.ensures.at) (ap (λ (s : LaterScan). s.tables) c.new-spliced.ensures.visitor ∙ c.new-scan.ensures.tables)
    c.in-Ok.ensures.visits c.in-Ok.ensures.ends c.into_changes.ensures
