use Rattle.binlog_undo_command.proofs.RowCounts.{log_counted}
use Rattle.binlog_undo_command.proofs.row_counts.count_log.Goals as goal

pub returns-in-Ok-visit_undone_rows-clause-ok : goal.returns-in-Ok-visit_undone_rows-clause-ok
returns-in-Ok-visit_undone_rows-clause-ok g c =
    log_counted (g.L.Logs.has_frames c.args.logs.now) g.L.Sought.Frames.is_at c.visit_undone_rows.result c.in-Ok-visit_undone_rows.field-0 c.args.log.now c.in-Ok.frames
    c.args.rows.now c.visit_undone_rows.new.visitor c.in-Ok-visit_undone_rows.is c.in-Ok.ensures c.visit_undone_rows.ensures
