use Rattle.std.proofs.lemmas.Result.{on_ok_weaker}
use Rattle.binlog_undo_command.specs.Written.{WritesAll}
use Rattle.binlog_undo_command.proofs.writing.write_whole.Goals as goal

pub returns-in-Ok : goal.returns-in-Ok
returns-in-Ok g c =
    on_ok_weaker c.write_all.result
    (λ (writes : WritesAll (g.L.Logs.has_frames c.args.logs.now) g.L.Sought.Frames.is_at g.W.WriteCounted.contents c.args.is_one c.args.scanned.now (record c.args.output.now { writer = c.write_whole.new.self }) c.write_all.new.output).
    record { begun = c.write_whole.new.self; header = c.in-Ok.ensures.written; undoes = writes })
    c.write_all.ensures
