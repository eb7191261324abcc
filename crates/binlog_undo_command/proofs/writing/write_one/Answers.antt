use Rattle.std.proofs.lemmas.Result.{on_ok_weaker}
use Rattle.binlog_undo_log.specs.Files.{WritesFile}
use Rattle.binlog_undo_command.proofs.writing.write_one.Goals as goal

pub returns : goal.returns
returns g c =
    on_ok_weaker c.write_file-written.result
    (λ (writes : WritesFile g.W.WriteCounted.contents (g.L.Sought.Frames.is_at c.in_ok-frames.frames) c.args.log.now.scan c.args.output.now c.write_file-written.new.output).
    record { frames = c.in_ok-frames.frames; are = c.in_ok-frames.ensures; writes = writes })
    c.write_file-written.ensures
