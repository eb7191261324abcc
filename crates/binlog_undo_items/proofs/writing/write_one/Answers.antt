use Rattle.std.proofs.Common.{List, ℕ, OnOk, subst}
use Rattle.binlog_undo_log.specs.Places.{IsFrameIn}
use Rattle.binlog_undo_log.specs.Files.{WritesFile}
use Rattle.binlog_undo_items.proofs.writing.write_one.Goals as goal

pub returns : goal.returns
returns g c =
    subst (λ (bytes : List ℕ). OnOk c.write_file.result (WritesFile g.W.WriteCounted.contents (IsFrameIn bytes) c.args.log.now.scan c.args.output.now c.write_file.new.output))
    c.new-frames.ensures c.write_file.ensures
