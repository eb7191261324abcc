use Rattle.binlog_undo_index.specs.Parts.{parts_of}
use Rattle.binlog_undo_log.proofs.GrowingLogs.{new_so_far, log_grows}
use Rattle.binlog_undo_log.proofs.laws.undo_logs_grow.Goals as goal

pub returns : goal.returns
returns g c = record {
  first = λ output h. new_so_far g.W.WriteCounted.contents output h;
  more = λ frames events scan old new so_far h.
      log_grows g.W.WriteCounted.contents (g.F.Frames.is_at frames) scan.checks scan.description (parts_of scan.index).transactions (parts_of scan.index).changes events old new so_far h;
}
