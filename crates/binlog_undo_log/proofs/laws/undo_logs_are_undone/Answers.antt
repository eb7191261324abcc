use Rattle.binlog_undo_index.specs.Parts.{parts_of}
use Rattle.binlog_undo_log.proofs.UndoneTwice.{undone_again, log_redone}
use Rattle.binlog_undo_log.proofs.laws.undo_logs_are_undone.Goals as goal

pub returns : goal.returns
returns g c = record {
  accepted = λ frames kept scan old new bytes choice checks skips start again new_log keeps writes written small all can fresh h.
      (undone_again (g.F.Frames.is_at frames) scan.checks choice all checks skips bytes small start again fresh h can g.W.WriteCounted.contents old new new_log written
      scan.description kept (parts_of scan.index).transactions (parts_of scan.index).changes keeps writes).again.refused;
  again = λ frames others kept scan old new bytes choice checks skips start again first last new_log keeps writes written small all can fresh h among fresh_log rewrites.
      log_redone g.V.WriteCounted.contents (g.F.Frames.is_at frames) (g.G.Frames.is_at others) kept bytes again first last
      (undone_again (g.F.Frames.is_at frames) scan.checks choice all checks skips bytes small start again fresh h can g.W.WriteCounted.contents old new new_log written
      scan.description kept (parts_of scan.index).transactions (parts_of scan.index).changes keeps writes) among fresh_log rewrites;
}
