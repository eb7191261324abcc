use Rattle.std.proofs.Common.{List, ℕ, [], ◌∷◌, inr, subst}
use Rattle.std.proofs.lemmas.Result.{on_ok_weaker}
use Rattle.binlog_undo_log.specs.Places.{IsFrameIn}
use Rattle.binlog_undo_log.specs.OneTransaction.{BeginsOne}
use Rattle.binlog_undo_log.specs.Output.{Pushes}
use Rattle.binlog_undo_log.specs.Undoing.{commit_event}
use Rattle.binlog_undo_items.proofs.writing.write_as_one.Goals as goal

pub returns : goal.returns
returns g c =
    let begins =
    subst (λ (bytes : List ℕ). BeginsOne g.W.WriteCounted.contents (IsFrameIn bytes) c.in-Some.last.now.scan c.in_ok-commit.commit c.args.output.now c.begin_one.new.output)
    c.new-frames.ensures c.in_ok-commit.ensures in
    on_ok_weaker c.write.result
    (λ (ends : Pushes g.W.WriteCounted.contents (commit_event c.in_ok-commit.commit.header c.in_ok-commit.commit.xid ∷ []) c.write_logs.new.output c.write.new.output).
    inr (record {
      last = c.in-Some.last.now;
      is_last = c.in-Some.ensures;
      commit = c.in_ok-commit.commit;
      begun = c.begin_one.new.output;
      begins = begins;
      undone = c.write_logs.new.output;
      undoes = c.in_ok-write_logs.ensures;
      ends = ends;
    }))
    c.write.ensures
