use Rattle.std.proofs.Common.{Some, None, [], ◌∷◌, refl}
use Rattle.std.proofs.lemmas.Result.{on_ok_weaker}
use Rattle.binlog_undo_log.specs.Output.{Pushes}
use Rattle.binlog_undo_log.specs.Undoing.{commit_event}
use Rattle.binlog_undo_command.proofs.writing.write_one_transaction.Goals as goal

pub returns-in_default : goal.returns-in_default
returns-in_default g c = record {
  commit = None;
  begun = c.begin_logs.new.output;
  begins = rw c.in_default.is at c.in_ok-commit.ensures;
  ends = refl;
}

pub returns : goal.returns
returns g c =
    on_ok_weaker c.end_logs.result
    (λ (ends : Pushes g.W.WriteCounted.contents (commit_event c.in-Some.commit.header c.in-Some.commit.xid ∷ []) c.write_logs.new.output c.end_logs.new.output). record {
      commit = Some c.in-Some.commit;
      begun = c.begin_logs.new.output;
      begins = rw c.in-Some.is at c.in_ok-commit.ensures;
      ends = (c.write_logs.new.output, c.in_ok-write_logs.ensures, ends);
    })
    c.end_logs.ensures
