use Rattle.binlog_undo_command.proofs.undoing.put_log.Goals as goal

pub returns-in-Ok-write_log-clause-fine : goal.returns-in-Ok-write_log-clause-fine
returns-in-Ok-write_log-clause-fine g c = λ fine. record {
  begun = g.T.Draft.Write.contents c.in-Ok.draft;
  fresh = c.in-Ok.ensures.fresh;
  written = g.T.Draft.Write.contents c.in-Ok-write_log.draft;
  writes = c.in-Ok-write_log.ensures.ok;
  is = c.finish.ensures.fine fine;
}
