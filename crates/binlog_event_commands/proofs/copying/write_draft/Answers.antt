use Rattle.binlog_event_commands.proofs.FileEnds.{whole_file}
use Rattle.binlog_event_commands.proofs.copying.write_draft.Goals as goal

pub returns-in-Ok-clause-ok : goal.returns-in-Ok-clause-ok
returns-in-Ok-clause-ok g c = λ is_fine.
    let whole = whole_file _ _ c.finish_file.result.0 is_fine c.in-Ok.output.failure c.in-Ok.outcome c.finish_file.ensures in
    record {
      filter = c.args.filter;
      states = c.requires.states;
      output = c.in_ok-output.output;
      begins = record { has = c.in_ok-output.ensures.bytes; fine = c.in_ok-output.ensures.fine };
      behind = c.in-Ok.output;
      copies = rw whole.0 at c.in-Ok.ensures;
      whole = whole.1;
    }
