use Rattle.std.proofs.Common.{inl, inr}
use Rattle.binlog_event_commands.proofs.copying.copy_to.Goals as goal

pub returns-in-Ok-clause-ok : goal.returns-in-Ok-clause-ok
returns-in-Ok-clause-ok g c = inl (record {
  filter = c.in_ok-filter.filter;
  states = c.in_ok-filter.ensures.ok;
  output = c.in_ok-output.output;
  begins = record { has = c.in_ok-output.ensures.bytes; fine = c.in_ok-output.ensures.fine };
  outcome = c.in-Ok.outcome;
  behind = c.in-Ok.output;
  copies = c.in-Ok.ensures;
  ends = c.finish.ensures;
})

pub returns-in-Err-clause-ok : goal.returns-in-Err-clause-ok
returns-in-Err-clause-ok g c = inr (record {
  output = c.in-Err.output;
  ends = rw c.unwritten.ensures at c.finish-in-Err.ensures;
})
