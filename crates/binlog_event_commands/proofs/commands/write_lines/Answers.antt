use Rattle.std.proofs.Common.{◌∙◌}
use Rattle.binlog_event_commands.proofs.commands.write_lines.Goals as goal

pub returns-clause-ok : goal.returns-clause-ok
returns-clause-ok g c = record {
  filter = c.in_ok-outcome.ensures.ok.0;
  states = c.in_ok-outcome.ensures.ok.1;
  start = c.new-lines.result;
  begins = record { has = rw (c.new-lines.ensures.output, c.new.ensures) c.in_ok-output.ensures.bytes; fine = rw (c.new-lines.ensures.output, c.new.ensures) c.in_ok-output.ensures.fine };
  made = rw (c.new-lines.ensures.output, c.new.ensures) (c.in_ok-output.ensures.capacity ∙ c.output_capacity-capacity.ensures);
  outcome = c.in_ok-outcome.outcome;
  behind = c.in_ok-outcome.lines;
  shown = c.in_ok-outcome.ensures.ok.2;
  ends = rw (c.into_inner.ensures, c.into_output.ensures) at c.finish.ensures;
}
