use Rattle.std.proofs.Common.{rules}
use Rattle.binlog_event_commands.proofs.verifying.verify.Goals as goal

pub returns-clause-ok : goal.returns-clause-ok
returns-clause-ok g c = record {
  start = c.new-reported.result;
  states = search rules;
  output = c.in_ok-output.output;
  begins = record { has = c.in_ok-output.ensures.bytes; fine = c.in_ok-output.ensures.fine };
  outcome = c.verify_files-outcome.result;
  behind = c.verify_files-outcome.new.reported;
  listed = c.verify_files-outcome.new.output;
  verifies = c.verify_files-outcome.ensures;
  ends = c.finish.ensures;
}
