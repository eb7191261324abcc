use Rattle.std.proofs.Common.{refl}
use Rattle.binlog_undo_command.proofs.options.new_scan.Goals as goal

pub returns-clause-ok : goal.returns-clause-ok
returns-clause-ok g c = record {
  choice = c.in_ok-choice.choice;
  chosen = c.in_ok-choice.ensures.ok;
  checks = c.checks.result;
  checked = c.checks.ensures;
  skips = c.in_ok-skips.skips;
  known = c.in_ok-skips.ensures.known refl;
  skipped = c.in_ok-skips.ensures.ok;
  fresh = c.new.ensures;
}
