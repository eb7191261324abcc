use Rattle.binlog_undo_items.proofs.scanning.new_scan.Goals as goal

pub returns-clause-ok : goal.returns-clause-ok
returns-clause-ok c = record {
  choice = c.in_ok-choice.choice;
  chosen = c.in_ok-choice.ensures.ok;
  fresh = rw (c.checks.ensures, c.skips.ensures) at c.new.ensures;
}
