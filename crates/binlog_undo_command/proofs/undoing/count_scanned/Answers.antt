use Rattle.binlog_undo_command.proofs.undoing.count_scanned.Goals as goal

pub returns-in-Ok-clause-ok : goal.returns-in-Ok-clause-ok
returns-in-Ok-clause-ok g c = record { stats = c.in_ok-rows.rows.counter.stats; rows = c.in_ok-rows.ensures.ok; counts = rw c.stats.ensures at c.in-Ok.ensures }
