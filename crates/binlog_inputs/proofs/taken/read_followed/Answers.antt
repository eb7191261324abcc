use Rattle.binlog_inputs.proofs.taken.read_followed.Goals as goal

pub returns-clause-ok : goal.returns-clause-ok
returns-clause-ok g c = (c.in_ok-filter.filter, c.in_ok-filter.ensures.ok, c.read_taken.ensures.shown)
