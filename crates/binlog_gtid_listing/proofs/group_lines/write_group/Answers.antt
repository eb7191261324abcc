use Rattle.binlog_gtid_listing.proofs.group_lines.write_group.Goals as goal

pub returns-then-not-has_gaps-clause-written : goal.returns-then-not-has_gaps-clause-written
returns-then-not-has_gaps-clause-written g c = rw c.if-not-has_gaps.true c.write_numbers.ensures.written

pub returns-clause-written : goal.returns-clause-written
returns-clause-written g c = rw c.if-not-has_gaps.false c.write_with_gaps.ensures.written
