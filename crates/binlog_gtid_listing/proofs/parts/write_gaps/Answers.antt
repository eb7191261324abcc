use Rattle.std.proofs.Common.{codes}
use Rattle.std.proofs.lemmas.Result.{err_from_is_err_and}
use Rattle.binlog_gtid_listing.proofs.Writing.{stop, behind}
use Rattle.binlog_gtid_listing.proofs.parts.write_gaps.Goals as goal

pub returns-in_err-write_part-in-Some-clause-writes : goal.returns-in_err-write_part-in-Some-clause-writes
returns-in_err-write_part-in-Some-clause-writes g c =
    let p = err_from_is_err_and c.from_residual.result c.from_residual.ensures.1 in
    rw (c.in-Some.is, p.1, p.2) (stop (codes " gaps ") _ _ _ _ c.in_err-write_part-in-Some.ensures.writes)

pub returns-in_ok-write_part-in-Some-clause-writes : goal.returns-in_ok-write_part-in-Some-clause-writes
returns-in_ok-write_part-in-Some-clause-writes g c =
    rw c.in-Some.is
    (behind (codes " gaps ") _ _ _ _ c.write_intervals.result c.in_ok-write_part-in-Some.ensures.writes c.write_intervals.ensures.writes)
