use Rattle.std.proofs.lemmas.Result.{err_from_is_err_and}
use Rattle.binlog_gtid_listing.proofs.Writing.{stop, behind, behind_stop}
use Rattle.binlog_gtid_listing.proofs.group_lines.write_parts.Goals as goal

pub returns-in_err-write_sid-clause-writes : goal.returns-in_err-write_sid-clause-writes
returns-in_err-write_sid-clause-writes g c =
    let p = err_from_is_err_and c.from_residual.result c.from_residual.ensures.1 in
    rw (p.1, p.2) (stop _ _ _ _ _ c.in_err-write_sid.ensures.writes)

pub returns-in_err-write_tag-clause-writes : goal.returns-in_err-write_tag-clause-writes
returns-in_err-write_tag-clause-writes g c =
    let p = err_from_is_err_and c.from_residual-in_err-write_tag.result c.from_residual-in_err-write_tag.ensures.1 in
    rw (p.1, p.2) (behind_stop _ _ _ _ _ _ c.in_ok-write_sid.ensures.writes (stop _ _ _ _ _ c.in_err-write_tag.ensures.writes))

pub returns-in_err-write_part-clause-writes : goal.returns-in_err-write_part-clause-writes
returns-in_err-write_part-clause-writes g c =
    let p = err_from_is_err_and c.from_residual-in_err-write_part.result c.from_residual-in_err-write_part.ensures.1 in
    rw (p.1, p.2) (behind_stop _ _ _ _ _ _ c.in_ok-write_sid.ensures.writes (behind_stop _ _ _ _ _ _ c.in_ok-write_tag.ensures.writes (stop _ _ _ _ _ c.in_err-write_part.ensures.writes)))

pub returns-in_err-write_intervals-clause-writes : goal.returns-in_err-write_intervals-clause-writes
returns-in_err-write_intervals-clause-writes g c =
    let p = err_from_is_err_and c.from_residual-in_err-write_intervals.result c.from_residual-in_err-write_intervals.ensures.1 in
    rw (p.1, p.2) (behind_stop _ _ _ _ _ _ c.in_ok-write_sid.ensures.writes (behind_stop _ _ _ _ _ _ c.in_ok-write_tag.ensures.writes (behind_stop _ _ _ _ _ _ c.in_ok-write_part.ensures.writes (stop _ _ _ _ _ c.in_err-write_intervals.ensures.writes))))

pub returns-in_err-write_gaps-clause-writes : goal.returns-in_err-write_gaps-clause-writes
returns-in_err-write_gaps-clause-writes g c =
    let p = err_from_is_err_and c.from_residual-in_err-write_gaps.result c.from_residual-in_err-write_gaps.ensures.1 in
    rw (p.1, p.2) (behind_stop _ _ _ _ _ _ c.in_ok-write_sid.ensures.writes (behind_stop _ _ _ _ _ _ c.in_ok-write_tag.ensures.writes (behind_stop _ _ _ _ _ _ c.in_ok-write_part.ensures.writes (behind_stop _ _ _ _ _ _ c.in_ok-write_intervals.ensures.writes (stop _ _ _ _ _ c.in_err-write_gaps.ensures.writes)))))

pub returns-clause-writes : goal.returns-clause-writes
returns-clause-writes g c = behind _ _ _ _ _ c.write_part-2.result c.in_ok-write_sid.ensures.writes (behind _ _ _ _ _ c.write_part-2.result c.in_ok-write_tag.ensures.writes (behind _ _ _ _ _ c.write_part-2.result c.in_ok-write_part.ensures.writes (behind _ _ _ _ _ c.write_part-2.result c.in_ok-write_intervals.ensures.writes (behind _ _ _ _ _ c.write_part-2.result c.in_ok-write_gaps.ensures.writes c.write_part-2.ensures.writes))))
