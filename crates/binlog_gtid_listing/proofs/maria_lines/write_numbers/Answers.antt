use Rattle.std.proofs.lemmas.Result.{err_from_is_err_and}
use Rattle.binlog_gtid_listing.proofs.Writing.{stop, behind, behind_stop}
use Rattle.binlog_gtid_listing.proofs.maria_lines.write_numbers.Goals as goal

pub returns-in_err-write_number-clause-writes : goal.returns-in_err-write_number-clause-writes
returns-in_err-write_number-clause-writes g c =
    let p = err_from_is_err_and c.from_residual.result c.from_residual.ensures.1 in
    rw (p.1, p.2) (stop _ _ _ _ _ c.in_err-write_number.ensures.writes)

pub returns-in_err-write_part-clause-writes : goal.returns-in_err-write_part-clause-writes
returns-in_err-write_part-clause-writes g c =
    let p = err_from_is_err_and c.from_residual-in_err-write_part.result c.from_residual-in_err-write_part.ensures.1 in
    rw (p.1, p.2) (behind_stop _ _ _ _ _ _ c.in_ok-write_number.ensures.writes (stop _ _ _ _ _ c.in_err-write_part.ensures.writes))

pub returns-in_err-write_number-2-clause-writes : goal.returns-in_err-write_number-2-clause-writes
returns-in_err-write_number-2-clause-writes g c =
    let p = err_from_is_err_and c.from_residual-in_err-write_number-2.result c.from_residual-in_err-write_number-2.ensures.1 in
    rw (p.1, p.2) (behind_stop _ _ _ _ _ _ c.in_ok-write_number.ensures.writes (behind_stop _ _ _ _ _ _ c.in_ok-write_part.ensures.writes (stop _ _ _ _ _ c.in_err-write_number-2.ensures.writes)))

pub returns-in_err-write_part-2-clause-writes : goal.returns-in_err-write_part-2-clause-writes
returns-in_err-write_part-2-clause-writes g c =
    let p = err_from_is_err_and c.from_residual-in_err-write_part-2.result c.from_residual-in_err-write_part-2.ensures.1 in
    rw (p.1, p.2) (behind_stop _ _ _ _ _ _ c.in_ok-write_number.ensures.writes (behind_stop _ _ _ _ _ _ c.in_ok-write_part.ensures.writes (behind_stop _ _ _ _ _ _ c.in_ok-write_number-2.ensures.writes (stop _ _ _ _ _ c.in_err-write_part-2.ensures.writes))))

pub returns-in_err-write_number-3-clause-writes : goal.returns-in_err-write_number-3-clause-writes
returns-in_err-write_number-3-clause-writes g c =
    let p = err_from_is_err_and c.from_residual-in_err-write_number-3.result c.from_residual-in_err-write_number-3.ensures.1 in
    rw (p.1, p.2) (behind_stop _ _ _ _ _ _ c.in_ok-write_number.ensures.writes (behind_stop _ _ _ _ _ _ c.in_ok-write_part.ensures.writes (behind_stop _ _ _ _ _ _ c.in_ok-write_number-2.ensures.writes (behind_stop _ _ _ _ _ _ c.in_ok-write_part-2.ensures.writes (stop _ _ _ _ _ c.in_err-write_number-3.ensures.writes)))))

pub returns-clause-writes : goal.returns-clause-writes
returns-clause-writes g c = behind _ _ _ _ _ c.write_part-3.result c.in_ok-write_number.ensures.writes (behind _ _ _ _ _ c.write_part-3.result c.in_ok-write_part.ensures.writes (behind _ _ _ _ _ c.write_part-3.result c.in_ok-write_number-2.ensures.writes (behind _ _ _ _ _ c.write_part-3.result c.in_ok-write_part-2.ensures.writes (behind _ _ _ _ _ c.write_part-3.result c.in_ok-write_number-3.ensures.writes c.write_part-3.ensures.writes))))
