use Rattle.std.proofs.Common.{◌≡◌, ◌-◌, codes, decimal, arith}
use Rattle.std.proofs.lemmas.Result.{err_from_is_err_and}
use Rattle.binlog_gtid_listing.proofs.Writing.{stop, behind, behind_stop, two_numbers}
use Rattle.binlog_gtid_listing.proofs.parts.write_interval.Goals as goal

pub returns-in_err-write_number-clause-writes : goal.returns-in_err-write_number-clause-writes
returns-in_err-write_number-clause-writes g c =
    let p = err_from_is_err_and c.from_residual.result c.from_residual.ensures.1 in
    let i = c.args.interval.now in
    rw (p.1, p.2) (stop (decimal i.start) _ _ _ _ (rw c.start-first.ensures at c.in_err-write_number.ensures.writes))

pub returns-in_err-write_part-clause-writes : goal.returns-in_err-write_part-clause-writes
returns-in_err-write_part-clause-writes g c =
    let p = err_from_is_err_and c.from_residual-in_err-write_part.result c.from_residual-in_err-write_part.ensures.1 in
    let i = c.args.interval.now in
    let differ : i.start ≡ i.end - 1 → ⊥ = λ same. c.if-first-last.false (omega (arith, c.start-first.ensures, c.end-last.ensures, same)) in
    rw (two_numbers i differ, p.1, p.2)
    (behind_stop (decimal i.start) _ _ _ _ _ (rw c.start-first.ensures at c.in_ok-write_number.ensures.writes) (stop (codes "-") (decimal (i.end - 1)) _ _ _ c.in_err-write_part.ensures.writes))

pub returns-clause-writes : goal.returns-clause-writes
returns-clause-writes g c =
    let i = c.args.interval.now in
    let differ : i.start ≡ i.end - 1 → ⊥ = λ same. c.if-first-last.false (omega (arith, c.start-first.ensures, c.end-last.ensures, same)) in
    rw (two_numbers i differ)
    (behind (decimal i.start) _ _ _ _ c.write_number-2.result (rw c.start-first.ensures at c.in_ok-write_number.ensures.writes)
    (behind (codes "-") (decimal (i.end - 1)) _ _ _ c.write_number-2.result c.in_ok-write_part.ensures.writes (rw c.end-last.ensures at c.write_number-2.ensures.writes)))
