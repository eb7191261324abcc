use Rattle.std.proofs.Common.{[], ◌∷◌, refl, inr}
use Rattle.std.proofs.lemmas.Result.{err_from_is_err_and}
use Rattle.binlog_gtid_text.proofs.Pieces.{piece_added, goes_on, is_over}
use Rattle.binlog_gtid_text.proofs.parsing.add_pieces.Goals as goal

pub returns-in_err-piece-clause-err : goal.returns-in_err-piece-clause-err
returns-in_err-piece-clause-err c =
    let p = err_from_is_err_and c.from_residual.result c.from_residual.ensures.1 in
    let fault = c.in_err-piece.ensures.err in
    let so_far = c.loop-rest.invariant [] c.loop-rest.rest.now refl in
    rw (p.1, p.2) (inr (fault.0, so_far.0, c.loop-rest.rest.now, record { before = so_far.1; some = goes_on c.loop-rest.rest.now c.is_empty.result c.is_empty.ensures c.loop-rest-test.true; fault = fault.1 }, fault.2))

pub loop-rest-preserved : goal.loop-rest-preserved
loop-rest-preserved c = λ ps end are.
    let piece = c.in_ok-piece.piece in
    let all = c.loop-rest.invariant (piece ∷ ps) end (c.in_ok-piece.next.now, c.in_ok-piece.ensures.ok, are) in
    (all.0, all.1, λ q n. piece_added c.loop-rest.under _ piece ps q n _ _ _ c.in_ok-under.ensures.under (c.in_ok-under.ensures.ok q n) (all.2 q n))

pub returns-clause-ok : goal.returns-clause-ok
returns-clause-ok c =
    let all = c.loop-rest.invariant [] [] (is_over c.loop-rest.rest.now c.is_empty.result c.is_empty.ensures c.loop-rest-test.false) in
    (all.0, all.1, λ q n. all.2 q n)
