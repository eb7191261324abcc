use Rattle.std.proofs.Common.{inl, inr}
use Rattle.std.proofs.lemmas.Result.{err_from_is_err_and}
use Rattle.binlog_gtid_text.proofs.Pieces.{goes_on}
use Rattle.binlog_gtid_text.proofs.Starts.{start_invalid, rest_invalid, text_read}
use Rattle.binlog_gtid_text.proofs.parsing.read.Goals as goal

pub returns-in_err-sid-clause-err : goal.returns-in_err-sid-clause-err
returns-in_err-sid-clause-err c =
    let p = err_from_is_err_and c.from_residual.result c.from_residual.ensures.1 in
    let start = c.skip_spaces-start.result.now in
    let some = goes_on start c.is_empty.result c.is_empty.ensures c.if-is_empty.false in
    rw (p.1, p.2) (inr (start_invalid c.args.text.now start c.skip_spaces-start.ensures.value _ some c.in_err-sid.ensures.err))

pub returns-in_err-add_pieces-clause-err : goal.returns-in_err-add_pieces-clause-err
returns-in_err-add_pieces-clause-err c =
    let p = err_from_is_err_and c.from_residual-in_err-add_pieces.result c.from_residual-in_err-add_pieces.ensures.1 in
    let start = c.skip_spaces-start.result.now in
    let some = goes_on start c.is_empty.result c.is_empty.ensures c.if-is_empty.false in
    rw (p.1, p.2)
    (elim c.in_err-add_pieces.ensures.err [
      | inl memory ↦ inl memory
      | inr bad ↦ inr (rest_invalid c.args.text.now start c.skip_spaces-start.ensures.value c.in_ok-sid.sid c.in_ok-sid.rest.now c.in_ok-sid.ensures.ok _ some bad)
    ])

pub returns-clause-ok : goal.returns-clause-ok
returns-clause-ok c =
    let named = c.in_ok-add_pieces.ensures.ok in
    text_read c.args.text.now c.skip_spaces-start.result.now c.skip_spaces-start.ensures.value c.in_ok-sid.sid c.in_ok-sid.rest.now c.in_ok-sid.ensures.ok named.0 _ _ named.1 c.new-set.ensures named.2
