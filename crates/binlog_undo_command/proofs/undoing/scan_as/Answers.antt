use Rattle.std.proofs.Common.{inl, inr}
use Rattle.std.proofs.lemmas.Result.{err_from_is_err_and}
use Rattle.binlog_undo_command.proofs.undoing.scan_as.Goals as goal

pub returns-in-Ok-clause-ok : goal.returns-in-Ok-clause-ok
returns-in-Ok-clause-ok g c = record {
  scanned = c.in_ok-scanned.ensures.ok;
  leaves = rw c.as_slice.ensures.value at c.in-Ok.ensures.ok;
}

pub returns-clause-refused : goal.returns-clause-refused
returns-clause-refused g c = λ damaged. inr (record {
  is_one = c.args.is_one;
  logs = c.in_ok-scanned.scanned.items;
  scanned = c.in_ok-scanned.ensures.ok;
  later = rw c.as_slice.ensures.value at (c.in-Err.ensures.refused damaged);
})

pub returns-in_err-scanned-clause-usage : goal.returns-in_err-scanned-clause-usage
returns-in_err-scanned-clause-usage g c =
    let p = err_from_is_err_and c.from_residual.result c.from_residual.ensures.1 in
    rw (p.1, p.2) c.in_err-scanned.ensures.usage

pub returns-in_err-scanned-clause-refused : goal.returns-in_err-scanned-clause-refused
returns-in_err-scanned-clause-refused g c =
    let p = err_from_is_err_and c.from_residual.result c.from_residual.ensures.1 in
    rw (p.1, p.2) (λ damaged. inl (c.in_err-scanned.ensures.refused damaged))
