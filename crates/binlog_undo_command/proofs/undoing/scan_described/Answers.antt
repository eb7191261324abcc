use Rattle.std.proofs.Common.{◌∙◌, sym, subst, inr, Bool, codes}
use Rattle.std.proofs.lemmas.Bool.{false≢true}
use Rattle.std.proofs.lemmas.Result.{err_from_is_err_and}
use Rattle.clap.specs.Matches.{found_of, one_text}
use Rattle.binlog_undo_command.specs.Options.{StatesFlag}
use Rattle.binlog_undo_command.proofs.undoing.scan_described.Goals as goal

pub returns-then-not-is_one-clause-ok : goal.returns-then-not-is_one-clause-ok
returns-then-not-is_one-clause-ok g c = record {
  undone = c.in_ok-scanned.ensures.ok;
  flag = c.requires.one;
  descriptions = λ one. absurd (false≢true (sym c.if-not-is_one.true ∙ one));
}

pub returns-in-Ok-clause-ok : goal.returns-in-Ok-clause-ok
returns-in-Ok-clause-ok g c = record {
  undone = c.in_ok-scanned.ensures.ok;
  flag = c.requires.one;
  descriptions = λ one. rw c.as_slice.ensures.value at c.in-Ok.ensures.ok;
}

pub returns-clause-refused : goal.returns-clause-refused
returns-clause-refused g c = λ damaged. inr (record {
  logs = c.in_ok-scanned.scanned.items;
  undone = c.in_ok-scanned.ensures.ok;
  flag = subst (λ (is : Bool). StatesFlag (one_text (found_of c.args.options.now) (codes "one-transaction")) is) c.if-not-is_one.false c.requires.one;
  descriptions = rw c.as_slice.ensures.value at (c.in-Err.ensures.differ damaged);
})

pub returns-in_err-scanned-clause-usage : goal.returns-in_err-scanned-clause-usage
returns-in_err-scanned-clause-usage g c =
    let p = err_from_is_err_and c.from_residual.result c.from_residual.ensures.1 in
    rw (p.1, p.2) c.in_err-scanned.ensures.usage
