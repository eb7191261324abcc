use Rattle.std.proofs.Common.{sym, subst, ◌∙◌, rules, ap}
use Rattle.std.proofs.lemmas.Result.{err_from_is_err_and}
use Rattle.binlog_file.specs.Errors.{is_environment_error}
use Rattle.binlog_file.specs.Files.{verification_of}
use Rattle.examples.proofs.Steps.{written_none, step_more, step_all, step_error, counted_out, failed, next_of_same}
use Rattle.examples.proofs.copying.copy_items.Goals as goal

pub returns-in_err-write : goal.returns-in_err-write
returns-in_err-write g c =
    let p = err_from_is_err_and c.from_residual.result c.from_residual.ensures.1 in
    rw (p.1, p.2) (failed _ _ _ (ap is_environment_error c.in_err-write.ensures.err))

pub items-init : goal.items-init
items-init g c = record { written = written_none _ _ _ _ c.requires.starts c.requires.goes c.in_ok-write.ensures.ok; same = search rules }

pub copy_next-requires : goal.copy_next-requires
copy_next-requires g c = record { ready = subst g.V.Verification.is_ready (sym c.items.invariant.same) c.requires.ready }

pub returns-in_err-copy_next : goal.returns-in_err-copy_next
returns-in_err-copy_next g c =
    let p = err_from_is_err_and c.from_residual-in_err-copy_next.result c.from_residual-in_err-copy_next.ensures.1 in
    rw (p.1, p.2) (step_error _ _ _ _ _ _ _ _ _ c.items.invariant.written (next_of_same g.V.Verification.handles _ _ _ _ _ _ _ c.items.invariant.same (rw c.in_err-copy_next.was at c.copy_next.ensures.copies)))

pub returns-then-not-branch : goal.returns-then-not-branch
returns-then-not-branch g c =
    step_all _ _ _ _ _ _ _ _ c.items.invariant.written (next_of_same g.V.Verification.handles _ _ _ _ _ _ _ c.items.invariant.same (rw (c.in_ok-copy_next.was, c.if-not-branch.true) at c.copy_next.ensures.copies))

pub items-preserved : goal.items-preserved
items-preserved g c = record {
  written = step_more _ _ _ _ _ _ _ _ c.items.invariant.written (next_of_same g.V.Verification.handles _ _ _ _ _ _ _ c.items.invariant.same (rw (c.in_ok-copy_next.was, c.if-not-branch.false) at c.copy_next.ensures.copies));
  same = c.copy_next.ensures.same ∙ c.items.invariant.same;
}

pub returns : goal.returns
returns g c = counted_out _ _ _ _ _ _ c.items.invariant.written (search rules)
