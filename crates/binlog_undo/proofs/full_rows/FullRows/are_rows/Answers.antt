use Rattle.std.proofs.Common.{sym, ◌∙◌}
use Rattle.std.proofs.lemmas.Bool.{eqb-true}
use Rattle.std.proofs.lemmas.List.{nil_from_length}
use Rattle.binlog_undo.specs.FullImages.{rows_shape}
use Rattle.binlog_undo.proofs.FullRows.{one_checked, all_checked}
use Rattle.binlog_undo.proofs.full_rows.FullRows.are_rows.Goals as goal

pub rows-preserved : goal.rows-preserved
rows-preserved c = one_checked (rows_shape c.args.self.now) c.args.rows.now c.rows.rest.now c.in-Some.row c.rows.invariant c.in-Some.ensures

pub rows-smaller : goal.rows-smaller
rows-smaller c = c.in-Some.ensures.shorter

pub returns : goal.returns
returns c = λ is.
    all_checked (rows_shape c.args.self.now) c.args.rows.now c.rows.rest.now c.rows.invariant
    (nil_from_length c.rows.rest.now (eqb-true _ 0 (sym c.is_empty.ensures ∙ c.rows-test.false)))
