use Rattle.std.proofs.Common.{sym, ◌∙◌}
use Rattle.std.proofs.lemmas.Bool.{eqb-true}
use Rattle.std.proofs.lemmas.List.{nil_from_length}
use Rattle.binlog_undo.specs.FullImages.{rows_shape}
use Rattle.binlog_undo.proofs.FullRows.{one_exchanged, all_exchanged}
use Rattle.binlog_undo.proofs.full_rows.FullRows.exchanged.Goals as goal

pub rows-preserved : goal.rows-preserved
rows-preserved c =
    one_exchanged (rows_shape c.args.self.now) c.args.rows.now c.rows.rest.now c.rows.bytes.made c.prepend.new.self.made c.prepend-in-rows.new.self.made c.in-Some.row c.rows.invariant
    c.in-Some.ensures c.in_ok-prepend.ensures c.in_ok-prepend-2.ensures

pub rows-smaller : goal.rows-smaller
rows-smaller c = c.in-Some.ensures.shorter

pub returns : goal.returns
returns c =
    all_exchanged (rows_shape c.args.self.now) c.args.rows.now c.rows.rest.now c.rows.bytes.made _ c.rows.invariant
    (nil_from_length c.rows.rest.now (eqb-true _ 0 (sym c.is_empty.ensures ∙ c.rows-test.false))) c.in_ok-into_bytes.ensures
