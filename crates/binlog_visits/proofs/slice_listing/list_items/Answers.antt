use Rattle.std.proofs.Common.{refl, ◌∙◌, arith}
use Rattle.std.proofs.lemmas.Result.{err_from_is_err_and}
use Rattle.binlog_visits.proofs.SliceListed.{listed_none, listed_more, end_listed, stop_listed, index_fits}
use Rattle.binlog_visits.proofs.slice_listing.list_items.Goals as goal

pub loop-item-init : goal.loop-item-init
loop-item-init g c = record { listed = listed_none g.L.ItemLines.line g.L.ItemLines.takes _; writer = refl }

pub returns-in_err-has_errors-clause-lists : goal.returns-in_err-has_errors-clause-lists
returns-in_err-has_errors-clause-lists g c =
    let p = err_from_is_err_and c.from_residual.result c.from_residual.ensures.1 in
    rw (p.1, p.2) (stop_listed g.L.ItemLines.line g.L.ItemLines.takes _ _ _ _ _ _ _ _ _ _ _ _ c.into_iter-item-iterator.ensures.into_iter_gives c.requires c.loop-item.yielded_by (rw c.in-Some.is at c.next.ensures.steps) c.loop-item.invariant.listed (rw c.in_err-has_errors.was at c.list_item.ensures.lists))

pub overflow_add-index : goal.overflow_add-index
overflow_add-index g c =
    record { fits = omega (arith, index_fits g.L.ItemLines.line g.L.ItemLines.takes _ _ _ _ _ _ _ _ c.into_iter-item-iterator.ensures.into_iter_gives c.requires c.loop-item.yielded_by c.loop-item.invariant.listed c.ranges.slice.0) }

pub loop-item-preserved : goal.loop-item-preserved
loop-item-preserved g c = record {
  listed = listed_more g.L.ItemLines.line g.L.ItemLines.takes _ _ _ _ _ _ _ _ c.loop-item.invariant.listed (rw c.in_ok-has_errors.was at c.list_item.ensures.lists);
  writer = (rw c.in_ok-has_errors.was at c.list_item.ensures.writer) ∙ c.loop-item.invariant.writer;
}

pub returns-clause-lists : goal.returns-clause-lists
returns-clause-lists g c =
    end_listed g.L.ItemLines.line g.L.ItemLines.takes _ _ _ _ _ _ _ _ _ c.into_iter-item-iterator.ensures.into_iter_gives c.requires c.loop-item.yielded_by (rw c.in-None.is at c.next.ensures.steps) c.loop-item.invariant.listed
