use Rattle.std.proofs.Common.{◌≡◌}
use Rattle.binlog_visits.proofs.SliceListed.{AreListed}
use Rattle.binlog_visits.proofs.slice_listing.list_items.Given as goal

abbrev pub invariant-loop-item : goal.invariant-loop-item
invariant-loop-item g l = record {
  listed : AreListed g.L.ItemLines.line g.L.ItemLines.takes l.yielded (g.W.WriteCounted.contents l.fn.output) (g.W.WriteCounted.contents l.output) l.has_errors l.index;
  writer : g.W.CountsFailures.count l.output ≡ g.W.CountsFailures.count l.fn.output;
}
