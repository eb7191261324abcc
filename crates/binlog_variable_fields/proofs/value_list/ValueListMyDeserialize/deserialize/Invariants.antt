use Rattle.std.proofs.Common.{◌≡◌, ◌-◌}
use Rattle.binlog_variable_fields.specs.Repeated.{times_at}
use Rattle.binlog_variable_fields.specs.Laws.RepeatedLoops.{behind_values}
use Rattle.binlog_variable_fields.proofs.value_list.ValueListMyDeserialize.deserialize.Given as goal

abbrev pub invariant-loop-index : goal.invariant-loop-index
invariant-loop-index g l =
    let reads = g.T.MyDeserialize.reads in
    times_at l.count (reads l.each) l.fn.buf ≡ behind_values l.items.items (times_at (l.count - l._index) (reads l.each) l.buf)
