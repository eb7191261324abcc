use Rattle.std.proofs.Common.{◌≡◌, ◌++◌, ◌+◌, length, get_or, drop, List, ℕ, refl, arith}
use Rattle.binlog_variable_fields.specs.GnoIntervals.{gno_interval}
use Rattle.binlog_variable_fields.specs.declared.gno_interval.GnoInterval.{GnoInterval}
use Rattle.binlog_variable_fields.specs.Repeated.{each_written}
use Rattle.binlog_variable_fields.specs.Laws.RepeatedLoops.{written_step, written_left}
use Rattle.binlog_gtids.proofs.previous_gtids_sid.put_intervals.Goals as goal

pub put-requires-clause-room : goal.put-requires-clause-room
put-requires-clause-room c =
    let d : GnoInterval = record { start = 0; end = 0 } in
    let x : GnoInterval = get_or c.args.intervals.now c.loop-interval.interval-index d in
    omega (arith, written_left gno_interval.written c.args.intervals.now c.loop-interval.interval-index x d (omega arith) refl)

pub loop-interval-preserved : goal.loop-interval-preserved
loop-interval-preserved c =
    let d : GnoInterval = record { start = 0; end = 0 } in
    let i : ℕ = c.loop-interval.interval-index in
    let x : GnoInterval = get_or c.args.intervals.now i d in
    let xs : List GnoInterval = c.args.intervals.now in
    let left : length (each_written gno_interval.written (drop i xs)) ≡ length (gno_interval.written x) + length (each_written gno_interval.written (drop (i + 1) xs)) =
    written_left gno_interval.written xs i x d (omega arith) refl in
    record {
      items = written_step gno_interval.written xs i x d (c.args.buf.now.items ++ each_written gno_interval.written xs) c.loop-interval.buf.items c.put.new.buf.items (omega arith) refl c.loop-interval.invariant.items c.put.ensures.items;
      len = omega (arith, left, c.put.ensures.len);
      capacity = omega (arith, c.put.ensures.capacity);
    }
