use Rattle.std.proofs.Common.{◌≡◌, ◌++◌, ◌+◌, ◌≤◌, length, drop, vec_len, vec_capacity}
use Rattle.binlog_variable_fields.specs.GnoIntervals.{gno_interval}
use Rattle.binlog_variable_fields.specs.Repeated.{each_written}
use Rattle.binlog_gtids.proofs.previous_gtids_sid.put_intervals.Given as goal

abbrev pub invariant-loop-interval : goal.invariant-loop-interval
invariant-loop-interval l = record {
  items : l.buf.items ++ each_written gno_interval.written (drop l.interval-index l.intervals) ≡ l.fn.buf.items ++ each_written gno_interval.written l.intervals;
  len : vec_len l.buf + length (each_written gno_interval.written (drop l.interval-index l.intervals)) ≡ vec_len l.fn.buf + length (each_written gno_interval.written l.intervals);
  capacity : vec_capacity l.fn.buf ≤ vec_capacity l.buf;
}
