use Rattle.std.proofs.Common.{◌≡◌, ◌∷◌}
use Rattle.binlog_variable_fields.specs.declared.gno_interval.GnoInterval.{GnoInterval}
use Rattle.binlog_gtid_listing.proofs.Writing.{AreWritten}
use Rattle.binlog_gtid_listing.proofs.parts.write_intervals.Given as goal

-- the first interval is written, and those so far
abbrev pub invariant-loop-interval : goal.invariant-loop-interval
invariant-loop-interval g l = record {
  first : GnoInterval;
  all : l.fn.intervals ≡ first ∷ l.rest;
  written : AreWritten first l.rest (g.W.WriteCounted.contents l.fn.output) (g.W.WriteCounted.contents l.fn.output) (g.W.WriteCounted.contents l.fn.output) l.interval-index (g.W.WriteCounted.contents l.output);
  writer : g.W.CountsFailures.count l.output ≡ g.W.CountsFailures.count l.fn.output;
}
