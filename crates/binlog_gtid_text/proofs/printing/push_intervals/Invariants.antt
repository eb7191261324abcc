use Rattle.std.proofs.Common.{◌≡◌, ◌++◌, ℕ, drop, flat_map, string_bytes}
use Rattle.binlog_gtids.specs.GnoSets.{AreApart}
use Rattle.binlog_gtid_text.specs.Printing.{interval_text}
use Rattle.binlog_gtid_text.proofs.printing.push_intervals.Given as goal

-- the text so far, with that of the intervals to come, is the whole
abbrev pub invariant-loop-interval : goal.invariant-loop-interval
invariant-loop-interval l = record {
  apart : (low : ℕ) × AreApart low (drop l.interval-index l.intervals);
  whole : string_bytes l.text ++ flat_map interval_text (drop l.interval-index l.intervals) ≡ string_bytes l.fn.text ++ flat_map interval_text l.intervals;
}
