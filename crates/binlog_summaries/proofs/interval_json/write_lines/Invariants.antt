use Rattle.std.proofs.Common.{map}
use Rattle.std.specs.Prelude.{flat_map}
use Rattle.std.specs.Io.KnownBytes.{Appends}
use Rattle.std.specs.Map.Iter.{deref_pair}
use Rattle.binlog_summaries.specs.IntervalJson.{interval_line}
use Rattle.binlog_summaries.proofs.interval_json.write_lines.Given as goal

abbrev pub invariant-intervals : goal.invariant-intervals
invariant-intervals g l = Appends (g.W.Write.contents l.fn.output) (g.W.Write.contents l.output) (flat_map interval_line (map deref_pair l.yielded))
