use Rattle.std.proofs.Common.{◌≡◌, ◌∷◌, ◌++◌, [], take, flat_map}
use Rattle.json.specs.Token.{begin_array}
use Rattle.binlog_json_bodies.specs.Gtids.{interval_value}
use Rattle.binlog_json_bodies.proofs.gtids.write_intervals.Given as goal

abbrev pub invariant-intervals : goal.invariant-intervals
invariant-intervals l = l.line ≡ l.fn.line ++ begin_array ∷ [] ++ flat_map interval_value (take l.interval-index l.fn.intervals)
