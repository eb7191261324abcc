use Rattle.std.proofs.Common.{◌≡◌}
use Rattle.binlog_gtid_listing.proofs.Groups.{AreListed}
use Rattle.binlog_gtid_listing.proofs.group_lines.write_groups.Given as goal

-- the lines of the groups so far are written
abbrev pub invariant-loop-index : goal.invariant-loop-index
invariant-loop-index g l = record {
  listed : AreListed l.has_gaps l.gtids l.index (g.W.WriteCounted.contents l.fn.output) (g.W.WriteCounted.contents l.output);
  writer : g.W.CountsFailures.count l.output ≡ g.W.CountsFailures.count l.fn.output;
}
