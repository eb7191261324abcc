use Rattle.std.proofs.Common.{◌≡◌}
use Rattle.binlog_gtid_listing.proofs.MariaLines.{AreWritten}
use Rattle.binlog_gtid_listing.proofs.maria_lines.write_gtids.Given as goal

-- the lines of the GTIDs so far are written
abbrev pub invariant-loop-gtid : goal.invariant-loop-gtid
invariant-loop-gtid g l = record {
  written : AreWritten l.others l.gtids (g.W.WriteCounted.contents l.fn.output) (g.W.WriteCounted.contents l.fn.output) (g.W.WriteCounted.contents l.fn.output) l.gtid-index (g.W.WriteCounted.contents l.output);
  writer : g.W.CountsFailures.count l.output ≡ g.W.CountsFailures.count l.fn.output;
}
