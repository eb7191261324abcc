use Rattle.std.proofs.Common.{arith}
use Rattle.binlog_gtids.specs.Untagged.{clock_of}
use Rattle.binlog_gtids.specs.Laws.UntaggedWriting.{clock_length}
use Rattle.binlog_gtids.proofs.gtid_event.GtidEvent.clock_len.Goals as goal

pub returns-clause-count : goal.returns-clause-count
returns-clause-count c = omega (arith, clock_length (clock_of c.args.self.now), c.times_len.ensures.count, c.written_len.ensures.count, c.versions_len.ensures.count)
