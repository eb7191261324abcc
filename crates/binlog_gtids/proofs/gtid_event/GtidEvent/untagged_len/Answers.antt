use Rattle.std.proofs.Common.{rules, arith, ◌≡◌, length, true, false}
use Rattle.binlog_gtids.specs.Laws.UntaggedWriting.{untagged_length}
use Rattle.binlog_gtids.proofs.gtid_event.GtidEvent.untagged_len.Goals as goal

pub returns-then-self : goal.returns-then-self
returns-then-self c =
    let sid : length c.args.self.now.sid ≡ 16 = search rules in
    omega (arith, untagged_length c.args.self.now true c.if-self.true sid, c.clock_len.ensures.count)

pub returns-else-self : goal.returns-else-self
returns-else-self c =
    let sid : length c.args.self.now.sid ≡ 16 = search rules in
    omega (arith, untagged_length c.args.self.now false c.if-self.false sid)
