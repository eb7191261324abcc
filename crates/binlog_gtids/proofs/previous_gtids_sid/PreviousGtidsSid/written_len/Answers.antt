use Rattle.std.proofs.Common.{rules, arith, ◌≡◌, ap, length}
use Rattle.binlog_gtids.specs.Laws.PreviousGtids.{sid_length}
use Rattle.binlog_gtids.proofs.previous_gtids_sid.PreviousGtidsSid.written_len.Goals as goal

pub returns : goal.returns
returns c =
    let uuid : length c.args.self.now.uuid ≡ 16 = search rules in
    let count : length c.as_slice.result.now ≡ length c.args.self.now.intervals = ap length c.as_slice.ensures in
    omega (arith, sid_length c.args.with_tags c.args.self.now uuid, count, c.saturating_add.ensures, c.saturating_mul-intervals.ensures, c.tag_len.ensures.count)
