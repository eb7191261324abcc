use Rattle.std.proofs.Common.{◌<◌, [], length, string_bytes, None, add-one, arith}
use Rattle.binlog_gtid_sets.specs.declared.gtid_group.GtidGroup.{GtidGroup}
use Rattle.binlog_gtid_text.proofs.Appended.{group_put, groups_put, writable_more, all_writable}
use Rattle.binlog_gtid_text.proofs.ReadBack.{reads_back}
use Rattle.binlog_gtid_text.proofs.printing.to_text.Goals as goal

abbrev none : GtidGroup
none = record { sid = []; tag = None; gnos = [] }

pub loop-i-preserved : goal.loop-i-preserved
loop-i-preserved c =
    let set = c.args.set.now in
    let i = c.loop-i.i in
    let put = c.in_ok-last.ensures in
    let within : i < length set = omega arith in
    record {
      whole = rw add-one (group_put set i _ _ none _ _ _ within (put.ok none) (put.source none) c.loop-i.invariant.whole);
      writable = rw add-one (writable_more set i c.loop-i.invariant.writable put.writable);
    }

pub returns-clause-text : goal.returns-clause-text
returns-clause-text c = groups_put c.args.set.now c.loop-i.i _ _ _ (omega arith) c.loop-i.invariant.whole

pub returns-clause-writable : goal.returns-clause-writable
returns-clause-writable c = all_writable c.args.set.now c.loop-i.i (omega arith) c.loop-i.invariant.writable

pub returns-clause-reads_back : goal.returns-clause-reads_back
returns-clause-reads_back c =
    let set = c.args.set.now in
    let i = c.loop-i.i in
    reads_back set c.len-i-end.ensures.groups (all_writable set i (omega arith) c.loop-i.invariant.writable) (string_bytes c.loop-i.text) (groups_put set i _ _ _ (omega arith) c.loop-i.invariant.whole)
