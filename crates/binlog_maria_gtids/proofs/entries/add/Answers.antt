use Rattle.std.proofs.Common.{rules}
use Rattle.binlog_maria_gtids.specs.LastGtids.{origin_of, IsAt, IsGapFor}
use Rattle.binlog_maria_gtids.proofs.LastGtids.{set_ascends, set_keeps, ascends_inserted, keeps_inserted}
use Rattle.binlog_maria_gtids.proofs.entries.add.Goals as goal

pub returns-in-Ok-clause-ascending : goal.returns-in-Ok-clause-ascending
returns-in-Ok-clause-ascending c =
    let is : IsAt c.args.entries.now.items (origin_of c.args.gtid) c.in-Ok.at = search rules in
    set_ascends c.args.entries.now.items c.requires c.args.gtid c.in-Ok.at is

pub returns-in-Ok-clause-ok : goal.returns-in-Ok-clause-ok
returns-in-Ok-clause-ok c =
    let is : IsAt c.args.entries.now.items (origin_of c.args.gtid) c.in-Ok.at = search rules in
    set_keeps c.args.entries.now.items c.requires c.args.gtid c.in-Ok.at is

pub returns-in-Err-clause-ascending : goal.returns-in-Err-clause-ascending
returns-in-Err-clause-ascending c =
    let gap : IsGapFor c.args.entries.now.items (origin_of c.args.gtid) c.in-Err.at = search rules in
    ascends_inserted c.args.entries.now.items c.requires c.args.gtid c.in-Err.at gap c.insert.result _ c.insert.ensures.ok c.insert.ensures.err

pub returns-in-Err-clause-ok : goal.returns-in-Err-clause-ok
returns-in-Err-clause-ok c =
    let gap : IsGapFor c.args.entries.now.items (origin_of c.args.gtid) c.in-Err.at = search rules in
    keeps_inserted c.args.entries.now.items c.requires c.args.gtid c.in-Err.at gap c.insert.result _ c.insert.ensures.ok
