use Rattle.std.proofs.Common.{leb, arith, rules}
use Rattle.std.proofs.lemmas.List.Sorted.{IsPartitionPoint-from_clause, IsPartitionedBy-leb}
use Rattle.binlog_variable_fields.specs.declared.gno_interval.GnoInterval.{GnoInterval}
use Rattle.binlog_gtids.proofs.GnoSets.{starts_rise, parted, all_start_up_to}
use Rattle.binlog_gtids.proofs.gno_set.count_starting_up_to.Goals as goal

pub returns-in-Some : goal.returns-in-Some
returns-in-Some c =
    let item = c.in-Some.ensures.item in
    all_start_up_to c.args.intervals.now 0 c.args.gno c.in-Some.last.now c.requires item.3.0 item.1 (omega arith)

pub returns-in_default : goal.returns-in_default
returns-in_default c =
    let is = c.args.intervals.now in
    let p = λ (i : GnoInterval). leb i.start c.args.gno in
    let facts = c.partition_point.ensures in
    let parts = IsPartitionPoint-from_clause p is c.partition_point.result facts.partitioned
    (IsPartitionedBy-leb (λ (i : GnoInterval). i.start) is c.args.gno (starts_rise is 0 c.requires)) (λ a r f called. search rules) in
    parted p is c.partition_point.result facts.bound parts.0 parts.1
