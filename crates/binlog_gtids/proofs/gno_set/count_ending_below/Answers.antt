use Rattle.std.proofs.Common.{◌≡◌, ◌∙◌, ◌≤◌, ltb, sym, ap, arith, rules}
use Rattle.std.proofs.lemmas.List.Sorted.{IsPartitionPoint-from_clause, IsPartitionedBy-ltb}
use Rattle.binlog_variable_fields.specs.declared.gno_interval.GnoInterval.{GnoInterval}
use Rattle.binlog_gtids.proofs.GnoSets.{ends_rise, parted, all_end_below, all_but_one_end_below}
use Rattle.binlog_gtids.proofs.gno_set.count_ending_below.Goals as goal

pub returns-in-Some : goal.returns-in-Some
returns-in-Some c =
    let item = c.in-Some.ensures.item in
    all_end_below c.args.intervals.now 0 c.args.gno c.in-Some.last.now c.requires item.3.0 item.1 (omega arith)

pub returns-in-Some-2 : goal.returns-in-Some-2
returns-in-Some-2 c =
    let last = c.in-Some.last.now in
    let item = c.in-Some.ensures.item in
    let same : c.in-Some-2.last.now ≡ last = c.in-Some-2.ensures.item.3.1 last ∙ sym (item.3.1 last) in
    let starts : last.start ≤ c.args.gno = omega (arith, ap (λ (i : GnoInterval). i.start) same) in
    all_but_one_end_below c.args.intervals.now 0 c.args.gno last c.requires item.3.0 item.1 starts (omega arith)

pub returns-in_default : goal.returns-in_default
returns-in_default c =
    let is = c.args.intervals.now in
    let p = λ (i : GnoInterval). ltb i.end c.args.gno in
    let facts = c.partition_point.ensures in
    let parts = IsPartitionPoint-from_clause p is c.partition_point.result facts.partitioned
    (IsPartitionedBy-ltb (λ (i : GnoInterval). i.end) is c.args.gno (ends_rise is 0 c.requires)) (λ a r f called. search rules) in
    parted p is c.partition_point.result facts.bound parts.0 parts.1
