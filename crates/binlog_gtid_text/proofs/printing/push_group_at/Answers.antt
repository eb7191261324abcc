use Rattle.std.proofs.Common.{◌++◌, List, ℕ, Option, string_bytes, ap, subst, ◌∙◌}
use Rattle.std.specs.Prelude.{option_copied}
use Rattle.binlog_variable_fields.specs.declared.gno_interval.GnoInterval.{GnoInterval}
use Rattle.binlog_gtid_sets.specs.declared.gtid_group.GtidGroup.{GtidGroup}
use Rattle.binlog_gtid_text.specs.Printing.{group_text}
use Rattle.binlog_gtid_text.specs.Laws.Printing.{IsWritable}
use Rattle.binlog_gtid_text.proofs.Appended.{group_is}
use Rattle.binlog_gtid_text.proofs.printing.push_group_at.Goals as goal

pub returns-in_ok-push_group-in-Some-clause-ok : goal.returns-in_ok-push_group-in-Some-clause-ok
returns-in_ok-push_group-in-Some-clause-ok c = λ d.
    let old = string_bytes c.args.text.now in
    let sid = c.in-Some.group.0 in
    let tag = option_copied c.in-Some.group.1 in
    let parts = c.in-Some.ensures in
    c.in_ok-push_group-in-Some.ensures.ok
    ∙ ap (λ (l : Option (List ℕ)). old ++ group_text l (record { sid = sid; tag = tag; gnos = c.intervals.result.now })) c.as_ref.ensures.value
    ∙ ap (λ (is : List GnoInterval). old ++ group_text c.args.last (record { sid = sid; tag = tag; gnos = is })) c.intervals.ensures.list
    ∙ ap (λ (g : GtidGroup). old ++ group_text c.args.last g) (group_is c.args.set.now c.requires.groups c.args.i c.requires.within sid tag parts.1 parts.2 d)

pub returns-in_ok-push_group-in-Some-clause-writable : goal.returns-in_ok-push_group-in-Some-clause-writable
returns-in_ok-push_group-in-Some-clause-writable c = λ d.
    let sid = c.in-Some.group.0 in
    let tag = option_copied c.in-Some.group.1 in
    let parts = c.in-Some.ensures in
    subst IsWritable
    (ap (λ (is : List GnoInterval). record { sid = sid; tag = tag; gnos = is }) c.intervals.ensures.list
    ∙ group_is c.args.set.now c.requires.groups c.args.i c.requires.within sid tag parts.1 parts.2 d)
    c.in_ok-push_group-in-Some.ensures.writable
