use Rattle.std.proofs.Common.{[], None, refl, ◌∙◌, arith}
use Rattle.std.proofs.lemmas.Result.{err_from_is_err_and}
use Rattle.binlog_gtid_sets.specs.declared.gtid_group.GtidGroup.{GtidGroup}
use Rattle.binlog_gtid_listing.proofs.Groups.{none_listed, group_listed, group_stops, all_listed}
use Rattle.binlog_gtid_listing.proofs.group_lines.write_groups.Goals as goal
use Rattle.binlog_gtid_listing.proofs.group_lines.write_groups.Goals.{in-Some+in_ok-write_group, in_default}

-- the default of a read
abbrev no_group : GtidGroup
no_group = record { sid = []; tag = None; gnos = [] }

pub loop-index-init : goal.loop-index-init
loop-index-init g c = record { listed = none_listed c.args.has_gaps _ _; writer = refl }

pub returns-in_err-write_group-clause-written : goal.returns-in_err-write_group-clause-written
returns-in_err-write_group-clause-written g c =
    let p = err_from_is_err_and c.from_residual.result c.from_residual.ensures.1 in
    let at = c.in-Some.ensures in
    rw (p.1, p.2)
    (group_stops c.args.has_gaps c.args.gtids.now c.len-index-end.ensures.groups c.loop-index.index _ _ (record { within = at.0; same_sid = at.1; same_tag = at.2 }) _ _ _ no_group _ c.loop-index.invariant.listed c.in_err-write_group.ensures.written)

pub loop-index-preserved : goal.loop-index-preserved
loop-index-preserved g c =
    elim c.match-group.branch [
      | in-Some+in_ok-write_group w ↦ rw w.output-is
          (record {
            listed = group_listed c.args.has_gaps c.args.gtids.now c.len-index-end.ensures.groups c.loop-index.index _ _ (record { within = w.in-Some.ensures.0; same_sid = w.in-Some.ensures.1; same_tag = w.in-Some.ensures.2 }) _ _ _ no_group _ c.loop-index.invariant.listed w.in_ok-write_group.ensures.written;
            writer = w.in_ok-write_group.ensures.writer ∙ c.loop-index.invariant.writer;
          })
      | in_default w ↦ absurd (omega (arith, w.in_default.ensures))
    ]

pub returns-clause-written : goal.returns-clause-written
returns-clause-written g c = all_listed c.args.has_gaps _ _ _ _ c.loop-index.invariant.listed (omega arith)
