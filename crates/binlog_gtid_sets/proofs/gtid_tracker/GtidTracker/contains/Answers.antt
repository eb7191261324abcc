use Rattle.std.proofs.Common.{get_or, ◌≡◌, ◌∙◌, ap, subst, sym, rules}
use Rattle.std.specs.Prelude.{option_copied}
use Rattle.binlog_variable_fields.specs.declared.gno_interval.GnoInterval.{GnoInterval}
use Rattle.binlog_gtids.specs.GnoSets.{is_held}
use Rattle.binlog_gtid_sets.specs.declared.gtid_group.GtidGroup.{GtidGroup}
use Rattle.binlog_gtid_sets.specs.GtidGroups.{pair_of, AreGroups, IsAt, IsGapFor}
use Rattle.binlog_gtid_sets.proofs.GtidGroups.{found_at, not_found}
use Rattle.binlog_gtid_sets.proofs.gtid_tracker.GtidTracker.contains.Goals as goal
use Rattle.std.proofs.Common.{List}

pub returns-in-Ok : goal.returns-in-Ok
returns-in-Ok c =
    let p = pair_of c.args.sid (option_copied c.args.tag) in
    let are : AreGroups c.args.self.now = subst AreGroups c.self.view_is c.self.invariant in
    let is : IsAt c.args.self.now p c.in-Ok.at = rw (← c.tag_text.ensures) (search rules) in
    let there : get_or c.args.self.now c.in-Ok.at c.index.result.now ≡ c.index.result.now = search rules in
    let found = found_at c.args.self.now are p c.in-Ok.at is c.index.result.now ∙ ap (λ (g : GtidGroup). g.gnos) there in
    c.contains.ensures ∙ ap (λ (is : List GnoInterval). is_held is c.args.gno) (sym found)

pub returns-in-Err : goal.returns-in-Err
returns-in-Err c =
    let p = pair_of c.args.sid (option_copied c.args.tag) in
    let gap : IsGapFor c.args.self.now p c.in-Err.field-0 = rw (← c.tag_text.ensures) (search rules) in
    ap (λ (is : List GnoInterval). is_held is c.args.gno) (sym (not_found c.args.self.now p c.in-Err.field-0 gap))
