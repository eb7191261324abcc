use Rattle.std.proofs.Common.{get_or, ◌≡◌, ◌∙◌, refl, ap, subst, rules}
use Rattle.binlog_gtid_sets.specs.declared.gtid_group.GtidGroup.{GtidGroup}
use Rattle.binlog_gtid_sets.specs.GtidGroups.{Pair, pair_in, tag_text, AreGroups, IsAt, IsGapFor}
use Rattle.binlog_gtid_sets.proofs.GtidGroups.{found_at, not_found}
use Rattle.binlog_gtid_sets.proofs.GtidDifferences.{pair_made, all_missing}
use Rattle.binlog_gtid_sets.proofs.gtid_tracker.GtidTracker.missing.Goals as goal

pub returns-in-Ok-clause-ok : goal.returns-in-Ok-clause-ok
returns-in-Ok-clause-ok c =
    let g = c.args.group.now in
    let p = pair_in g in
    let made = pair_made g.sid g.sid c.tag_text.result.now (tag_text g.tag) refl (c.tag_text.ensures ∙ ap tag_text c.as_ref.ensures.value) in
    let are : AreGroups c.args.self.now = subst AreGroups c.self.view_is c.self.invariant in
    let at : IsAt c.args.self.now (record { sid = g.sid; tag = c.tag_text.result.now }) c.in-Ok.at = search rules in
    let is : IsAt c.args.self.now p c.in-Ok.at = subst (λ (q : Pair). IsAt c.args.self.now q c.in-Ok.at) made at in
    let there : get_or c.args.self.now c.in-Ok.at c.index.result.now ≡ c.index.result.now = search rules in
    let found = found_at c.args.self.now are p c.in-Ok.at is c.index.result.now ∙ ap (λ (g : GtidGroup). g.gnos) there in
    rw found c.difference.ensures.ok

pub returns-in-Err-clause-ok : goal.returns-in-Err-clause-ok
returns-in-Err-clause-ok c =
    let g = c.args.group.now in
    let p = pair_in g in
    let made = pair_made g.sid g.sid c.tag_text.result.now (tag_text g.tag) refl (c.tag_text.ensures ∙ ap tag_text c.as_ref.ensures.value) in
    let at : IsGapFor c.args.self.now (record { sid = g.sid; tag = c.tag_text.result.now }) c.in-Err.field-0 = search rules in
    let gap : IsGapFor c.args.self.now p c.in-Err.field-0 = subst (λ (q : Pair). IsGapFor c.args.self.now q c.in-Err.field-0) made at in
    all_missing c.clone.result g.gnos _ (not_found c.args.self.now p c.in-Err.field-0 gap) c.clone.ensures.ok
