use Rattle.std.proofs.Common.{get_or, ◌≡◌, ◌∙◌, ap, subst, sym, rules}
use Rattle.binlog_gtid_sets.specs.declared.gtid_group.GtidGroup.{GtidGroup}
use Rattle.binlog_gtid_sets.specs.GtidGroups.{Pair, pair_of, tag_text, AreGroups, IsAt, IsGapFor}
use Rattle.binlog_gtid_sets.proofs.GtidGroups.{found_at, not_found}
use Rattle.binlog_gtid_sets.proofs.GtidDifferences.{pair_made, holds_same}
use Rattle.binlog_gtid_sets.proofs.gtid_tracker.GtidTracker.contains_entry.Goals as goal

pub returns-in-Ok : goal.returns-in-Ok
returns-in-Ok c =
    let p = pair_of c.args.entry.now.uuid c.args.entry.now.tag in
    let made = pair_made c.uuid-sid.result c.args.entry.now.uuid c.tag_text.result.now (tag_text c.args.entry.now.tag) c.uuid-sid.ensures (c.tag_text.ensures ∙ ap tag_text c.tag.ensures) in
    let are : AreGroups c.args.self.now = subst AreGroups c.self.view_is c.self.invariant in
    let at : IsAt c.args.self.now (record { sid = c.uuid-sid.result; tag = c.tag_text.result.now }) c.in-Ok.at = search rules in
    let is : IsAt c.args.self.now p c.in-Ok.at = subst (λ (q : Pair). IsAt c.args.self.now q c.in-Ok.at) made at in
    let there : get_or c.args.self.now c.in-Ok.at c.index.result.now ≡ c.index.result.now = search rules in
    let found = found_at c.args.self.now are p c.in-Ok.at is c.index.result.now ∙ ap (λ (g : GtidGroup). g.gnos) there in
    holds_same _ _ _ _ _ c.intervals.ensures found c.contains_intervals.ensures

pub returns-in-Err : goal.returns-in-Err
returns-in-Err c =
    let p = pair_of c.args.entry.now.uuid c.args.entry.now.tag in
    let made = pair_made c.uuid-sid.result c.args.entry.now.uuid c.tag_text.result.now (tag_text c.args.entry.now.tag) c.uuid-sid.ensures (c.tag_text.ensures ∙ ap tag_text c.tag.ensures) in
    let at : IsGapFor c.args.self.now (record { sid = c.uuid-sid.result; tag = c.tag_text.result.now }) c.in-Err.field-0 = search rules in
    let gap : IsGapFor c.args.self.now p c.in-Err.field-0 = subst (λ (q : Pair). IsGapFor c.args.self.now q c.in-Err.field-0) made at in
    holds_same _ _ _ _ _ c.intervals-in-Err.ensures (not_found c.args.self.now p c.in-Err.field-0 gap ∙ sym c.new.ensures) c.contains_intervals-in-Err-2.ensures
