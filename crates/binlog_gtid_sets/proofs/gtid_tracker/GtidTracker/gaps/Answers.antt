use Rattle.std.proofs.Common.{get_or, ◌≡◌, ◌∙◌, [], ap, subst, rules, arith}
use Rattle.std.specs.Prelude.{option_copied}
use Rattle.std.proofs.lemmas.Bool.Decides.{nat_tests}
use Rattle.binlog_gtid_sets.specs.declared.gtid_group.GtidGroup.{GtidGroup}
use Rattle.binlog_gtid_sets.specs.GtidGroups.{pair_of, AreGroups, IsAt, IsGapFor}
use Rattle.binlog_gtid_sets.proofs.GtidGroups.{found_at, not_found}
use Rattle.binlog_gtid_sets.proofs.gtid_tracker.GtidTracker.gaps.Goals as goal

pub returns-in-Ok-clause-missing : goal.returns-in-Ok-clause-missing
returns-in-Ok-clause-missing c =
    let p = pair_of c.args.sid (option_copied c.args.tag) in
    let are : AreGroups c.args.self.now = subst AreGroups c.self.view_is c.self.invariant in
    let is : IsAt c.args.self.now p c.in-Ok.at = rw (← c.tag_text.ensures) (search rules) in
    let there : get_or c.args.self.now c.in-Ok.at c.index.result.now ≡ c.index.result.now = search rules in
    let found = found_at c.args.self.now are p c.in-Ok.at is c.index.result.now ∙ ap (λ (g : GtidGroup). g.gnos) there in
    rw found c.gaps.ensures.missing

pub returns-in-Err-clause-missing : goal.returns-in-Err-clause-missing
returns-in-Err-clause-missing c = λ n.
    let p = pair_of c.args.sid (option_copied c.args.tag) in
    let gap : IsGapFor c.args.self.now p c.in-Err.field-0 = rw (← c.tag_text.ensures) (search rules) in
    let none = not_found c.args.self.now p c.in-Err.field-0 gap in
    let empty : c.new.result.items ≡ [] = search rules in
    rw (none, empty) (grind (arith, nat_tests))
