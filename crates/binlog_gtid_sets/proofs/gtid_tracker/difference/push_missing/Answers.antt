use Rattle.std.proofs.Common.{◌≡◌, ◌∙◌, ◌&&◌, ℕ, [], not, sym, ap}
use Rattle.std.specs.Prelude.{IsTrue}
use Rattle.binlog_gtids.specs.GnoSets.{is_held}
use Rattle.binlog_gtid_sets.specs.declared.gtid_group.GtidGroup.{GtidGroup}
use Rattle.binlog_gtid_sets.specs.GtidGroups.{pair_in, is_tracked}
use Rattle.binlog_gtid_sets.proofs.GtidDifferences.{are_pushed, added_pushed, below_after}
use Rattle.binlog_gtid_sets.proofs.gtid_tracker.difference.push_missing.Goals as goal

pub returns-clause-are : goal.returns-clause-are
returns-clause-are c =
    let p = pair_in c.args.group.now in
    let h = λ (n : ℕ). is_held c.args.group.now.gnos n && not (is_tracked c.args.other.now p n) in
    let made = c.in_ok-missing.ensures.ok in
    let some : c.in_ok-missing.missing.gnos ≡ [] → ⊥ = λ none. (let yes : IsTrue c.is_empty.result = c.is_empty.ensures.1 (sym (ap (λ (x : GtidGroup). x.gnos) made) ∙ none) in absurd cc) in
    are_pushed c.args.groups.now.items c.requires.are p c.requires.last h c.in_ok-missing.missing (ap pair_in made) some (λ n. ap (λ (x : GtidGroup). is_held x.gnos n) made ∙ c.in_ok-gnos.ensures.ok n)
    c.push.result _ c.push.ensures.ok

pub returns-clause-below : goal.returns-clause-below
returns-clause-below c =
    let p = pair_in c.args.group.now in
    let h = λ (n : ℕ). is_held c.args.group.now.gnos n && not (is_tracked c.args.other.now p n) in
    let made = c.in_ok-missing.ensures.ok in
    let some : c.in_ok-missing.missing.gnos ≡ [] → ⊥ = λ none. (let yes : IsTrue c.is_empty.result = c.is_empty.ensures.1 (sym (ap (λ (x : GtidGroup). x.gnos) made) ∙ none) in absurd cc) in
    below_after c.args.groups.now.items c.requires.are p c.requires.last h c.in_ok-missing.missing (ap pair_in made) some (λ n. ap (λ (x : GtidGroup). is_held x.gnos n) made ∙ c.in_ok-gnos.ensures.ok n)
    c.push.result _ c.push.ensures.ok

pub returns-clause-ok : goal.returns-clause-ok
returns-clause-ok c =
    let p = pair_in c.args.group.now in
    let h = λ (n : ℕ). is_held c.args.group.now.gnos n && not (is_tracked c.args.other.now p n) in
    let made = c.in_ok-missing.ensures.ok in
    let some : c.in_ok-missing.missing.gnos ≡ [] → ⊥ = λ none. (let yes : IsTrue c.is_empty.result = c.is_empty.ensures.1 (sym (ap (λ (x : GtidGroup). x.gnos) made) ∙ none) in absurd cc) in
    added_pushed c.args.groups.now.items c.requires.are p c.requires.last h c.in_ok-missing.missing (ap pair_in made) some (λ n. ap (λ (x : GtidGroup). is_held x.gnos n) made ∙ c.in_ok-gnos.ensures.ok n)
    c.push.result _ c.push.ensures.ok
