use Rattle.std.proofs.Common.{◌≡◌, refl, rules}
use Rattle.std.specs.Prelude.{option_copied}
use Rattle.binlog_gtid_sets.specs.GtidGroups.{pair_of, pair_in, IsAt, IsGapFor}
use Rattle.binlog_gtids.specs.GnoSets.{is_within}
use Rattle.binlog_gtid_sets.proofs.GtidGroups.{interval, inserts_at, are_at, adds_in_gap, are_added, some_from_interval}
use Rattle.binlog_gtid_sets.proofs.gtid_tracker.GtidTracker.insert_with_room.Goals as goal

pub invariant_of-self : goal.invariant_of-self
invariant_of-self c =
    let groups = c.self.inside.groups.items in
    let p = pair_of c.args.sid.now (option_copied c.args.tag) in
    let is : IsAt groups p c.in-Ok.at = rw (← c.tag_text.ensures) (search rules) in
    let put = c.insert.ensures in
    are_at groups c.self.invariant p c.in-Ok.at is c.index_mut.result.now c.index_mut.ensures.value c.insert.new.self put.sid put.tag
    c.insert.result c.args.start c.args.end _ c.requires.some refl put.ok put.err

pub returns-in-Ok-clause-ok : goal.returns-in-Ok-clause-ok
returns-in-Ok-clause-ok c =
    let groups = c.self.inside.groups.items in
    let p = pair_of c.args.sid.now (option_copied c.args.tag) in
    let is : IsAt groups p c.in-Ok.at = rw (← c.tag_text.ensures) (search rules) in
    let put = c.insert.ensures in
    rw (← c.self.view_is)
    (inserts_at groups c.self.invariant p c.in-Ok.at is c.index_mut.result.now c.index_mut.ensures.value c.insert.new.self put.sid put.tag
    c.insert.result c.args.start c.args.end _ refl put.ok)

pub invariant_of-self-in-Err : goal.invariant_of-self-in-Err
invariant_of-self-in-Err c =
    let groups = c.self.inside.groups.items in
    let p = pair_of c.args.sid.now (option_copied c.args.tag) in
    let gap : IsGapFor groups p c.in-Err.at = rw (← c.tag_text.ensures) (search rules) in
    let made = c.in_ok-group-in-Err.ensures in
    let g = c.in_ok-group-in-Err.group in
    let pair : pair_in g ≡ p = rw (made.sid, made.tag) refl in
    are_added groups c.self.invariant p c.in-Err.at gap (is_within (interval c.args.start c.args.end)) g (some_from_interval g.gnos c.args.start c.args.end c.requires.some made.gnos) pair made.gnos c.add.result _ c.add.ensures.ok c.add.ensures.err

pub returns-in_ok-group-in-Err-clause-ok : goal.returns-in_ok-group-in-Err-clause-ok
returns-in_ok-group-in-Err-clause-ok c =
    let groups = c.self.inside.groups.items in
    let p = pair_of c.args.sid.now (option_copied c.args.tag) in
    let gap : IsGapFor groups p c.in-Err.at = rw (← c.tag_text.ensures) (search rules) in
    let made = c.in_ok-group-in-Err.ensures in
    let g = c.in_ok-group-in-Err.group in
    let pair : pair_in g ≡ p = rw (made.sid, made.tag) refl in
    rw (← c.self.view_is)
    (adds_in_gap groups c.self.invariant p c.in-Err.at gap (is_within (interval c.args.start c.args.end)) g (some_from_interval g.gnos c.args.start c.args.end c.requires.some made.gnos) pair made.gnos c.add.result _ c.add.ensures.ok)
