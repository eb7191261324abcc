use Rattle.std.proofs.Common.{sym, rules}
use Rattle.std.proofs.lemmas.Fn.{always_returns_same}
use Rattle.binlog_gtid_sets.specs.declared.gtid_group.GtidGroup.{GtidGroup}
use Rattle.binlog_gtid_sets.specs.GtidGroups.{Pair, pair_in, compare_pairs}
use Rattle.binlog_gtid_sets.proofs.GtidGroups.{searched, after_last}
use Rattle.binlog_gtid_sets.proofs.gtid_tracker.find.Goals as goal

pub returns-clause-found : goal.returns-clause-found
returns-clause-found c =
    let facts = c.binary_search_by.ensures in
    let p : Pair = record { sid = c.args.sid.now; tag = c.args.tag.now } in
    let by_pair = facts.position (λ (g : GtidGroup). compare_pairs (pair_in g) p) (always_returns_same _ _ _ (λ a r f called. search rules)) in
    (searched c.args.groups.now c.requires p _ facts.bound by_pair).found

pub returns-clause-absent : goal.returns-clause-absent
returns-clause-absent c =
    let facts = c.binary_search_by.ensures in
    let p : Pair = record { sid = c.args.sid.now; tag = c.args.tag.now } in
    let by_pair = facts.position (λ (g : GtidGroup). compare_pairs (pair_in g) p) (always_returns_same _ _ _ (λ a r f called. search rules)) in
    (searched c.args.groups.now c.requires p _ facts.bound by_pair).absent

pub returns-in-Less-clause-absent : goal.returns-in-Less-clause-absent
returns-in-Less-clause-absent c =
    let p : Pair = record { sid = c.args.sid.now; tag = c.args.tag.now } in
    let item = c.in-Some.ensures.item in
    after_last c.args.groups.now c.requires p c.in-Some.last.now item.3.0 item.1 (sym c.in-Less.ensures)
