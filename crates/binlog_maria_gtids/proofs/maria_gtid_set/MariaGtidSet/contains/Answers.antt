use Rattle.std.proofs.Common.{◌∙◌, subst, rules}
use Rattle.std.proofs.lemmas.Fn.{always_returns_same}
use Rattle.binlog_mariadb.specs.declared.maria_gtid.MariaGtid.{MariaGtid}
use Rattle.binlog_maria_gtids.specs.GtidSets.{compare_gtids, AreInOrder}
use Rattle.binlog_maria_gtids.proofs.GtidOrder.{found_among}
use Rattle.binlog_maria_gtids.proofs.maria_gtid_set.MariaGtidSet.contains.Goals as goal

pub returns : goal.returns
returns c =
    let are : AreInOrder c.args.self.now = subst AreInOrder c.self.view_is c.self.invariant in
    let facts = c.binary_search_by.ensures in
    let by = facts.position (λ (g : MariaGtid). compare_gtids g c.args.gtid) (always_returns_same _ _ _ (λ a r f called. search rules)) in
    let list = rw c.deref.ensures.value at facts.bound in
    c.is_ok.ensures.value ∙ found_among c.args.self.now are c.args.gtid c.binary_search_by.result (search rules) (search rules)
