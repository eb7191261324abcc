use Rattle.std.proofs.Common.{sym, rules}
use Rattle.std.specs.Ordering.{is_lt}
use Rattle.std.proofs.lemmas.Fn.{always_returns_same}
use Rattle.std.proofs.lemmas.List.Sorted.{ranks_by, list_any-IsPermutation}
use Rattle.binlog_mariadb.specs.declared.maria_gtid.MariaGtid.{MariaGtid}
use Rattle.binlog_maria_gtids.specs.GtidSets.{compare_gtids, is_same_gtid}
use Rattle.binlog_maria_gtids.proofs.GtidOrder.{gtids_total}
use Rattle.binlog_maria_gtids.proofs.maria_gtid_set.MariaGtidSet.new.Goals as goal

pub invariant_of-result : goal.invariant_of-result
invariant_of-result c =
    c.sort_unstable_by.ensures.sorted (λ x y. is_lt (compare_gtids x y)) (ranks_by gtids_total (λ (g : MariaGtid). g)) (always_returns_same _ _ _ (λ a r f called. search rules))

pub returns : goal.returns
returns c gtid = sym (list_any-IsPermutation (λ (g : MariaGtid). is_same_gtid g gtid) c.args.gtids.items c.sort_unstable_by.new.self.items c.sort_unstable_by.ensures.permutation)
