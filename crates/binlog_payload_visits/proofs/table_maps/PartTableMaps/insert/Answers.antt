use Rattle.std.proofs.Common.{◌≡◌, ℕ, Some, cond, subst}
use Rattle.std.specs.BTreeMap.{get}
use Rattle.std.specs.Ordering.{is_eq, nat_cmp}
use Rattle.binlog_payload_visits.proofs.PartMaps.{one_kept}
use Rattle.binlog_payload_visits.proofs.table_maps.PartTableMaps.insert.Goals as goal

pub returns-clause-ok : goal.returns-clause-ok
returns-clause-ok c =
    one_kept c.args.self.now (record { newest = c.insert.new.self }) c.args.map
    (λ q. subst (λ (n : ℕ). get nat_cmp c.insert.new.self q ≡ cond (is_eq (nat_cmp n q)) (Some c.args.map) (get nat_cmp c.args.self.now.newest q)) c.table_id.ensures.id (c.in_ok-insert.ensures.updates.0 q))
