-- Sets of MariaDB's GTIDs, as lists in ascending order.
use Rattle.std.specs.Prelude.{◌==◌, Bool, ◌&&◌, List}
use Rattle.std.specs.List.{list_any}
use Rattle.std.specs.List.Sorted.{IsSorted}
use Rattle.std.specs.declared.cmp.Ordering.{Ordering}
use Rattle.std.specs.Ordering.{nat_cmp, then_cmp, on}
use Rattle.binlog_mariadb.specs.declared.maria_gtid.MariaGtid.{MariaGtid}

-- Both GTIDs have the same domain, server id and sequence number.
abbrev pub is_same_gtid : MariaGtid → MariaGtid → Bool
is_same_gtid g h = ((g.domain == h.domain) && (g.server_id == h.server_id)) && (g.sequence == h.sequence)

-- The GTID is one of the list.
abbrev pub is_among : List MariaGtid → MariaGtid → Bool
is_among gtids gtid = list_any (λ (g : MariaGtid). is_same_gtid g gtid) gtids

-- The order of GTIDs: by domain, then by server id, then by sequence number.
unfoldable pub compare_gtids : MariaGtid → MariaGtid → Ordering
compare_gtids = then_cmp (then_cmp (on (λ (g : MariaGtid). g.domain) nat_cmp) (on (λ (g : MariaGtid). g.server_id) nat_cmp)) (on (λ (g : MariaGtid). g.sequence) nat_cmp)

-- The GTIDs ascend; a GTID may come more than once.
abbrev pub AreInOrder : List MariaGtid → Type 0
AreInOrder = IsSorted compare_gtids
