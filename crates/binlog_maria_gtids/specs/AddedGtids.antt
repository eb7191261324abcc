-- The GTIDs of an event of a MariaDB log.
use Rattle.std.specs.Prelude.{ℕ, List, [], ◌∷◌}
use Rattle.binlog_mariadb.specs.declared.maria_gtid.MariaGtid.{MariaGtid}
use Rattle.binlog_mariadb.specs.declared.event_data.MariaEventData.{MariaEventData}
use Rattle.binlog_mariadb.specs.declared.event_data.MariaEventData.TheVariants as variants

-- The GTIDs of an event with this data, in order, where `server_id` is that of the event's header: that of a GTID event, or
-- the entries of a GTID_LIST event. Other events have none.
abbrev pub gtids_of : (server_id : ℕ) → MariaEventData → List MariaGtid
gtids_of server_id (variants.GtidEvent event) = record { domain = event.head.domain; server_id = server_id; sequence = event.head.sequence } ∷ []
gtids_of server_id (variants.GtidListEvent event) = event.entries
gtids_of server_id _ = []
