-- Which sets of GTIDs have the GTID of a transaction.
use Rattle.std.specs.Prelude.{ℕ, Bool, false, List}
use Rattle.binlog_event_data.specs.declared.event_data.EventData.TheVariants as mysql
use Rattle.binlog_mariadb.specs.declared.event_data.MariaEventData.TheVariants as maria
use Rattle.binlog_mariadb.specs.declared.maria_gtid.MariaGtid.{MariaGtid}
use Rattle.binlog_file.specs.declared.log_data.LogEventData.{LogEventData}
use Rattle.binlog_file.specs.declared.log_data.LogEventData.TheVariants as logs
use Rattle.binlog_gtid_sets.specs.declared.gtid_group.GtidGroup.{GtidGroup}
use Rattle.binlog_gtid_sets.specs.GtidGroups.{pair_of, is_tracked}
use Rattle.binlog_maria_gtids.specs.GtidSets.{is_among}
use Rattle.binlog_filters.specs.declared.gtid_set.GtidSet.{GtidSet}
use Rattle.binlog_filters.specs.declared.gtid_set.GtidSet.TheVariants as sets

-- The data is that of a GTID of MySQL's, which these groups have.
abbrev pub has_mysql_gtid : List GtidGroup → LogEventData → Bool
has_mysql_gtid groups (logs.Mysql (mysql.GtidEvent event)) = is_tracked groups (pair_of event.sid event.tag) event.gno
has_mysql_gtid groups _ = false

-- The data is that of a GTID of MariaDB's, which is among these. It has the domain and the sequence number of the body, and the server
-- id of the event's header.
abbrev pub has_maria_gtid : List MariaGtid → (server_id : ℕ) → LogEventData → Bool
has_maria_gtid gtids server_id (logs.Maria (maria.GtidEvent event)) = is_among gtids (record { domain = event.head.domain; server_id = server_id; sequence = event.head.sequence })
has_maria_gtid gtids server_id _ = false

-- The set has the GTID of a transaction that begins with this data, where `server_id` is that of the event's header.
abbrev pub has_gtid_of : GtidSet → (server_id : ℕ) → LogEventData → Bool
has_gtid_of (sets.Mysql groups) server_id x = has_mysql_gtid groups x
has_gtid_of (sets.Maria gtids) server_id x = has_maria_gtid gtids server_id x
