-- The objects of GTIDs and of lists of them.
use Rattle.std.specs.Prelude.{ℕ, List, [], ◌∷◌, ◌++◌, codes, decimal, flat_map, take, Some, None, if◌then◌else◌}
use Rattle.json.specs.Token.{Token, string}
use Rattle.json_line.specs.Tokens.{number_value, bytes_value, or_null, member, object, array}
use Rattle.binlog_mariadb.specs.Gtids.{has_commit_id, has_xa, has_engines, has_alter, has_thread}
use Rattle.binlog_mariadb.specs.declared.maria_gtid.MariaGtid.{MariaGtid}
use Rattle.binlog_mariadb.specs.declared.gtid_event.MariaGtidEvent.{MariaGtidEvent}
use Rattle.binlog_mariadb.specs.declared.gtid_extra.GtidExtra.{GtidExtra}
use Rattle.binlog_mariadb.specs.declared.gtid_list.GtidListEvent.{GtidListEvent}
use Rattle.binlog_mariadb.specs.declared.xa_id.XaId.{XaId}

-- The text of a GTID: `domain-server_id-sequence`.
abbrev pub gtid_text : MariaGtid → List ℕ
gtid_text g = ((((decimal g.domain) ++ codes "-") ++ decimal g.server_id) ++ codes "-") ++ decimal g.sequence

-- A GTID as a string.
abbrev pub gtid_value : MariaGtid → List Token
gtid_value g = string (gtid_text g) ∷ []

-- The GTID of an event; the event's header has the id of the server.
abbrev pub gtid_of : (server_id : ℕ) → MariaGtidEvent → MariaGtid
gtid_of server_id e = record { domain = e.head.domain; server_id = server_id; sequence = e.head.sequence }

-- The id of an XA transaction.
abbrev pub xa_object : XaId → List Token
xa_object x = object
    (member (codes "format_id") (number_value x.format_id) ++ member (codes "gtrid") (bytes_value (take 255 x.global)) ++ member (codes "bqual") (bytes_value (take 255 x.branch)))

-- The extra flags, and the parts that they announce, else null. Reserved bytes say nothing.
abbrev pub extra_object : GtidExtra → List Token
extra_object x = object
    (member (codes "flags") (number_value x.flags)
    ++ member (codes "engines") (or_null number_value (if has_engines x.flags then Some x.engines else None))
    ++ member (codes "alter_sequence") (or_null number_value (if has_alter x.flags then Some x.alter_sequence else None))
    ++ member (codes "thread_id") (or_null number_value (if has_thread x.flags then Some x.thread_id else None)))

-- The parts that the flags announce, else null.
abbrev pub gtid_parts : MariaGtidEvent → List Token
gtid_parts e =
    member (codes "commit_id") (or_null number_value (if has_commit_id e.head.flags then Some e.commit_id else None))
    ++ member (codes "xa_id") (or_null xa_object (if has_xa e.head.flags then Some e.xa_id else None))
    ++ member (codes "extra") (or_null extra_object e.extra)

-- The object of a GTID event.
abbrev pub gtid_object : (server_id : ℕ) → MariaGtidEvent → List Token
gtid_object server_id e = object (member (codes "gtid") (gtid_value (gtid_of server_id e)) ++ member (codes "flags") (number_value e.head.flags) ++ gtid_parts e)

-- The object of a GTID_LIST event.
abbrev pub gtid_list_object : GtidListEvent → List Token
gtid_list_object e = object (member (codes "flags") (number_value e.flags) ++ member (codes "gtids") (array (flat_map gtid_value e.entries)))
