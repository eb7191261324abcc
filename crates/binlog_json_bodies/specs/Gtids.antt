-- The objects of GTIDs and of previous GTIDs.
use Rattle.std.specs.Prelude.{ℕ, List, [], ◌∷◌, ◌++◌, flat_map, codes, Option, Some, None, if◌then◌else◌}
use Rattle.json.specs.Token.{Token, string}
use Rattle.binlog_file.specs.declared.GnoInterval.{GnoInterval}
use Rattle.binlog_file.specs.declared.GtidEvent.{GtidEvent}
use Rattle.binlog_file.specs.declared.PreviousGtidsEvent.{PreviousGtidsEvent}
use Rattle.binlog_file.specs.declared.PreviousGtidsSid.{PreviousGtidsSid}
use Rattle.json_line.specs.Tokens.{number_value, uuid_value, or_null, member, object, array}

-- A tag, or null.
abbrev pub tag_value : Option (List ℕ) → List Token
tag_value tag = or_null (λ text. string text ∷ []) tag

-- The flags and the GTID.
abbrev pub gtid_id : GtidEvent → List Token
gtid_id e =
    member (codes "flags") (number_value e.flags)
    ++ member (codes "sid") (uuid_value e.sid)
    ++ member (codes "gno") (number_value e.gno)
    ++ member (codes "tag") (tag_value e.tag)

-- The clock code and the logical timestamps.
abbrev pub gtid_clock : GtidEvent → List Token
gtid_clock e =
    member (codes "lc_typecode") (or_null number_value (if e.has_clock then Some 2 else None))
    ++ member (codes "last_committed") (number_value e.last_committed)
    ++ member (codes "sequence_number") (number_value e.sequence_number)

-- The commit timestamps, the transaction length, the server versions and the commit group ticket.
abbrev pub gtid_commit : GtidEvent → List Token
gtid_commit e =
    member (codes "immediate_commit_timestamp") (number_value e.immediate_commit_timestamp)
    ++ member (codes "original_commit_timestamp") (number_value e.original_commit_timestamp)
    ++ member (codes "tx_length") (number_value e.tx_length)
    ++ member (codes "immediate_server_version") (number_value e.immediate_server_version)
    ++ member (codes "original_server_version") (number_value e.original_server_version)
    ++ member (codes "commit_group_ticket") (number_value e.commit_group_ticket)

-- The object of a GTID, with a tag or without, or of an anonymous GTID.
abbrev pub gtid_object : GtidEvent → List Token
gtid_object e = object (gtid_id e ++ gtid_clock e ++ gtid_commit e)

-- ---- previous GTIDs

-- The start of the interval, and its end, which is excluded.
abbrev pub interval_value : GnoInterval → List Token
interval_value i = array (number_value i.start ++ number_value i.end)

-- The object of an entry: source UUID, tag, intervals.
abbrev pub sid_object : PreviousGtidsSid → List Token
sid_object s = object
    (member (codes "uuid") (uuid_value s.uuid) ++ member (codes "tag") (tag_value s.tag) ++ member (codes "intervals") (array (flat_map interval_value s.intervals)))

-- The object of previous GTIDs.
abbrev pub previous_gtids_object : PreviousGtidsEvent → List Token
previous_gtids_object e = object (member (codes "sids") (array (flat_map sid_object e.sids)))
