-- Descriptions under which the events that undo a log can be written.
use Rattle.std.specs.Prelude.{ℕ, ◌==◌, Bool, true, false, ◌&&◌, Option, Some, None, nat_le}
use Rattle.binlog_consts.specs.declared.event_type.EventType.{EventType}
use Rattle.binlog_consts.specs.declared.event_type.EventType.TheVariants.{QUERY_EVENT, XID_EVENT, TABLE_MAP_EVENT, WRITE_ROWS_EVENT_V1, UPDATE_ROWS_EVENT_V1, DELETE_ROWS_EVENT_V1}
use Rattle.binlog_consts.specs.declared.version.BinlogVersion.{BinlogVersion}
use Rattle.binlog_consts.specs.declared.version.BinlogVersion.TheVariants.{Version4}
use Rattle.binlog_event_format.specs.PostHeaders.{post_header}
use Rattle.binlog_event_format.specs.declared.format_description.FormatDescriptionEvent.{FormatDescriptionEvent}

abbrev pub has_lengths : FormatDescriptionEvent → Bool
has_lengths d = (post_header d QUERY_EVENT == 13) && ((post_header d XID_EVENT == 0) && (post_header d TABLE_MAP_EVENT == 8))

abbrev algorithm_is_known : Option ℕ → Bool
algorithm_is_known None = true
algorithm_is_known (Some number) = nat_le number 1

abbrev pub has_algorithm : FormatDescriptionEvent → Bool
has_algorithm d = algorithm_is_known d.footer.checksum_alg

abbrev is_version4 : BinlogVersion → Bool
is_version4 Version4 = true
is_version4 _ = false

abbrev pub is_writable : FormatDescriptionEvent → Bool
is_writable d = is_version4 d.binlog_version && (has_algorithm d && has_lengths d)

-- The length of the post-header of row events of this type in binlog version 4.
abbrev pub rows_length : EventType → ℕ
rows_length WRITE_ROWS_EVENT_V1 = 8
rows_length UPDATE_ROWS_EVENT_V1 = 8
rows_length DELETE_ROWS_EVENT_V1 = 8
rows_length event_type = 10

abbrev pub has_rows_length : FormatDescriptionEvent → EventType → Bool
has_rows_length d event_type = post_header d event_type == rows_length event_type
