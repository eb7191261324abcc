-- The GTIDs of transactions as texts.
use Rattle.std.specs.Prelude.{◌≡◌, ◌⊎◌, ℕ, true, false, List, [], ◌++◌, codes, decimal, Option, Some, None, is_none, Result, Ok, Err, if◌then◌else◌}
use Rattle.uuid.specs.Text.{hyphenated_text, lower}
use Rattle.binlog_wire.specs.declared.error.Error.{Error}
use Rattle.binlog_event_format.specs.Headers.{header_of}
use Rattle.binlog_events.specs.Events.{EventView}
use Rattle.binlog_event_data.specs.declared.event_data.EventData.{EventData}
use Rattle.binlog_event_data.specs.declared.event_data.EventData.TheVariants as mysql
use Rattle.binlog_gtids.specs.declared.gtid_event.GtidEvent.{GtidEvent}
use Rattle.binlog_gtid_sets.specs.AddedGtids.{only, bad_gno_in}
use Rattle.binlog_mariadb.specs.declared.event_data.MariaEventData.{MariaEventData}
use Rattle.binlog_mariadb.specs.declared.event_data.MariaEventData.TheVariants as maria
use Rattle.binlog_mariadb.specs.declared.gtid_event.MariaGtidEvent.{MariaGtidEvent}
use Rattle.binlog_file.specs.LogData.{ReadsLogData}
use Rattle.binlog_file.specs.declared.log_data.LogEventData.{LogEventData}
use Rattle.binlog_file.specs.declared.log_data.LogEventData.TheVariants.{Mysql, Maria}
use Rattle.binlog_filters.specs.Reading.{IsReadAs}
use Rattle.binlog_filters.specs.Taking.{begins_transaction}

-- A tag behind a colon; nothing for no tag.
abbrev pub tag_part : Option (List ℕ) → List ℕ
tag_part None = []
tag_part (Some tag) = codes ":" ++ tag

-- The text of a GTID of MySQL's: the UUID of its source, the tag, if there is one, and the number, with colons between.
abbrev pub mysql_text : GtidEvent → List ℕ
mysql_text e = hyphenated_text lower e.sid ++ tag_part e.tag ++ codes ":" ++ decimal e.gno

-- The same if a GTID can have its number; empty otherwise.
abbrev pub known_text : GtidEvent → List ℕ
known_text e = if is_none (bad_gno_in (only e.gno)) then mysql_text e else []

-- That of a GTID of MariaDB's: its domain, the server, and the sequence number, with hyphens between.
abbrev pub maria_text : (server_id : ℕ) → MariaGtidEvent → List ℕ
maria_text server_id e = decimal e.head.domain ++ codes "-" ++ decimal server_id ++ codes "-" ++ decimal e.head.sequence

abbrev pub mysql_text_in : EventData → List ℕ
mysql_text_in (mysql.GtidEvent e) = known_text e
mysql_text_in body = []

abbrev pub maria_text_in : (server_id : ℕ) → MariaEventData → List ℕ
maria_text_in server_id (maria.GtidEvent e) = maria_text server_id e
maria_text_in server_id body = []

-- The text of the GTID that the data of an event has, of which the header has this server id; empty if it has none.
abbrev pub text_in : (server_id : ℕ) → LogEventData → List ℕ
text_in server_id (Mysql body) = mysql_text_in body
text_in server_id (Maria body) = maria_text_in server_id body

-- The same of the result of reading the data.
abbrev pub text_read : (server_id : ℕ) → Result (Option LogEventData) Error → List ℕ
text_read server_id (Ok (Some x)) = text_in server_id x
text_read server_id (Ok None) = []
text_read server_id (Err error) = []

-- The text of the GTID of the transaction that begins with this event; empty if it has none.
pub record BeginsWithGtid (event : EventView) (text : List ℕ) : Type 0 where
  pub read : Result (Option LogEventData) Error
  pub reads : ReadsLogData event read
  pub is : IsReadAs (text_read (header_of event.frame).server_id) read text

-- The text of the GTID of the transaction of an event, where `was` is that of the event before it.
abbrev pub FollowsGtid : (was : List ℕ) → EventView → (now : List ℕ) → Type 0
FollowsGtid was event now =
    ((begins_transaction (header_of event.frame).event_type ≡ false) × (now ≡ was))
    ⊎ ((begins_transaction (header_of event.frame).event_type ≡ true) × BeginsWithGtid event now)
