-- The `data` member of one of MariaDB's own events.
use Rattle.std.specs.Prelude.{◌≡◌, ℕ, List, [], ◌∷◌, Ok, Err}
use Rattle.json.specs.Token.{Token}
use Rattle.binlog_wire.specs.Reading.{Read}
use Rattle.binlog_event_format.specs.Headers.{header_of}
use Rattle.binlog_events.specs.Events.{EventView}
use Rattle.binlog_events.specs.Parts.{data_of}
use Rattle.binlog_rows.specs.RowsData.{event_in}
use Rattle.binlog_mariadb.specs.EventBodies.{data_read}
use Rattle.binlog_mariadb.specs.declared.event_type.MariaEventType.{MariaEventType}
use Rattle.binlog_json_bodies.specs.Data.{error_object, refusal_number}
use Rattle.binlog_mariadb.specs.declared.event_data.MariaEventData.{MariaEventData}
use Rattle.binlog_mariadb.specs.declared.event_data.MariaEventData.TheVariants as variants
use Rattle.binlog_json_bodies.specs.MariaBodies.{annotate_rows_object, binlog_checkpoint_object, start_encryption_object}
use Rattle.binlog_json_bodies.specs.MariaGtids.{gtid_object, gtid_list_object}
use Rattle.binlog_json_bodies.specs.Compressed.{query_object, rows_object, IsOfText}

-- The tokens are the object of this data, in an event of this server.
abbrev pub IsObject : (server_id : ℕ) → MariaEventData → List Token → Type 0
IsObject server_id (variants.AnnotateRowsEvent e) tokens = tokens ≡ annotate_rows_object e
IsObject server_id (variants.BinlogCheckpointEvent e) tokens = tokens ≡ binlog_checkpoint_object e
IsObject server_id (variants.GtidEvent e) tokens = tokens ≡ gtid_object server_id e
IsObject server_id (variants.GtidListEvent e) tokens = tokens ≡ gtid_list_object e
IsObject server_id (variants.StartEncryptionEvent e) tokens = tokens ≡ start_encryption_object e
IsObject server_id (variants.QueryCompressedEvent e) tokens = IsOfText e.statement.texts.query (query_object e) tokens
IsObject server_id (variants.RowsCompressedEvent e) tokens = IsOfText (event_in e.event).rows (rows_object e) tokens

-- The tokens are the object of the data that all the bytes encode, or have the error number.
abbrev pub IsValue : (server_id : ℕ) → Read MariaEventData → List Token → Type 0
IsValue server_id (Ok (content, [])) tokens = IsObject server_id content tokens
IsValue server_id (Ok (content, b ∷ rest)) tokens = tokens ≡ error_object 7
IsValue server_id (Err why) tokens = tokens ≡ error_object (refusal_number why)

-- The tokens are the data of the event, of this type.
abbrev pub IsEventData : EventView → MariaEventType → List Token → Type 0
IsEventData event type = IsValue (header_of event.frame).server_id (data_read event.fde (data_of event.fde.footer event.frame) type)
