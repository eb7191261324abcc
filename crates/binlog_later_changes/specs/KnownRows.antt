-- The rows of row events as the bytes of their values, where they are known.
use Rattle.std.specs.Prelude.{◌≡◌, ◌≢◌, ◌⊎◌, ◌&&◌, ℕ, Bool, true, false, List, [], ◌++◌, length, map, Option, Some, None, option_map, Result, Ok, Err, ◌↔◌, IsTrue, take, ◌==◌, ◌||◌}
use Rattle.std.specs.List.{AllZip, list_any, flat_map}
use Rattle.binlog_columns.specs.Metadata.{Typed}
use Rattle.binlog_columns.specs.Refusals.{refusal, columns_in}
use Rattle.binlog_columns.specs.declared.column_error.ColumnError.{ColumnError}
use Rattle.binlog_event_data.specs.declared.event_data.EventData.{EventData}
use Rattle.binlog_event_data.specs.declared.event_data.EventData.TheVariants as mysql
use Rattle.binlog_events.specs.Events.{EventView}
use Rattle.binlog_file.specs.LogData.{ReadsLogData}
use Rattle.binlog_file.specs.TableMapsInForce.{TableMaps}
use Rattle.binlog_file.specs.declared.log_data.LogEventData.{LogEventData}
use Rattle.binlog_file.specs.declared.log_data.LogEventData.TheVariants.{Mysql, Maria}
use Rattle.binlog_images.specs.Cells.{ImageShape, RowShape, RowCells}
use Rattle.binlog_images.specs.Events.{event_shape, count_error}
use Rattle.binlog_images.specs.StoredColumns.{stored_image}
use Rattle.binlog_images.specs.declared.rows_error.RowsError.{RowsError}
use Rattle.binlog_mariadb.specs.Flavour.{IsMariaVersion}
use Rattle.binlog_rows.specs.RowsData.{event_in}
use Rattle.binlog_rows.specs.declared.rows_event_data.RowsEventData.{RowsEventData}
use Rattle.binlog_rows.specs.declared.table_map_event.TableMapEvent.{TableMapEvent}
use Rattle.binlog_undo.specs.RowBytes.{RowBytes, row_bytes, IsRowBytes}
use Rattle.binlog_undo.specs.Undoing.{IsRefused}
use Rattle.binlog_wire.specs.declared.error.Error.{Error}
use Rattle.binlog_later_changes.specs.CompleteRows.{is_complete}
use Rattle.binlog_later_changes.specs.RowKeys.{Values}
use Rattle.binlog_later_changes.specs.Said.{rows_in, map_for}

-- ---- rows

-- The images of a row: that of the row that is removed from the table, and that of the row that is added to it.
abbrev pub RowImages : Type 0
RowImages = Option Values × Option Values

abbrev pub image_of : Option ImageShape → List ℕ → Option Values
image_of None s = None
image_of (Some shape) s = Some (stored_image shape s)

abbrev pub images_of : RowShape → RowBytes → RowImages
images_of shape bytes = (image_of shape.0 bytes.before, image_of shape.1 bytes.after)

-- The bytes begin with these rows, one after the other, and these bytes are left.
pub record BeginsWith (shape : RowShape) (s : List ℕ) (bytes : List RowBytes) (rest : List ℕ) : Type 0 where
  pub rows : List RowCells
  pub each : AllZip (IsRowBytes shape) bytes rows
  pub split : s ≡ flat_map row_bytes bytes ++ rest

-- The bytes are rows with these images, one after the other.
pub record HasImages (shape : RowShape) (s : List ℕ) (images : List RowImages) : Type 0 where
  pub bytes : List RowBytes
  pub are : BeginsWith shape s bytes []
  pub is : images ≡ map (images_of shape) bytes

-- So they are; or a row is refused.
abbrev pub GivesImages : RowShape → List ℕ → Option (List RowImages) → Type 0
GivesImages shape s (Some images) = HasImages shape s images
GivesImages shape s None = (error : RowsError) × IsRefused shape 0 s error

-- ---- an event

-- The rows are known: they are complete, and the bytes are rows of a table with these columns. Else they aren't.
pub record HasKnown (columns : List Typed) (event : RowsEventData) (images : List RowImages) : Type 0 where
  pub complete : is_complete event ≡ true
  pub count : count_error (event_in event).columns.count (length columns) ≡ None
  pub are : HasImages (event_shape columns (event_in event)) (event_in event).rows images

abbrev pub KnowsRows : List Typed → RowsEventData → Option (List RowImages) → Type 0
KnowsRows columns event (Some images) = HasKnown columns event images
KnowsRows columns event None =
    (is_complete event ≡ false) ⊎ (count_error (event_in event).columns.count (length columns) ≢ None)
    ⊎ GivesImages (event_shape columns (event_in event)) (event_in event).rows None

abbrev pub KnowsUnlessRefused : Option ColumnError → TableMapEvent → RowsEventData → Option (List RowImages) → Type 0
KnowsUnlessRefused (Some error) map event known = known ≡ None
KnowsUnlessRefused None map event known = KnowsRows (columns_in map.columns.types map.columns.metadata) event known

-- The types TIMESTAMP, TIME and DATETIME, whose values have one form or another in a log of MariaDB's, which doesn't say which.
abbrev pub is_old_temporal : ℕ → Bool
is_old_temporal number = (number == 7) || ((number == 11) || (number == 12))

abbrev pub HasOldTemporal : EventView → List ℕ → Bool → Type 0
HasOldTemporal event types old =
    (is_of_maria : Bool) × (IsTrue is_of_maria ↔ IsMariaVersion (take 50 event.fde.server_version)) × (old ≡ (is_of_maria && list_any is_old_temporal types))

abbrev pub KnowsUnlessOld : Bool → TableMapEvent → RowsEventData → Option (List RowImages) → Type 0
KnowsUnlessOld true map event known = known ≡ None
KnowsUnlessOld false map event known = KnowsUnlessRefused (refusal 0 map.columns.types map.columns.metadata) map event known

-- Of a table with this table map.
abbrev pub KnowsMapped : EventView → TableMapEvent → RowsEventData → Option (List RowImages) → Type 0
KnowsMapped event map rows known = (old : Bool) × HasOldTemporal event map.columns.types old × KnowsUnlessOld old map rows known

-- The rows of an event of which this was read. Compressed rows are none of these.
abbrev pub rows_of_mysql : EventData → Option RowsEventData
rows_of_mysql (mysql.RowsEvent rows) = Some rows
rows_of_mysql _ = None

abbrev pub rows_of_body : LogEventData → Option RowsEventData
rows_of_body (Mysql body) = rows_of_mysql body
rows_of_body (Maria body) = None

abbrev pub rows_read : Result (Option LogEventData) Error → Option RowsEventData
rows_read (Ok (Some body)) = rows_of_body body
rows_read (Ok None) = None
rows_read (Err error) = None

abbrev pub KnowsIfRows : EventView → TableMapEvent → Option RowsEventData → Option (List RowImages) → Type 0
KnowsIfRows event map None known = known ≡ None
KnowsIfRows event map (Some rows) known = KnowsMapped event map rows known

abbrev pub KnowsRowsIf : EventView → Option TableMapEvent → Option RowsEventData → Option (List RowImages) → Type 0
KnowsRowsIf event None rows known = known ≡ None
KnowsRowsIf event (Some map) rows known = KnowsIfRows event map rows known

-- Of an event of which this was read.
abbrev pub KnowsIfMapped : EventView → Option TableMapEvent → Result (Option LogEventData) Error → Option (List RowImages) → Type 0
KnowsIfMapped event map read known = KnowsRowsIf event map (rows_read read) known

-- What is known of the rows of an event, where these table maps are in force behind it.
pub record Knows (maps : TableMaps) (event : EventView) (known : Option (List RowImages)) : Type 0 where
  pub read : Result (Option LogEventData) Error
  pub reads : ReadsLogData event read
  pub is : KnowsIfMapped event (map_for maps (rows_in read)) read known
