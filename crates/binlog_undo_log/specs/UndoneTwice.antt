-- Logs that are undone twice.
use Rattle.std.specs.Prelude.{◌≡◌, ◌⊎◌, ℕ, Bool, true, false, List, [], Option, Some, None, Ok, IsSomeAnd}
use Rattle.std.specs.List.{AllByRecursion}
use Rattle.binlog_event_data.specs.declared.event_data.EventData.TheVariants as mysql
use Rattle.binlog_event_format.specs.declared.format_description.FormatDescriptionEvent.{FormatDescriptionEvent}
use Rattle.binlog_events.specs.Events.{EventView}
use Rattle.binlog_file.specs.LogData.{ReadsLogData}
use Rattle.binlog_file.specs.declared.log_data.LogEventData.TheVariants.{Mysql}
use Rattle.binlog_filters.specs.Taking.{HasNoCondition}
use Rattle.binlog_rows.specs.declared.rows_event_data.RowsEventData.{RowsEventData}
use Rattle.binlog_rows.specs.declared.table_map_event.TableMapEvent.{TableMapEvent}
use Rattle.binlog_undo.specs.InverseEvents.{inverse_type}
use Rattle.binlog_undo_index.specs.Groups.{Kept}
use Rattle.binlog_undo_log.specs.FullImages.{HasFullImages}
use Rattle.binlog_undo_log.specs.Heads.{has_rows_length}
use Rattle.binlog_undo_log.specs.LogChanges.{LogChange, AreKeptChanges}
use Rattle.binlog_undo_log.specs.Looking.{IsUnknownTemporal}
use Rattle.binlog_undo_log.specs.Places.{FramesOf}
use Rattle.binlog_undo_log.specs.WholeLogs.{IsLogOf, IsLogOfChanges}
use Rattle.binlog_undo_log.specs.declared.choice.Choice.{Choice}
use Rattle.binlog_undo_log.specs.declared.output.UndoOutput.{UndoOutput}

-- All transactions are taken, and the rows of all tables.
pub record TakesAll (choice : Choice) : Type 0 where
  pub transactions : HasNoCondition choice.transactions
  pub tables : choice.tables ≡ None
  pub excluded : choice.excluded ≡ None

-- If the event has rows, each column is in their images, and its description states how rows of the type are read that undoes them. If it
-- is a table map, the form of the values of its columns is known.
pub record IsWholeEvent (has_plain_temporal : Bool) (event : EventView) : Type 0 where
  pub images : (rows : RowsEventData) → ReadsLogData event (Ok (Some (Mysql (mysql.RowsEvent rows)))) → HasFullImages rows
  pub lengths : (rows : RowsEventData) → ReadsLogData event (Ok (Some (Mysql (mysql.RowsEvent rows)))) → has_rows_length event.fde (inverse_type rows) ≡ true
  pub times : (map : TableMapEvent) (unknown : Bool) → ReadsLogData event (Ok (Some (Mysql (mysql.TableMapEvent map))))
      → IsUnknownTemporal has_plain_temporal event map.columns.types unknown → unknown ≡ false

-- So are all events of a log of these bytes.
abbrev pub HasWholeEvents : Bool → List ℕ → Type 0
HasWholeEvents has_plain_temporal bytes = (events : List EventView) → IsLogOf events bytes → AllByRecursion (IsWholeEvent has_plain_temporal) events

-- The log is a description, and events that are these changes. Without changes it may have no event.
abbrev pub IsLogWith : List LogChange → List ℕ → Type 0
IsLogWith changes bytes = IsLogOfChanges changes bytes ⊎ ((changes ≡ []) × IsLogOf [] bytes)

-- The log that was written has the changes of these transactions.
pub record HasChangesAgain {W : Type 0} (contents : W → Option (List ℕ)) (is_at : FramesOf) (kept : List Kept) (output : UndoOutput W) : Type 0 where
  pub d : FormatDescriptionEvent
  pub changes : List LogChange
  pub are : AreKeptChanges is_at d kept changes
  pub log : IsSomeAnd (contents output.writer) (IsLogWith changes)
