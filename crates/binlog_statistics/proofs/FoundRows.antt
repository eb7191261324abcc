-- What is found of rows in an event that may have some.
use Rattle.std.proofs.Common.{◌≡◌, inr, true, Result, Ok, Err, Option, Some, subst}
use Rattle.std.specs.Prelude.{IfOk, option_and_then}
use Rattle.binlog_wire.specs.declared.error.Error.{Error}
use Rattle.binlog_wire.specs.declared.error.Error.TheVariants.{Memory}
use Rattle.binlog_event_format.specs.Headers.{header_of}
use Rattle.binlog_events.specs.Events.{EventView}
use Rattle.binlog_file.specs.LogData.{ReadsLogData}
use Rattle.binlog_file.specs.TableMapsInForce.{TableMaps}
use Rattle.binlog_rows.specs.declared.table_map_event.TableMapEvent.{TableMapEvent}
use Rattle.binlog_file.specs.declared.log_data.LogEventData.{LogEventData}
use Rattle.binlog_statistics.specs.Found.{may_have_rows, table_id_in, IsFound, FindsMappedRows, FindsRows}
use Rattle.binlog_statistics.specs.declared.finding.RowsFound.{RowsFound}

pub rows_found : (maps : TableMaps) (event : EventView) (read : Result (Option LogEventData) Error) (answer : Result RowsFound Error) → may_have_rows (header_of event.frame).event_type ≡ true → ReadsLogData event read
    → (map : Option TableMapEvent) → map ≡ option_and_then maps (table_id_in read)
    → IfOk answer (λ found. ¬ (read ≡ Err Memory) × IsFound map read found) → IfOk answer (λ found. FindsRows maps event found)
rows_found maps event read (Ok found) may reads map mapped (is_read, is) =
    inr (may, record { read = read; reads = reads; is_read = is_read; is = subst (λ (m : Option TableMapEvent). IsFound m read found) mapped is })
rows_found maps event read (Err error) may reads map mapped none = tt

pub mapped_found : (table_map : TableMapEvent) (event : EventView) (read : Result (Option LogEventData) Error) (answer : Result RowsFound Error) (map : Option TableMapEvent) → ReadsLogData event read
    → map ≡ Some table_map → IfOk answer (λ found. ¬ (read ≡ Err Memory) × IsFound map read found) → IfOk answer (FindsMappedRows table_map event)
mapped_found table_map event read (Ok found) map reads mapped (is_read, is) =
    record { read = read; reads = reads; is_read = is_read; is = subst (λ (m : Option TableMapEvent). IsFound m read found) mapped is }
mapped_found table_map event read (Err error) map reads mapped none = tt
