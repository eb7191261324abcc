-- What a filter of tables makes of an event, by what was read of its data.
use Rattle.std.proofs.Common.{Bool, Option, Result, Ok, Err, IfOk}
use Rattle.binlog_wire.specs.declared.error.Error.{Error}
use Rattle.binlog_file.specs.Events.{EventView}
use Rattle.binlog_file.specs.LogData.{ReadsLogData}
use Rattle.binlog_file.specs.TableMapsInForce.{TableMaps}
use Rattle.binlog_file.specs.declared.log_data.LogEventData.{LogEventData}
use Rattle.binlog_filters.specs.Reading.{IsReadAs}
use Rattle.binlog_filters.specs.Tables.{read_concern, ReadsConcern}
use Rattle.binlog_filters.specs.declared.concern.Concern.{Concern}
use Rattle.binlog_filters.specs.declared.tables.TableFilter.{TableFilter}

pub concerned : (filter : TableFilter) (is_for_copy : Bool) (maps : TableMaps) (event : EventView) (read : Result (Option LogEventData) Error) (answer : Result Concern Error) → ReadsLogData event read
    → IfOk answer (λ concern. IsReadAs (read_concern filter is_for_copy maps) read concern) → IfOk answer (λ concern. ReadsConcern filter is_for_copy maps event concern)
concerned filter is_for_copy maps event read (Ok concern) reads is = record { read = read; reads = reads; is = is }
concerned filter is_for_copy maps event read (Err error) reads is = tt
