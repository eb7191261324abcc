-- The row event that was read of the data of an event of either server.
use Rattle.std.proofs.Common.{◌≡◌, ℕ, Bool, true, false, Option, None, Some, Result, Ok, Err, refl, ap, inl, inr, ◌∙◌}
use Rattle.binlog_wire.specs.declared.error.Error.{Error}
use Rattle.binlog_consts.specs.EventTypes.{event_number, event_type_of}
use Rattle.binlog_consts.specs.EventTypeLaws.{event_type_number}
use Rattle.binlog_consts.specs.declared.event_type.EventType.{EventType}
use Rattle.binlog_consts.specs.declared.event_type.EventType.TheVariants.{WRITE_ROWS_EVENT_V1, UPDATE_ROWS_EVENT_V1, DELETE_ROWS_EVENT_V1, WRITE_ROWS_EVENT, UPDATE_ROWS_EVENT, DELETE_ROWS_EVENT, PARTIAL_UPDATE_ROWS_EVENT}
use Rattle.binlog_consts.specs.declared.event_type.UnknownEventType.{UnknownEventType}
use Rattle.binlog_event_format.specs.Headers.{header_of}
use Rattle.binlog_events.specs.Events.{EventView}
use Rattle.binlog_events.specs.Parts.{data_of}
use Rattle.binlog_event_data.specs.declared.event_data.EventData.{EventData}
use Rattle.binlog_event_data.specs.declared.event_data.EventData.TheVariants as mysql
use Rattle.binlog_file.specs.LogData.{is_own_type, answer_as, ReadsLogData}
use Rattle.binlog_file.specs.declared.log_data.LogEventData.{LogEventData}
use Rattle.binlog_file.specs.declared.log_data.LogEventData.TheVariants.{Mysql}
use Rattle.binlog_filters.specs.RowEvents as filters
use Rattle.binlog_filters.specs.RowEvents.{is_rows_type, is_of_rows, rows_event_of}
use Rattle.binlog_json_lines.proofs.ReadRows.{of_read}
use Rattle.binlog_json_lines.specs.ReadRows as lines
use Rattle.binlog_change_lines.specs.EventTexts.{mysql_rows_in}
use Rattle.binlog_change_lines.specs.ReadRows.{rows_of_read}

-- ---- no type of row events is one of MariaDB's own

not_own : (type : EventType) → is_rows_type type ≡ true → is_own_type (event_number type) ≡ false
not_own WRITE_ROWS_EVENT_V1 rows = refl
not_own UPDATE_ROWS_EVENT_V1 rows = refl
not_own DELETE_ROWS_EVENT_V1 rows = refl
not_own WRITE_ROWS_EVENT rows = refl
not_own UPDATE_ROWS_EVENT rows = refl
not_own DELETE_ROWS_EVENT rows = refl
not_own PARTIAL_UPDATE_ROWS_EVENT rows = refl
not_own type rows = absurd cc

not_of_maria : (number : ℕ) (found : Result EventType UnknownEventType) → event_type_of number ≡ found → is_of_rows found ≡ true → is_own_type number ≡ true → ⊥
not_of_maria number (Err unknown) is rows own = cc
not_of_maria number (Ok type) is rows own =
    let none : is_own_type number ≡ false = ap (λ (n : ℕ). is_own_type n) (event_type_number number type is) ∙ not_own type rows in
    cc

-- ---- what was read

same_rows : (content : EventData) → mysql_rows_in content ≡ filters.rows_in content
same_rows (mysql.RowsEvent body) = refl
same_rows content = refl

of_mysql : (read : Result (Option EventData) Error) → rows_of_read (answer_as Mysql read) ≡ lines.rows_of_read read
of_mysql (Ok (Some content)) = same_rows content
of_mysql (Ok None) = refl
of_mysql (Err error) = refl

pub of_log : (event : EventView) (read : Result (Option LogEventData) Error) → is_of_rows (event_type_of (header_of event.frame).event_type) ≡ true → ReadsLogData event read
    → rows_of_read read ≡ rows_event_of event
of_log event read rows (inl (own, (other, reads, is))) =
    absurd (not_of_maria (header_of event.frame).event_type (event_type_of (header_of event.frame).event_type) refl rows own.0)
of_log event read rows (inr (other, (inner, reads, is))) =
    ap (λ (answer : Result (Option LogEventData) Error). rows_of_read answer) is
    ∙ of_mysql inner
    ∙ of_read event.fde (header_of event.frame).event_type (data_of event.fde.footer event.frame) inner rows reads
