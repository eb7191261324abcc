-- The text of the GTID of a transaction, by what was read of the event with which it begins.
use Rattle.std.proofs.Common.{◌≡◌, inr, ℕ, true, List, Option, Result, Ok, Err, OnOk}
use Rattle.binlog_wire.specs.declared.error.Error.{Error}
use Rattle.binlog_event_format.specs.Headers.{header_of}
use Rattle.binlog_events.specs.Events.{EventView}
use Rattle.binlog_file.specs.LogData.{ReadsLogData}
use Rattle.binlog_file.specs.declared.log_data.LogEventData.{LogEventData}
use Rattle.binlog_filters.specs.Reading.{IsReadAs}
use Rattle.binlog_filters.specs.Taking.{begins_transaction}
use Rattle.binlog_statistics.specs.TransactionGtids.{text_read, FollowsGtid}

pub followed : {A E : Type 0} (was : List ℕ) (event : EventView) (read : Result (Option LogEventData) Error) (answer : Result A E) (now : List ℕ)
    → begins_transaction (header_of event.frame).event_type ≡ true → ReadsLogData event read → OnOk answer (IsReadAs (text_read (header_of event.frame).server_id) read now)
    → OnOk answer (FollowsGtid was event now)
followed was event read (Ok x) now begins reads is = inr (begins, record { read = read; reads = reads; is = is })
followed was event read (Err error) now begins reads is = is
