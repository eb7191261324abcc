-- What follows from reading the data of an event.
use Rattle.std.specs.Prelude.{◌≡◌, Option, Result, Err}
use Rattle.binlog_wire.specs.declared.error.Error.{Error}
use Rattle.binlog_wire.specs.declared.error.Error.TheVariants.{Memory}
use Rattle.binlog_file.specs.declared.log_data.LogEventData.{LogEventData}

-- This follows from what was read, which isn't a lack of memory: that says nothing of the data.
pub record IsReadAs {A : Type 0} (answers : Result (Option LogEventData) Error → A) (read : Result (Option LogEventData) Error) (now : A) : Type 0 where
  pub is_read : ¬ (read ≡ Err Memory)
  pub is : now ≡ answers read
