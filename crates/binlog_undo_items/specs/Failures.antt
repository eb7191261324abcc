-- Why no log is written that undoes others.
use Rattle.std.specs.Prelude.{ℕ, Bool, true, false}
use Rattle.binlog_undo_items.specs.declared.failure.UndoFailure.{UndoFailure}
use Rattle.binlog_undo_items.specs.declared.failure.UndoFailure.TheVariants as failures
use Rattle.binlog_undo_log.specs.declared.undo_error.UndoLogError.{UndoLogError}
use Rattle.binlog_undo_log.specs.declared.undo_error.UndoLogError.TheVariants as errors

-- The number of each error, as C has it.
abbrev pub failure_number : UndoFailure → ℕ
failure_number failures.EndOfInput = 1
failure_number failures.InvalidFileHeader = 2
failure_number failures.TooLong = 10
failure_number failures.Memory = 12
failure_number failures.Options = 118
failure_number failures.Refused = 119
failure_number failures.Description = 120
failure_number failures.Changed = 121

-- Logs in memory are always read, and writing takes memory alone.
abbrev pub failure_of : UndoLogError → UndoFailure
failure_of errors.Changed = failures.Changed
failure_of errors.Reader = failures.Changed
failure_of errors.Writer = failures.Memory
failure_of errors.TooLong = failures.TooLong
failure_of errors.Description = failures.Description
failure_of errors.Memory = failures.Memory

-- It comes where nothing is refused, but the log isn't made.
abbrev pub is_late : UndoFailure → Bool
is_late failures.TooLong = true
is_late failures.Memory = true
is_late failures.Description = true
is_late failures.Changed = true
is_late failure = false
