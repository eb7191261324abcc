-- Which failures come when.
use Rattle.std.proofs.Common.{◌≡◌, ◌⊎◌, inl, inr, ℕ, Bool, true, false, List, [], ◌∷◌, refl, subst}
use Rattle.binlog_undo_items.specs.Failures.{failure_of, is_late}
use Rattle.binlog_undo_items.specs.Logs.{AreLogs, IsNoSplit}
use Rattle.binlog_undo_items.specs.Scanned.{HasNoLog, HasNoTable, IsNoLog, IsNoRequest, IsNoScan, ScansRequest}
use Rattle.binlog_undo_items.specs.Tables.{IsNoTables}
use Rattle.binlog_undo_items.specs.Undoing.{FailsUntold, IsFailure, IsNotMade}
use Rattle.binlog_undo_items.specs.declared.failure.UndoFailure.{UndoFailure}
use Rattle.binlog_undo_items.specs.declared.failure.UndoFailure.TheVariants as failures
use Rattle.binlog_undo_items.specs.declared.refusals.BinlogRefusal.{BinlogRefusal}
use Rattle.binlog_undo_items.specs.declared.undoing.BinlogUndone.{BinlogUndone}
use Rattle.binlog_undo_items.specs.declared.request.UndoRequest.{UndoRequest}
use Rattle.binlog_undo_log.specs.declared.undo_error.UndoLogError.{UndoLogError}
use Rattle.binlog_undo_log.specs.declared.undo_error.UndoLogError.TheVariants as errors

pub late_of : (error : UndoLogError) → is_late (failure_of error) ≡ true
late_of errors.Changed = refl
late_of errors.Reader = refl
late_of errors.Writer = refl
late_of errors.TooLong = refl
late_of errors.Description = refl
late_of errors.Memory = refl

-- It comes before anything is undone.
abbrev is_early : UndoFailure → Bool
is_early failures.Options = true
is_early failures.EndOfInput = true
is_early failures.InvalidFileHeader = true
is_early failures.Memory = true
is_early failures.Refused = false
is_early failures.Description = false
is_early failures.TooLong = false
is_early failures.Changed = false

split_early : (bytes sizes : List ℕ) (failure : UndoFailure) → IsNoSplit bytes sizes failure → is_early failure ≡ true
split_early bytes sizes failures.Options h = refl
split_early bytes sizes failures.EndOfInput h = refl
split_early bytes sizes failures.InvalidFileHeader h = refl
split_early bytes sizes failures.Memory h = refl
split_early bytes sizes failures.Refused h = absurd h
split_early bytes sizes failures.Description h = absurd h
split_early bytes sizes failures.TooLong h = absurd h
split_early bytes sizes failures.Changed h = absurd h

tables_early : (text : List ℕ) (failure : UndoFailure) → IsNoTables text failure → is_early failure ≡ true
tables_early text failures.Options h = refl
tables_early text failures.EndOfInput h = refl
tables_early text failures.InvalidFileHeader h = refl
tables_early text failures.Memory h = refl
tables_early text failures.Refused h = absurd h
tables_early text failures.Description h = absurd h
tables_early text failures.TooLong h = absurd h
tables_early text failures.Changed h = absurd h

log_early : (log : List ℕ) (failure : UndoFailure) → IsNoLog log failure → is_early failure ≡ true
log_early log failures.Options h = refl
log_early log failures.EndOfInput h = refl
log_early log failures.InvalidFileHeader h = refl
log_early log failures.Memory h = refl
log_early log failures.Refused h = absurd h
log_early log failures.Description h = absurd h
log_early log failures.TooLong h = absurd h
log_early log failures.Changed h = absurd h

logs_early : (logs : List (List ℕ)) (failure : UndoFailure) → HasNoLog logs failure → is_early failure ≡ true
logs_early [] failure h = absurd h
logs_early (log ∷ logs) failure (inl is) = log_early log failure is
logs_early (log ∷ logs) failure (inr has) = logs_early logs failure has

is_early_as : (failure other : UndoFailure) → failure ≡ other → is_early other ≡ true → is_early failure ≡ true
is_early_as failure other e h = rw e h

scan_early : (request : UndoRequest) (logs : List (List ℕ)) (failure : UndoFailure) → IsNoScan request logs failure → is_early failure ≡ true
scan_early request logs failure (inl (inl h)) = tables_early request.tables.now failure h
scan_early request logs failure (inl (inr h)) = tables_early request.excluded.now failure h
scan_early request logs failure (inr (inl h)) = logs_early logs failure h
scan_early request logs failure (inr (inr h)) = is_early_as failure failures.Memory h refl

request_early : (request : UndoRequest) (failure : UndoFailure) → IsNoRequest request failure → is_early failure ≡ true
request_early request failure (inl h) = is_early_as failure failures.Options h.0 refl
request_early request failure (inr (inl h)) = split_early request.logs.now request.sizes.now failure h
request_early request failure (inr (inr h)) = scan_early request h.0 failure h.2

-- Why logs aren't scanned.
pub untold_request : (request : UndoRequest) (failure : UndoFailure) → IsNoRequest request failure → FailsUntold request failure
untold_request request failures.Options h = h
untold_request request failures.EndOfInput h = h
untold_request request failures.InvalidFileHeader h = h
untold_request request failures.Memory h = tt
untold_request request failures.Refused h = let e : false ≡ true = request_early request failures.Refused h in absurd cc
untold_request request failures.Description h = let e : false ≡ true = request_early request failures.Description h in absurd cc
untold_request request failures.TooLong h = let e : false ≡ true = request_early request failures.TooLong h in absurd cc
untold_request request failures.Changed h = let e : false ≡ true = request_early request failures.Changed h in absurd cc

-- That isn't for what can't be undone.
pub early_is_untold : (request : UndoRequest) → IsNoRequest request failures.Refused → ⊥
early_is_untold request h = let e : false ≡ true = request_early request failures.Refused h in absurd cc

-- Why the log of scanned logs isn't made.
pub untold_late : (request : UndoRequest) (failure : UndoFailure) → is_late failure ≡ true → IsNotMade request → FailsUntold request failure
untold_late request failures.Options e h = absurd cc
untold_late request failures.EndOfInput e h = absurd cc
untold_late request failures.InvalidFileHeader e h = absurd cc
untold_late request failures.Memory e h = tt
untold_late request failures.Refused e h = absurd cc
untold_late request failures.Description e h = h
untold_late request failures.TooLong e h = h
untold_late request failures.Changed e h = h

-- Nothing is told then.
pub early_failure : (request : UndoRequest) (failure : UndoFailure) (refusals : List BinlogRefusal) (undone : BinlogUndone) → IsNoRequest request failure → IsFailure request failure refusals refusals undone undone
early_failure request failures.Options refusals undone h = record { fails = h; refusals = refl; undone = refl }
early_failure request failures.EndOfInput refusals undone h = record { fails = h; refusals = refl; undone = refl }
early_failure request failures.InvalidFileHeader refusals undone h = record { fails = h; refusals = refl; undone = refl }
early_failure request failures.Memory refusals undone h = record { fails = tt; refusals = refl; undone = refl }
early_failure request failures.Refused refusals undone h = absurd (early_is_untold request h)
early_failure request failures.Description refusals undone h = record { fails = untold_request request failures.Description h; refusals = refl; undone = refl }
early_failure request failures.TooLong refusals undone h = record { fails = untold_request request failures.TooLong h; refusals = refl; undone = refl }
early_failure request failures.Changed refusals undone h = record { fails = untold_request request failures.Changed h; refusals = refl; undone = refl }
