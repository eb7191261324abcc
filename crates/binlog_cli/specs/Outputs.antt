-- The end of a run that wrote to an output.
use Rattle.std.specs.Prelude.{◌≡◌, ℕ, true, false, ◌&&◌, List, Option, Some, None, IfSome, Result, Ok, Err, if◌then◌else◌}
use Rattle.std.specs.Io.KnownBytes.{Keeps, append_known}
use Rattle.std.specs.declared.io.Error.{Error}
use Rattle.binlog_cli.specs.Statuses.{EndsBehind, failed_or, worse}
use Rattle.binlog_cli.specs.declared.exit_status.Outcome.{Outcome}
use Rattle.binlog_cli.specs.declared.exit_status.Status.{Status}
use Rattle.binlog_cli.specs.declared.exit_status.Status.TheVariants.{Failed}

-- The outcome with this status if all was written, and if the output failed.
abbrev pub written : Status → Outcome
written status = record { status = status; is_written = true }

abbrev pub unwritten : Status → Outcome
unwritten status = record { status = status; is_written = false }

-- The worse one of two outcomes.
abbrev pub worse_outcome : Outcome → Outcome → Outcome
worse_outcome a b = record { status = worse a.status b.status; is_written = a.is_written && b.is_written }

-- The status of a run with this outcome, whose output may have failed for this reason.
abbrev pub EndsWith : (failure : Option Error) (outcome : Outcome) (after : Status) → Type 0
EndsWith None outcome after = after ≡ (if outcome.is_written then outcome.status else failed_or outcome.status)
EndsWith (Some failure) outcome after = EndsBehind failure outcome.status after

-- Why an output fails, if it does, behind a call with this answer: for the reason of the first call that failed.
abbrev pub failure_behind : {T : Type 0} → Option Error → Result T Error → Option Error
failure_behind (Some failure) answer = Some failure
failure_behind None (Ok x) = None
failure_behind None (Err error) = Some error

-- A writer has a front of these bytes.
pub record HasFront (bytes writer : Option (List ℕ)) : Type 0 where
  pub left : List ℕ
  pub whole : Keeps bytes (append_known writer left)

-- The writer has all bytes of its output, or a front of them if the output failed.
abbrev pub HasBytes : (failure : Option Error) (bytes writer : Option (List ℕ)) → Type 0
HasBytes None bytes writer = Keeps bytes writer
HasBytes (Some failure) bytes writer = HasFront bytes writer

-- A run with this outcome ends with the status `after`, and its output of these bytes gives back the writer. `noted` is why the
-- output failed up to here, if it did.
pub record Finishes (noted : Option Error) (bytes : Option (List ℕ)) (outcome : Outcome) (after : Status) (writer : Option (List ℕ)) : Type 0 where
  pub failure : Option Error
  pub first : IfSome noted (λ reason. failure ≡ Some reason)
  pub status : EndsWith failure outcome after
  pub has : HasBytes failure bytes writer

-- The status of a run with this outcome that writes a file, whose output may have failed: then the file isn't whole, for whichever reason.
abbrev pub EndsFile : (failure : Option Error) (outcome : Outcome) (after : Status) → Type 0
EndsFile None outcome after = after ≡ (if outcome.is_written then outcome.status else Failed)
EndsFile (Some failure) outcome after = after ≡ Failed

-- The same of an output that is a file's.
pub record FinishesFile (noted : Option Error) (bytes : Option (List ℕ)) (outcome : Outcome) (after : Status) (writer : Option (List ℕ)) : Type 0 where
  pub failure : Option Error
  pub first : IfSome noted (λ reason. failure ≡ Some reason)
  pub status : EndsFile failure outcome after
  pub has : HasBytes failure bytes writer
