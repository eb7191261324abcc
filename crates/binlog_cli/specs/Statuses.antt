-- The status of a run whose output failed.
use Rattle.std.specs.Prelude.{◌≡◌, ◌≢◌, ◌⊎◌}
use Rattle.std.specs.IoError.{error_kind}
use Rattle.std.specs.declared.io.Error.{Error}
use Rattle.std.specs.declared.io.ErrorKind.TheVariants.{BrokenPipe}
use Rattle.binlog_cli.specs.declared.exit_status.Status.{Status}
use Rattle.binlog_cli.specs.declared.exit_status.Status.TheVariants.{Fine, NotOpened, Damaged, Failed, Usage}

-- The worse one of a status and `Failed`.
abbrev pub failed_or : Status → Status
failed_or Usage = Usage
failed_or status = Failed

-- The worse one of two statuses.
abbrev pub worse : Status → Status → Status
worse Fine b = b
worse NotOpened Fine = NotOpened
worse NotOpened b = b
worse Damaged Fine = Damaged
worse Damaged NotOpened = Damaged
worse Damaged b = b
worse Failed Usage = Usage
worse Failed b = Failed
worse Usage b = Usage

-- The status behind a failure of the output: a pipe that nobody reads any more is none of the run.
abbrev pub EndsBehind : (failure : Error) (before after : Status) → Type 0
EndsBehind failure before after =
    ((error_kind failure ≡ BrokenPipe) × (after ≡ before)) ⊎ ((error_kind failure ≢ BrokenPipe) × (after ≡ failed_or before))
