-- The status of the program.
use Rattle.std.specs.Prelude.{◌≡◌, ◌≢◌, ◌⊎◌, ℕ, List, codes, Result, Ok, Err}
use Rattle.clap.specs.declared.error.kind.ErrorKind.{ErrorKind}
use Rattle.clap.specs.declared.error.kind.ErrorKind.TheVariants as kinds
use Rattle.binlog_cli.specs.declared.exit_status.Status.{Status}
use Rattle.binlog_cli.specs.declared.exit_status.Status.TheVariants.{Fine, Failed, Usage}

-- The status of a command that ended, or of one that can't begin.
abbrev pub status_of : {W : Type 0} → Result (Status × W) Status → Status
status_of (Ok ended) = ended.0
status_of (Err status) = status

-- The status if the words state no command, by what they are instead: wrong usage, unless they ask for help or the version, which
-- may not be printed, or memory ran out.
abbrev pub EndsRefused : ErrorKind → (status : Status) → Type 0
EndsRefused kinds.DisplayHelp status = (status ≡ Fine) ⊎ (status ≡ Failed)
EndsRefused kinds.DisplayVersion status = (status ≡ Fine) ⊎ (status ≡ Failed)
EndsRefused kinds.OutOfMemory status = status ≡ Failed
EndsRefused kind status = status ≡ Usage

-- No command has this name.
abbrev pub IsNoCommand : List ℕ → Type 0
IsNoCommand name = (name ≢ codes "list") × (name ≢ codes "json") × (name ≢ codes "gtids") × (name ≢ codes "verify") × (name ≢ codes "stats") × (name ≢ codes "copy") × (name ≢ codes "undo")
