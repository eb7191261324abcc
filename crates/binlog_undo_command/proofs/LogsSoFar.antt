-- The logs over which a loop has gone.
use Rattle.std.proofs.Common.{◌≡◌, ℕ, ◌+◌, ◌<◌, ◌≤◌, List, length, take, get_or, Result, Ok, Err, IfErr, sym, subst}
use Rattle.std.proofs.lemmas.List.{take_all}
use Rattle.std.proofs.lemmas.List.Elements.{All-more}
use Rattle.std.specs.List.{All, Any}
use Rattle.binlog_cli.specs.declared.exit_status.Status.{Status}
use Rattle.binlog_undo_command.specs.declared.scanning.ScannedLog.{ScannedLog}

module _ (P : ScannedLog → Type 0) where
  -- One more log is such a log.
  pub all_next : (logs : List ScannedLog) (i : ℕ) (none log : ScannedLog) → i < length logs → log ≡ get_or logs i none → All P (take i logs) → P log → All P (take (i + 1) logs)
  all_next logs i none log within is so_far here = All-more P logs i none within so_far (subst P is here)

  -- All logs are, if those so far are all of them.
  pub all_end : (logs : List ScannedLog) (i : ℕ) → length logs ≤ i → All P (take i logs) → All P logs
  all_end logs i behind are = subst (λ (them : List ScannedLog). All P them) (take_all i logs behind) are

  -- One of the logs is.
  pub any_here : (logs : List ScannedLog) (i : ℕ) (log : ScannedLog) → i < length logs → log ≡ get_or logs i log → P log → Any P logs
  any_here logs i log within is here = (i, log, within, sym is, here)

pub err_weaker : {A : Type 0} (answer : Result A Status) (P Q : Status → Type 0) → ((status : Status) → P status → Q status) → IfErr answer P → IfErr answer Q
err_weaker (Ok value) P Q to is = tt
err_weaker (Err status) P Q to is = to status is
