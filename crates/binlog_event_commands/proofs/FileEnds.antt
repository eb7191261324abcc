-- What a file has whose output is finished.
use Rattle.std.proofs.Common.{◌≡◌, ◌≢◌, ℕ, Bool, true, false, List, Option, Some, None, if◌then◌else◌, sym, ap}
use Rattle.std.specs.Io.KnownBytes.{Keeps}
use Rattle.std.specs.declared.io.Error.{Error}
use Rattle.binlog_cli.specs.Outputs.{EndsFile, FinishesFile, HasBytes, written}
use Rattle.binlog_cli.specs.declared.exit_status.Outcome.{Outcome}
use Rattle.binlog_cli.specs.declared.exit_status.Status.{Status}
use Rattle.binlog_cli.specs.declared.exit_status.Status.TheVariants.{Failed}

module _ (bytes writer : Option (List ℕ)) (after : Status) (is_fine : after ≢ Failed) where
  is_written : (status : Status) (is : Bool) → after ≡ (if is then status else Failed) → record { status = status; is_written = is } ≡ written after
  is_written status true ends = ap written (sym ends)
  is_written status false ends = absurd (is_fine ends)

  is_whole : (failure : Option Error) (outcome : Outcome) → EndsFile failure outcome after → HasBytes failure bytes writer → (outcome ≡ written after) × Keeps bytes writer
  is_whole (Some failure) outcome ends has = absurd (is_fine ends)
  is_whole None outcome ends has = (is_written outcome.status outcome.is_written ends, has)

  -- It has all bytes, and the status is that of the outcome, unless that is the status of a failure.
  pub whole_file : (noted : Option Error) (outcome : Outcome) → FinishesFile noted bytes outcome after writer → (outcome ≡ written after) × Keeps bytes writer
  whole_file noted outcome ends = is_whole ends.failure outcome ends.status ends.has
