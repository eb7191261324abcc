-- What `binlog stats --by time` makes of its output.
use Rattle.std.specs.Prelude.{◌≡◌, ◌⊎◌, ℕ, Bool, true, false, List, Option}
use Rattle.std.specs.Io.KnownBytes.{Appends}
use Rattle.change_statistics.specs.declared.intervals.IntervalStats.{IntervalStats}
use Rattle.binlog_cli.specs.Outputs.{written}
use Rattle.binlog_summaries.specs.StatsText.{Writes}
use Rattle.binlog_cli.specs.declared.exit_status.Outcome.{Outcome}
use Rattle.binlog_cli.specs.declared.exit_status.Status.TheVariants.{Failed}
use Rattle.binlog_summaries.specs.IntervalJson.{intervals_json}
use Rattle.binlog_summaries.specs.IntervalText.{IsIntervalsText}
use Rattle.binlog_statistics_command.specs.WrittenRows.{WritesOr}

-- The text of statistics by time, or their lines of JSON, are written.
abbrev pub WritesCounted : (is_json : Bool) → IntervalStats → (old new : Option (List ℕ)) → Type 0
WritesCounted true stats old new = Appends old new (intervals_json stats)
WritesCounted false stats old new = Writes (λ text. IsIntervalsText stats text) old new

-- Statistics by time are written; nothing is if there was no room for an interval, and the outcome says so.
abbrev pub WritesIntervals : (is_json : Bool) → IntervalStats → Outcome → (old new : Option (List ℕ)) → Type 0
WritesIntervals is_json stats outcome old new =
    ((stats.is_full ≡ true) × (outcome ≡ written Failed) × (new ≡ old)) ⊎ ((stats.is_full ≡ false) × WritesOr (WritesCounted is_json stats old new) outcome)
