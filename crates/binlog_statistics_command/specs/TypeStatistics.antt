-- What `binlog stats --by type` makes of its output.
use Rattle.std.specs.Prelude.{◌≡◌, ℕ, Bool, true, false, List, ◌++◌, Option}
use Rattle.std.specs.Io.KnownBytes.{Appends}
use Rattle.binlog_commands.specs.declared.spliced_stats.SplicedStats.{SplicedStats}
use Rattle.binlog_summaries.specs.StatsText.{IsStatsText, Writes}
use Rattle.binlog_cli.specs.declared.exit_status.Outcome.{Outcome}
use Rattle.binlog_summaries.specs.InnerTypes.{inner_json, inner_text}
use Rattle.binlog_summaries.specs.TypeJson.{types_json}
use Rattle.binlog_statistics_command.specs.WrittenRows.{WritesText, WritesOr}

-- The text of what a log has, and behind it that of what is inside its compressed transactions.
abbrev pub IsTypesText : SplicedStats → List ℕ → Type 0
IsTypesText stats text = (outside : List ℕ) × IsStatsText stats.outside outside × (text ≡ outside ++ inner_text stats.inside)

-- The text of statistics by type, or their lines of JSON, are written.
abbrev pub WritesTypes : (is_json : Bool) → SplicedStats → Outcome → (old new : Option (List ℕ)) → Type 0
WritesTypes true stats outcome old new = WritesOr (Appends old new (types_json stats.outside ++ inner_json stats.inside)) outcome
WritesTypes false stats outcome old new = WritesText (Writes (λ text. IsTypesText stats text) old new) outcome
