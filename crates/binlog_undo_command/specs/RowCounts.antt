-- The rows that are undone of logs.
use Rattle.std.specs.Prelude.{◌≡◌, ℕ, false, List, [], ◌∷◌, ◌++◌}
use Rattle.binlog_events.specs.Events.{EventView}
use Rattle.binlog_rows.specs.declared.table_map_event.TableMapEvent.{TableMapEvent}
use Rattle.binlog_statistics.specs.Counting.{CountsMapped}
use Rattle.binlog_statistics.specs.ItemFacts.{IsMappedFact}
use Rattle.binlog_undo_command.specs.declared.row_counts.RowCounts.{RowCounts}
use Rattle.binlog_undo_command.specs.declared.scanning.ScannedLog.{ScannedLog}
use Rattle.binlog_undo_log.specs.Visiting.{MappedRows, AreUndoneRows}
use Rattle.change_statistics.specs.Facts.{Fact}
use Rattle.change_statistics.specs.Tables.{Adds, AreEmpty, AddsAll}
use Rattle.change_statistics.specs.WholeTables.{AreTableStats}
use Rattle.change_statistics.specs.declared.tables.TableStats.{TableStats}

-- What a visit makes of the counts.
abbrev pub counts : RowCounts → TableMapEvent → EventView → RowCounts → Type 0
counts old map event new = CountsMapped Adds old.counter.stats map event new.counter.stats

-- These are the facts of the row events, one after the other.
abbrev pub AreFactsOf : List MappedRows → List Fact → Type 0
AreFactsOf [] facts = facts ≡ []
AreFactsOf (rows ∷ others) facts = (fact : Fact) × (more : List Fact) × IsMappedFact rows.map rows.event fact × AreFactsOf others more × (facts ≡ fact ∷ more)

-- `has_frames` says which frames the log of a name has.
module _ {F : Type 0} (has_frames : List ℕ → F → Type 0) (is_at : F → ℕ → List ℕ → Type 0) where
  -- These are the facts of the row events that are undone of a log.
  pub record AreLogFacts (log : ScannedLog) (facts : List Fact) : Type 0 where
    pub frames : F
    pub are : has_frames log.name.now frames
    pub rows : List MappedRows
    pub undone : AreUndoneRows (is_at frames) log.scan rows
    pub facts_are : AreFactsOf rows facts

  -- Of logs, the last log first.
  abbrev pub AreAllFacts : List ScannedLog → List Fact → Type 0
  AreAllFacts [] facts = facts ≡ []
  AreAllFacts (log ∷ logs) facts = (own : List Fact) × (others : List Fact) × AreAllFacts logs others × AreLogFacts log own × (facts ≡ others ++ own)

  -- The row events that are undone of a log are counted.
  pub record CountsLog (log : ScannedLog) (old new : TableStats) : Type 0 where
    pub facts : List Fact
    pub are : AreLogFacts log facts
    pub added : AddsAll facts old new

  -- Those of logs are, the last log first.
  abbrev pub CountsEach : List ScannedLog → TableStats → TableStats → Type 0
  CountsEach [] old new = new ≡ old
  CountsEach (log ∷ logs) old new = (mid : TableStats) × CountsEach logs old mid × CountsLog log mid new

  -- The row events that are undone of all logs are counted from nothing, and there was room for all their tables.
  pub record CountsRows (logs : List ScannedLog) (stats : TableStats) : Type 0 where
    pub none : TableStats
    pub empty : AreEmpty none
    pub counts : CountsEach logs none stats
    pub room : stats.is_full ≡ false

  -- The statistics are those of the row events that are undone of all logs.
  pub record AreRowCounts (logs : List ScannedLog) (stats : TableStats) : Type 0 where
    pub facts : List Fact
    pub are : AreAllFacts logs facts
    pub counted : AreTableStats facts stats
