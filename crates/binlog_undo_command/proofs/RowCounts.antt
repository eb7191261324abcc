-- The rows of the row events that are undone, counted.
use Rattle.std.proofs.Common.{◌≡◌, ℕ, suc, ◌<◌, List, [], ◌∷◌, ◌++◌, length, drop, get_or, Result, Ok, Err, OnOk, refl, sym, ap, subst}
use Rattle.binlog_undo_command.proofs.LogsWritten.{drop_at}
use Rattle.binlog_undo_command.specs.RowCounts.{counts, AreFactsOf, AreLogFacts, AreAllFacts, CountsLog, CountsEach, CountsRows, AreRowCounts}
use Rattle.binlog_undo_command.specs.declared.row_counts.RowCounts.{RowCounts}
use Rattle.binlog_undo_command.specs.declared.scanning.ScannedLog.{ScannedLog}
use Rattle.binlog_undo_log.specs.Visiting.{MappedRows, VisitsEach, VisitsThose, AreUndoneRows}
use Rattle.binlog_undo_log.specs.declared.undo_error.UndoLogError.{UndoLogError}
use Rattle.change_statistics.proofs.HeldTables.{all_counted}
use Rattle.change_statistics.specs.Facts.{Fact}
use Rattle.change_statistics.specs.Tables.{AddsAll}
use Rattle.change_statistics.specs.declared.tables.TableStats.{TableStats}

-- ---- a log

-- The facts of row events that are visited are counted.
record AddsFacts (rows : List MappedRows) (old new : TableStats) : Type 0 where
  facts : List Fact
  are : AreFactsOf rows facts
  added : AddsAll facts old new

each_counted : (rows : List MappedRows) (old new : RowCounts) → VisitsEach counts rows old new → AddsFacts rows old.counter.stats new.counter.stats
each_counted [] old new same = record { facts = []; are = refl; added = ap (λ (r : RowCounts). r.counter.stats) same }
each_counted (first ∷ rows) old new (mid, (fact, is, adds), visited) =
    let more = each_counted rows mid new visited in
    record { facts = fact ∷ more.facts; are = (fact, more.facts, is, more.are, refl); added = (mid.counter.stats, adds, more.added) }

module _ {F : Type 0} (has_frames : List ℕ → F → Type 0) (is_at : F → ℕ → List ℕ → Type 0) where
  log_rows : (log : ScannedLog) (frames : F) (old new : RowCounts) → has_frames log.name.now frames → VisitsThose counts (AreUndoneRows (is_at frames) log.scan) old new
      → CountsLog has_frames is_at log old.counter.stats new.counter.stats
  log_rows log frames old new there h =
      let added = each_counted h.0 old new h.2 in
      record { facts = added.facts; are = record { frames = frames; are = there; rows = h.0; undone = h.1; facts_are = added.are }; added = added.added }

  pub log_counted : (answer : Result (Unit {0}) UndoLogError) (done : Unit {0}) (log : ScannedLog) (frames : F) (old new : RowCounts) → answer ≡ Ok done → has_frames log.name.now frames
      → OnOk answer (VisitsThose counts (AreUndoneRows (is_at frames) log.scan) old new) → CountsLog has_frames is_at log old.counter.stats new.counter.stats
  log_counted (Ok other) done log frames old new is there h = log_rows log frames old new there h
  log_counted (Err error) done log frames old new is there h = absurd cc

  -- ---- several logs

  -- None of the logs is counted so far.
  pub counted_none : (logs : List ScannedLog) (stats : TableStats) → CountsEach has_frames is_at (drop (length logs) logs) stats stats
  counted_none [] stats = refl
  counted_none (log ∷ logs) stats = counted_none logs stats

  -- One more log is counted, the one in front of those so far.
  pub counted_next : (logs : List ScannedLog) (n i : ℕ) (none log : ScannedLog) (old mid new : TableStats) → suc i ≡ n → i < length logs → log ≡ get_or logs i none
      → CountsEach has_frames is_at (drop n logs) old mid → CountsLog has_frames is_at log mid new → CountsEach has_frames is_at (drop i logs) old new
  counted_next logs n i none log old mid new next within is behind one =
      subst (λ (left : List ScannedLog). CountsEach has_frames is_at left old new) (sym (drop_at logs i none within))
      (mid, subst (λ (k : ℕ). CountsEach has_frames is_at (drop k logs) old mid) (sym next) behind, subst (λ (found : ScannedLog). CountsLog has_frames is_at found mid new) is one)

  -- Facts are added, and then others.
  both_added : (facts others : List Fact) (old mid new : TableStats) → AddsAll facts old mid → AddsAll others mid new → AddsAll (facts ++ others) old new
  both_added [] others old mid new same rest = subst (λ (s : TableStats). AddsAll others s new) same rest
  both_added (fact ∷ facts) others old mid new (next, one, more) rest = (next, one, both_added facts others next mid new more rest)

  record AddsLogs (logs : List ScannedLog) (old new : TableStats) : Type 0 where
    facts : List Fact
    are : AreAllFacts has_frames is_at logs facts
    added : AddsAll facts old new

  logs_counted : (logs : List ScannedLog) (old new : TableStats) → CountsEach has_frames is_at logs old new → AddsLogs logs old new
  logs_counted [] old new same = record { facts = []; are = refl; added = same }
  logs_counted (log ∷ logs) old new (mid, more, one) =
      let rest = logs_counted logs old mid more in
      record {
        facts = rest.facts ++ one.facts;
        are = (one.facts, rest.facts, rest.are, one.are, refl);
        added = both_added rest.facts one.facts old mid new rest.added one.added;
      }

  -- The statistics are those of the row events that are undone.
  pub rows_counted : (logs : List ScannedLog) (stats : TableStats) → CountsRows has_frames is_at logs stats → AreRowCounts has_frames is_at logs stats
  rows_counted logs stats c =
      let all = logs_counted logs c.none stats c.counts in
      record { facts = all.facts; are = all.are; counted = all_counted all.facts c.none stats c.empty all.added c.room }
