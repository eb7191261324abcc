-- What both passes over logs say together.
use Rattle.std.proofs.Common.{◌≡◌, ℕ, Bool, true, false, ◌+◌, ◌<◌, ◌^◌, List, [], ◌∷◌, length, Option, Some, None, IfSome, refl, sym, subst}
use Rattle.clap.specs.declared.parser.matches.Found.{Found}
use Rattle.binlog_undo_command.specs.LogPlaces.{place_at}
use Rattle.binlog_undo_command.specs.Scanned.{AreUndoneFrom, IsUndone}
use Rattle.binlog_undo_command.specs.UndoneLogs.{HaveFrames, UndoesKnown, UndoesLogs, UndoesAll}
use Rattle.binlog_undo_command.specs.Written.{EndsLogs, WritesAll, WritesOne, WritesLogs}
use Rattle.binlog_undo_command.specs.declared.log_place.LogPlace.{LogPlace}
use Rattle.binlog_undo_command.specs.declared.scanning.ScannedLog.{ScannedLog}
use Rattle.binlog_undo_log.proofs.FileChanges.{file_undone}
use Rattle.binlog_undo_log.specs.declared.one_transaction.Commit.{Commit}
use Rattle.binlog_undo_log.specs.declared.output.UndoOutput.{UndoOutput}

module _ {F W : Type 0} (bytes : List ℕ → Option (List ℕ)) (has_frames : List ℕ → F → Type 0) (is_at : F → ℕ → List ℕ → Type 0) (contents : W → Option (List ℕ)) (found : Found)
    (there : HaveFrames bytes has_frames is_at) where
  log_undone : (place : LogPlace) (known : Option (List ℕ)) (log : ScannedLog) (old new : UndoOutput W) → bytes log.name.now ≡ known → IsUndone found place known log.scan
      → WritesOne has_frames is_at contents log old new → IfSome known (λ all. length all < 2 ^ 64 → UndoesKnown contents found place all log.scan old new)
  log_undone place None log old new has is one = tt
  log_undone place (Some all) log old new has is one =
      λ small. record {
        start = is.scanned.start;
        states = is.scanned.states;
        undoes = file_undone contents (is_at one.frames) is.scanned.states.choice is.scanned.states.checks is.scanned.states.skips all is.scanned.start log.scan old new small
            (there log.name.now all one.frames has one.are) is.scanned.states.fresh (is.scanned.scans small) is.skipped one.writes;
      }

  pub logs_undone : (count index : ℕ) (names : List (List ℕ)) (logs : List ScannedLog) (old new : UndoOutput W) → AreUndoneFrom bytes found count index names logs
      → WritesLogs has_frames is_at contents logs old new → UndoesLogs bytes contents found count index logs old new
  logs_undone count index [] [] old new are written = written
  logs_undone count index [] (log ∷ logs) old new are written = absurd are
  logs_undone count index (name ∷ names) [] old new are written = absurd are
  logs_undone count index (name ∷ names) (log ∷ logs) old new are written = (
    written.0,
    logs_undone count (index + 1) names logs old written.0 are.2 written.1,
    log_undone (place_at count index) (bytes log.name.now) log written.0 new refl (subst (λ (text : List ℕ). IsUndone found (place_at count index) (bytes text) log.scan) (sym are.0) are.1) written.2,
  )

  -- What is between the ends of one transaction.
  ends_undone : (count : ℕ) (names : List (List ℕ)) (logs : List ScannedLog) (commit : Option Commit) (old new : UndoOutput W) → AreUndoneFrom bytes found count 0 names logs
      → EndsLogs has_frames is_at contents (WritesLogs has_frames is_at contents logs) commit old new
      → EndsLogs has_frames is_at contents (UndoesLogs bytes contents found count 0 logs) commit old new
  ends_undone count names logs None old new are ends = ends
  ends_undone count names logs (Some commit) old new are ends = (ends.0, logs_undone count 0 names logs old ends.0 are ends.1, ends.2)

  pub all_undone : (count : ℕ) (names : List (List ℕ)) (is_one : Bool) (logs : List ScannedLog) (old new : UndoOutput W) → AreUndoneFrom bytes found count 0 names logs
      → WritesAll has_frames is_at contents is_one logs old new → UndoesAll bytes has_frames is_at contents found count is_one logs old new
  all_undone count names true logs old new are written = record {
    commit = written.commit;
    begun = written.begun;
    begins = written.begins;
    ends = ends_undone count names logs written.commit written.begun new are written.ends;
  }
  all_undone count names false logs old new are written = logs_undone count 0 names logs old new are written
