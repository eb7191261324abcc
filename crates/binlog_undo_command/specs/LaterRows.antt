-- The rows that are seen of several logs, where rows are checked.
use Rattle.std.specs.Prelude.{◌≡◌, ℕ, List, [], ◌∷◌, ◌++◌}
use Rattle.binlog_later_changes.specs.Apart.{SeenRows}
use Rattle.binlog_later_changes.specs.Later.{Look}
use Rattle.binlog_later_changes.specs.Logs.{SeesLog}
use Rattle.binlog_later_changes.specs.RowsLeft.{Left}
use Rattle.binlog_later_changes.specs.SeenRows.{Unread, rows_of_log}
use Rattle.binlog_later_changes.specs.declared.later_rules.LaterRules.{LaterRules}
use Rattle.binlog_undo_command.specs.LaterLogs.{AreUndoneOf, SeesAllLater, SeesAll, next_number}
use Rattle.binlog_undo_command.specs.declared.scanning.ScannedLog.{ScannedLog}

-- `unread` are the rows of events that aren't read, by the number of the log and their places.
module _ (bytes : List ℕ → List ℕ) (rules : LaterRules) (unread : (number : ℕ) → Unread) where
  -- Of later logs.
  abbrev pub rows_in_later : (number : ℕ) (names : List (List ℕ)) (before behind : Left) (looks : List Look) → SeesAllLater bytes rules number names before behind looks → List SeenRows
  rows_in_later number [] before behind looks sees = []
  rows_in_later number (name ∷ names) before behind looks (own, others, mid, first, more, is) =
      rows_of_log rules number (unread number) [] (bytes name) before mid own first ++ rows_in_later (next_number number) names mid behind others more

  module _ {F : Type 0} (has_frames : List ℕ → F → Type 0) (is_at : F → ℕ → List ℕ → Type 0) where
    -- Of the logs of which something is undone, and of the later ones.
    abbrev pub rows_in_all : (number : ℕ) (logs : List ScannedLog) (names : List (List ℕ)) (before behind : Left) (looks : List Look)
        → SeesAll bytes has_frames is_at rules number logs names before behind looks → List SeenRows
    rows_in_all number [] names before behind looks sees = rows_in_later number names before behind looks sees
    rows_in_all number (log ∷ logs) names before behind looks (places, own, others, mid, are, first, more, is) =
        rows_of_log rules number (unread number) places (bytes log.name.now) before mid own first ++ rows_in_all (next_number number) logs names mid behind others more
