-- What undoes logs is written from the last one to the first.
use Rattle.std.proofs.Common.{◌≡◌, ◌==◌, Bool, false, true, ℕ, suc, zero, ◌<◌, arith, List, [], ◌∷◌, ◌++◌, length, take, drop, get_or, Option, Some, refl, sym, subst, ◌∙◌, ap}
use Rattle.std.proofs.lemmas.Bool.{eqb-true}
use Rattle.std.proofs.lemmas.List.{take-append-drop, nil_from_length}
use Rattle.std.specs.List.{AllByRecursion}
use Rattle.binlog_undo_command.specs.Descriptions.{HasNone}
use Rattle.binlog_undo_command.specs.Written.{BeginsBy, BeginsLogs, WritesOne, WritesLogs}
use Rattle.binlog_undo_command.specs.declared.scanning.ScannedLog.{ScannedLog}
use Rattle.binlog_undo_index.specs.Parts.{parts_of}
use Rattle.binlog_undo_index.specs.declared.index.UndoIndex.{UndoIndex}
use Rattle.binlog_undo_index.specs.declared.places.TransactionPlace.{TransactionPlace}
use Rattle.binlog_undo_log.specs.declared.one_transaction.Commit.{Commit}
use Rattle.binlog_undo_log.specs.declared.output.UndoOutput.{UndoOutput}

pub drop_at : (logs : List ScannedLog) (i : ℕ) (none : ScannedLog) → i < length logs → drop i logs ≡ get_or logs i none ∷ drop (suc i) logs
drop_at [] i none within = absurd (omega (arith, within))
drop_at (log ∷ logs) zero none within = refl
drop_at (log ∷ logs) (suc i) none within = drop_at logs i none (omega (arith, within))

module _ {F W : Type 0} (has_frames : List ℕ → F → Type 0) (is_at : F → ℕ → List ℕ → Type 0) (contents : W → Option (List ℕ)) where
  -- None of the logs is undone so far.
  pub written_none : (logs : List ScannedLog) (output : UndoOutput W) → WritesLogs has_frames is_at contents (drop (length logs) logs) output output
  written_none [] output = refl
  written_none (log ∷ logs) output = written_none logs output

  -- One more log is undone, the one in front of those so far.
  pub written_next : (logs : List ScannedLog) (n i : ℕ) (none log : ScannedLog) (old mid new : UndoOutput W) → suc i ≡ n → i < length logs → log ≡ get_or logs i none
      → WritesLogs has_frames is_at contents (drop n logs) old mid → WritesOne has_frames is_at contents log mid new → WritesLogs has_frames is_at contents (drop i logs) old new
  written_next logs n i none log old mid new next within is behind one =
      subst (λ (left : List ScannedLog). WritesLogs has_frames is_at contents left old new) (sym (drop_at logs i none within))
      (mid, subst (λ (k : ℕ). WritesLogs has_frames is_at contents (drop k logs) old mid) (sym next) behind, subst (λ (found : ScannedLog). WritesOne has_frames is_at contents found mid new) is one)

-- ---- the last log in which something is undone

-- Nothing is undone in a log whose places of transactions are none.
pub none_in : (log : ScannedLog) (index : UndoIndex) (transactions : List TransactionPlace) (is_empty : Bool) → index ≡ log.scan.index → transactions ≡ (parts_of index).transactions
    → is_empty ≡ (length transactions == 0) → is_empty ≡ true → HasNone log
none_in log index transactions is_empty at are is so =
    sym (are ∙ ap (λ (i : UndoIndex). (parts_of i).transactions) at) ∙ nil_from_length transactions (eqb-true (length transactions) 0 (sym is ∙ so))

-- Nothing is undone behind the last log.
pub none_behind : (logs : List ScannedLog) → AllByRecursion HasNone (drop (length logs) logs)
none_behind [] = tt
none_behind (log ∷ logs) = none_behind logs

-- Nor in one log more, the one in front of those.
pub none_next : (logs : List ScannedLog) (n i : ℕ) (none : ScannedLog) → suc i ≡ n → i < length logs → HasNone (get_or logs i none) → AllByRecursion HasNone (drop n logs) → AllByRecursion HasNone (drop i logs)
none_next logs n i none next within is behind =
    subst (λ (left : List ScannedLog). AllByRecursion HasNone left) (sym (drop_at logs i none within)) (is, subst (λ (k : ℕ). AllByRecursion HasNone (drop k logs)) (sym next) behind)

module _ {F W : Type 0} (has_frames : List ℕ → F → Type 0) (is_at : F → ℕ → List ℕ → Type 0) (contents : W → Option (List ℕ)) where
  -- The transaction begins by the log in front of those.
  pub begun_by : (logs : List ScannedLog) (n i : ℕ) (none log : ScannedLog) (commit : Commit) (old new : UndoOutput W) → suc i ≡ n → i < length logs → log ≡ get_or logs i none
      → AllByRecursion HasNone (drop n logs) → BeginsBy has_frames is_at contents commit log old new → BeginsLogs has_frames is_at contents (Some commit) logs old new
  begun_by logs n i none log commit old new next within is behind begins = record {
    front = take i logs;
    log = get_or logs i none;
    rest = drop (suc i) logs;
    split = sym (take-append-drop i logs) ∙ ap (λ (left : List ScannedLog). take i logs ++ left) (drop_at logs i none within);
    none = subst (λ (k : ℕ). AllByRecursion HasNone (drop k logs)) (sym next) behind;
    begins = subst (λ (found : ScannedLog). BeginsBy has_frames is_at contents commit found old new) is begins;
  }
