-- What undoes logs is written from the last one to the first.
use Rattle.std.proofs.Common.{◌≡◌, ◌≢◌, ℕ, suc, zero, ◌<◌, arith, Bool, true, false, List, [], ◌∷◌, ◌++◌, length, take, drop, get_or, Option, refl, sym, ◌∙◌, ap, subst}
use Rattle.std.specs.Prelude.{◌==◌}
use Rattle.std.proofs.lemmas.List.{nil_from_length}
use Rattle.binlog_undo_index.specs.Parts.{parts_of}
use Rattle.binlog_undo_index.specs.declared.index.UndoIndex.{UndoIndex}
use Rattle.binlog_undo_index.specs.declared.places.TransactionPlace.{TransactionPlace}
use Rattle.binlog_undo_items.specs.Written.{AreAllKept, IsLastUndone, WritesLogs, WritesOne}
use Rattle.binlog_undo_items.specs.declared.scanning.ScannedLog.{ScannedLog}
use Rattle.binlog_undo_log.specs.declared.output.UndoOutput.{UndoOutput}

drop_at : (logs : List ScannedLog) (i : ℕ) (none : ScannedLog) → i < length logs → drop i logs ≡ get_or logs i none ∷ drop (suc i) logs
drop_at [] i none within = absurd (omega (arith, within))
drop_at (log ∷ logs) zero none within = refl
drop_at (log ∷ logs) (suc i) none within = drop_at logs i none (omega (arith, within))

module _ {W : Type 0} (contents : W → Option (List ℕ)) where
  -- None of the logs is undone so far.
  pub written_none : (logs : List ScannedLog) (output : UndoOutput W) → WritesLogs contents (drop (length logs) logs) output output
  written_none [] output = refl
  written_none (log ∷ logs) output = written_none logs output

  -- One more log is undone, the one in front of those so far.
  pub written_next : (logs : List ScannedLog) (n i : ℕ) (none log : ScannedLog) (old mid new : UndoOutput W) → suc i ≡ n → i < length logs → log ≡ get_or logs i none
      → WritesLogs contents (drop n logs) old mid → WritesOne contents log mid new → WritesLogs contents (drop i logs) old new
  written_next logs n i none log old mid new next within is behind one =
      subst (λ (left : List ScannedLog). WritesLogs contents left old new) (sym (drop_at logs i none within))
      (mid, subst (λ (k : ℕ). WritesLogs contents (drop k logs) old mid) (sym next) behind, subst (λ (found : ScannedLog). WritesOne contents found mid new) is one)

-- ---- the last log of which something is undone

none_in : (transactions : List TransactionPlace) (none : Bool) → none ≡ (length transactions == 0) → none ≡ true → transactions ≡ []
none_in transactions none is so = nil_from_length transactions (grind (arith, is, so))

some_in : (transactions : List TransactionPlace) (none : Bool) → none ≡ (length transactions == 0) → none ≡ false → transactions ≢ []
some_in [] none is isnt = λ _. absurd cc
some_in (transaction ∷ transactions) none is isnt = λ e. absurd cc

parts_at : (logs : List ScannedLog) (i : ℕ) (none : ScannedLog) → i < length logs → logs ≡ take i logs ++ get_or logs i none ∷ drop (suc i) logs
parts_at [] i none within = absurd (omega (arith, within))
parts_at (log ∷ logs) zero none within = refl
parts_at (log ∷ logs) (suc i) none within = ap (λ (s : List ScannedLog). log ∷ s) (parts_at logs i none (omega (arith, within)))

same_at : (logs : List ScannedLog) (i : ℕ) (none other : ScannedLog) → i < length logs → get_or logs i none ≡ get_or logs i other
same_at [] i none other within = absurd (omega (arith, within))
same_at (log ∷ logs) zero none other within = refl
same_at (log ∷ logs) (suc i) none other within = same_at logs i none other (omega (arith, within))

module _ (logs : List ScannedLog) (n i : ℕ) (none : ScannedLog) (next : suc i ≡ n) (within : i < length logs) (transactions : List TransactionPlace) (index : UndoIndex)
    (of : transactions ≡ (parts_of index).transactions) (at : index ≡ (get_or logs i none).scan.index) (kept : AreAllKept (drop n logs)) where
  own : transactions ≡ (parts_of (get_or logs i none).scan.index).transactions
  own = of ∙ ap (λ (x : UndoIndex). (parts_of x).transactions) at

  behind : AreAllKept (drop (suc i) logs)
  behind = subst (λ (k : ℕ). AreAllKept (drop k logs)) (sym next) kept

  -- Nothing of one more log is undone.
  pub kept_next : (empty : Bool) → empty ≡ (length transactions == 0) → empty ≡ true → AreAllKept (drop i logs)
  kept_next empty e so = subst AreAllKept (sym (drop_at logs i none within)) (sym own ∙ none_in transactions empty e so, behind)

  -- Something of this log is undone.
  pub last_found : (empty : Bool) (log other : ScannedLog) → empty ≡ (length transactions == 0) → empty ≡ false → log ≡ get_or logs i other → IsLastUndone logs log
  last_found empty log other e isnt is =
      subst (IsLastUndone logs) (same_at logs i none other within ∙ sym is) (record {
        front = take i logs;
        behind = drop (suc i) logs;
        are = parts_at logs i none within;
        kept = behind;
        undone = λ none_left. some_in transactions empty e isnt (own ∙ none_left);
      })
