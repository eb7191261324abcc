-- Refusals that are filled in.
use Rattle.std.proofs.Common.{◌≡◌, ◌⊎◌, inl, inr, ℕ, zero, suc, ◌+◌, ◌<◌, ◌≤◌, min, arith, List, [], ◌∷◌, ◌++◌, length, map, take, drop, get_or, refl, sym, ◌∙◌, ap, subst, append_assoc, append-nil}
use Rattle.std.proofs.lemmas.Bool.{cases_order}
use Rattle.std.proofs.lemmas.List.{drop_all, length-take-le, take_all, take_more}
use Rattle.binlog_undo_index.specs.Parts.{parts_of}
use Rattle.binlog_undo_index.specs.declared.index.UndoIndex.{UndoIndex}
use Rattle.binlog_undo_index.specs.declared.reason.Refused.{Refused}
use Rattle.binlog_undo_items.specs.Refusals.{AreAllSkipped, fill, refusal_of, refusals_from, refusals_of}
use Rattle.binlog_undo_items.specs.declared.scanning.ScannedLog.{ScannedLog}
use Rattle.binlog_undo_log.specs.Files.{AreSkipped}
use Rattle.binlog_undo_items.specs.declared.refusals.BinlogRefusal.{BinlogRefusal}

-- There is room for all.
filled_all : (all old : List BinlogRefusal) (count : ℕ) → count ≡ length all → length all ≤ length old → take count all ++ drop count old ≡ fill all old
filled_all all old count here fits =
    ap (λ (s : List BinlogRefusal). s ++ drop count old) (take_all count all (omega (arith, here)) ∙ sym (take_all (length old) all fits)) ∙ ap (λ (n : ℕ). take (length old) all ++ drop n old) here

pub filled : (all old : List BinlogRefusal) (count : ℕ) → count ≡ min (length all) (length old) → take count all ++ drop count old ≡ fill all old
filled all old count is = elim (cases_order (length all) (length old)) [
  | inl same ↦ filled_all all old count (omega (arith, is, same)) (omega (arith, same))
  | inr (inl fits) ↦ filled_all all old count (omega (arith, is, fits)) (omega (arith, fits))
  | inr (inr more) ↦
      let here : count ≡ length old = omega (arith, is, more) in
      ap (λ (n : ℕ). take n all ++ drop n old) here
      ∙ ap (λ (s : List BinlogRefusal). take (length old) all ++ s) (drop_all (length old) old (omega arith) ∙ sym (drop_all (length all) old (omega (arith, more))))
]

-- ---- all logs

refusals_snoc : (first at : ℕ) (logs : List ScannedLog) (log : ScannedLog) → at ≡ first + length logs
    → refusals_from first (logs ++ log ∷ []) ≡ refusals_from first logs ++ map (refusal_of at) (parts_of log.scan.index).refusals
refusals_snoc first at [] log behind =
    let here : first ≡ at = omega (arith, behind) in
    append-nil (map (refusal_of first) (parts_of log.scan.index).refusals) ∙ ap (λ (n : ℕ). map (refusal_of n) (parts_of log.scan.index).refusals) here
refusals_snoc first at (other ∷ logs) log behind =
    let own : List BinlogRefusal = map (refusal_of first) (parts_of other.scan.index).refusals in
    ap (λ (s : List BinlogRefusal). own ++ s) (refusals_snoc (first + 1) at logs log (omega (arith, behind)))
    ∙ sym (append_assoc own (refusals_from (first + 1) logs) (map (refusal_of at) (parts_of log.scan.index).refusals))

-- Those of one more log.
pub refusals_next : (logs : List ScannedLog) (i number : ℕ) (none log : ScannedLog) (all new : List BinlogRefusal) (found : List Refused) (index : UndoIndex) → i < length logs → log ≡ get_or logs i none
    → number ≡ i → all ≡ refusals_of (take i logs) → found ≡ (parts_of index).refusals → index ≡ log.scan.index → new ≡ all ++ map (refusal_of number) found → new ≡ refusals_of (take (i + 1) logs)
refusals_next logs i number none log all new found index within is here before of at more =
    let front : List BinlogRefusal = refusals_of (take i logs) in
    let last : refusals_of (take i logs ++ log ∷ []) ≡ front ++ map (refusal_of i) (parts_of log.scan.index).refusals =
    refusals_snoc 0 i (take i logs) log (omega (arith, length-take-le i logs (omega (arith, within)))) in
    more ∙ ap (λ (s : List BinlogRefusal). s ++ map (refusal_of number) found) before
    ∙ ap (λ (s : List Refused). front ++ map (refusal_of number) s) (of ∙ ap (λ (x : UndoIndex). (parts_of x).refusals) at)
    ∙ ap (λ (n : ℕ). front ++ map (refusal_of n) (parts_of log.scan.index).refusals) here ∙ sym last
    ∙ ap (λ (s : ScannedLog). refusals_of (take i logs ++ s ∷ [])) is ∙ ap refusals_of (sym (take_more logs i none within))

-- ---- skipped

skipped_snoc : (logs : List ScannedLog) (log : ScannedLog) → AreAllSkipped logs → AreSkipped (parts_of log.scan.index).refusals → AreAllSkipped (logs ++ log ∷ [])
skipped_snoc [] log all is = (is, tt)
skipped_snoc (other ∷ logs) log all is = (all.0, skipped_snoc logs log all.1 is)

pub skipped_next : (logs : List ScannedLog) (i : ℕ) (none log : ScannedLog) (found : List Refused) (index : UndoIndex) → i < length logs → log ≡ get_or logs i none → found ≡ (parts_of index).refusals
    → index ≡ log.scan.index → AreAllSkipped (take i logs) → AreSkipped found → AreAllSkipped (take (i + 1) logs)
skipped_next logs i none log found index within is of at all skipped =
    let own : AreSkipped (parts_of log.scan.index).refusals = subst AreSkipped (of ∙ ap (λ (x : UndoIndex). (parts_of x).refusals) at) skipped in
    subst AreAllSkipped (ap (λ (s : ScannedLog). take i logs ++ s ∷ []) is ∙ sym (take_more logs i none within)) (skipped_snoc (take i logs) log all own)

skipped_in : (logs : List ScannedLog) (i : ℕ) (none : ScannedLog) → i < length logs → AreAllSkipped logs → AreSkipped (parts_of (get_or logs i none).scan.index).refusals
skipped_in [] i none within all = absurd (omega (arith, within))
skipped_in (log ∷ logs) zero none within all = all.0
skipped_in (log ∷ logs) (suc i) none within all = skipped_in logs i none (omega (arith, within)) all.1

pub skipped_at : (logs : List ScannedLog) (i : ℕ) (none log : ScannedLog) (found : List Refused) (index : UndoIndex) → i < length logs → log ≡ get_or logs i none → found ≡ (parts_of index).refusals
    → index ≡ log.scan.index → AreAllSkipped logs → AreSkipped found
skipped_at logs i none log found index within is of at all =
    subst AreSkipped (sym (of ∙ ap (λ (x : UndoIndex). (parts_of x).refusals) at ∙ ap (λ (x : ScannedLog). (parts_of x.scan.index).refusals) is)) (skipped_in logs i none within all)
