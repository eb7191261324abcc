-- The first pass over logs, one after the other.
use Rattle.std.proofs.Common.{◌≡◌, ◌⊎◌, inl, inr, ℕ, zero, suc, ◌+◌, ◌<◌, arith, Bool, true, false, Bor, List, [], ◌∷◌, ◌++◌, length, map, take, get_or, Result, Ok, Err, refl, sym, ◌∙◌, ap, subst}
use Rattle.std.specs.Prelude.{◌≤◌, ◌≢◌, ◌==◌}
use Rattle.std.proofs.lemmas.List.{length-append, map-append, take_more}
use Rattle.binlog_events.specs.FileHeader.{file_header}
use Rattle.binlog_undo_items.specs.Scanned.{AreScannedFrom, HasNoLog, IsNoLog, IsScannedAs}
use Rattle.binlog_undo_items.specs.declared.failure.UndoFailure.{UndoFailure}
use Rattle.binlog_undo_items.specs.declared.request.UndoRequest.{UndoRequest}
use Rattle.binlog_undo_items.specs.declared.scanning.ScannedLog.{ScannedLog}
use Rattle.binlog_undo_log.specs.Files.{ScansFile}
use Rattle.binlog_undo_log.specs.declared.scan.UndoScan.{UndoScan}
use Rattle.binlog_wire.specs.declared.error.Error.TheVariants.{EndOfInput, InvalidFileHeader, Memory}

-- ---- a log that is none

pub short_log : (log : List ℕ) (old new : UndoScan) → ScansFile log old (Err EndOfInput) new → length log < 4
short_log log old new (inl (inl file)) = elim file.visited [
  | inl before ↦ let e : false ≡ true = before.outside in absurd cc
  | inr until ↦ let e : EndOfInput ≡ Memory = until.refused in absurd cc
]
short_log log old new (inl (inr none)) = none.0
short_log log old new (inr memory) = absurd cc

pub other_log : (log : List ℕ) (old new : UndoScan) → ScansFile log old (Err InvalidFileHeader) new → (4 ≤ length log) × (take 4 log ≢ file_header)
other_log log old new (inl (inl file)) = elim file.visited [
  | inl before ↦ let e : false ≡ true = before.outside in absurd cc
  | inr until ↦ let e : InvalidFileHeader ≡ Memory = until.refused in absurd cc
]
other_log log old new (inl (inr none)) = none.0
other_log log old new (inr memory) = absurd cc

-- ---- logs

scanned_more : (request : UndoRequest) (count index at : ℕ) (logs : List ScannedLog) (log : ScannedLog) → AreScannedFrom request count index logs → at ≡ index + length logs
    → IsScannedAs request (at == 0) (at + 1 == count) log → AreScannedFrom request count index (logs ++ log ∷ [])
scanned_more request count index at [] log are behind is =
    let here : at ≡ index = omega (arith, behind) in
    (subst (λ (i : ℕ). IsScannedAs request (i == 0) (i + 1 == count) log) here is, tt)
scanned_more request count index at (first ∷ logs) log are behind is =
    (are.0, scanned_more request count (index + 1) at logs log are.1 (omega (arith, behind)) is)

-- One more log is scanned.
pub scanned_next : (request : UndoRequest) (count at : ℕ) (logs new : List ScannedLog) (log : ScannedLog) → AreScannedFrom request count 0 logs → at ≡ length logs
    → IsScannedAs request (at == 0) (at + 1 == count) log → new ≡ logs ++ log ∷ [] → AreScannedFrom request count 0 new
scanned_next request count at logs new log are behind is more =
    subst (λ (all : List ScannedLog). AreScannedFrom request count 0 all) (sym more) (scanned_more request count 0 at logs log are (omega (arith, behind)) is)

abbrev bytes_of : ScannedLog → List ℕ
bytes_of log = log.bytes.now

abbrev shown : Bor (List ℕ) → List ℕ
shown log = log.now

-- Its bytes are those of the next log.
pub bytes_next : (logs : List (Bor (List ℕ))) (i : ℕ) (none : Bor (List ℕ)) (scanned new : List ScannedLog) (log : ScannedLog) → i < length logs → map bytes_of scanned ≡ map shown (take i logs)
    → log.bytes.now ≡ (get_or logs i none).now → new ≡ scanned ++ log ∷ [] → map bytes_of new ≡ map shown (take (i + 1) logs)
bytes_next logs i none scanned new log within same is more =
    ap (λ (all : List ScannedLog). map bytes_of all) more ∙ map-append bytes_of scanned (log ∷ []) ∙ ap (λ (front : List (List ℕ)). front ++ log.bytes.now ∷ []) same
    ∙ ap (λ (bytes : List ℕ). map shown (take i logs) ++ bytes ∷ []) is ∙ sym (map-append shown (take i logs) (get_or logs i none ∷ []))
    ∙ ap (λ (all : List (Bor (List ℕ))). map shown all) (sym (take_more logs i none within))

-- One of the logs is none.
pub none_at : (logs : List (Bor (List ℕ))) (i : ℕ) (none : Bor (List ℕ)) (failure : UndoFailure) → i < length logs → IsNoLog (get_or logs i none).now failure → HasNoLog (map shown logs) failure
none_at [] i none failure within is = absurd (omega (arith, within))
none_at (log ∷ logs) zero none failure within is = inl is
none_at (log ∷ logs) (suc i) none failure within is = inr (none_at logs i none failure (omega (arith, within)) is)

pub counted_next : (scanned new : List ScannedLog) (log : ScannedLog) (n : ℕ) → length scanned ≡ n → new ≡ scanned ++ log ∷ [] → length new ≡ n + 1
counted_next scanned new log n counted more = omega (arith, ap (λ (all : List ScannedLog). length all) more, length-append scanned (log ∷ []), counted)
