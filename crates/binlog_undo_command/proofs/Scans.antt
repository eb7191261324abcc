-- The first pass over several logs, one after the other.
use Rattle.std.proofs.Common.{◌≡◌, ◌≢◌, ◌⊎◌, inl, inr, ℕ, ◌+◌, ◌<◌, ◌^◌, arith, Bor, List, [], ◌∷◌, ◌++◌, length, take, map, get_or, Option, Some, None, IfSome, Result, Ok, Err, OnOk, refl, sym, subst, ap, ◌∙◌}
use Rattle.std.specs.Prelude.{IfErr}
use Rattle.std.proofs.lemmas.List.{length-map, length-take-le, map-append, take_more}
use Rattle.clap.specs.declared.parser.matches.Found.{Found}
use Rattle.binlog_cli.specs.Statuses.{worse}
use Rattle.binlog_cli.specs.declared.exit_status.Status.{Status}
use Rattle.binlog_cli.specs.declared.exit_status.Status.TheVariants.{Fine, NotOpened, Damaged, Failed, Usage}
use Rattle.binlog_undo_command.specs.LogPlaces.{place_at}
use Rattle.binlog_undo_command.specs.Scanned.{AreUndoneFrom, HasRefusedFrom, IsRefused, IsUndone, ScansSkipped, ScansRefused}
use Rattle.binlog_undo_command.specs.declared.log_place.LogPlace.{LogPlace}
use Rattle.binlog_undo_command.specs.declared.scanning.ScannedLog.{ScannedLog}
use Rattle.binlog_undo_log.specs.Files.{ScansWhole}
use Rattle.binlog_undo_log.specs.declared.scan.UndoScan.{UndoScan}

-- The worse one of two statuses is one of them.
which : (a b : Status) → (worse a b ≡ a) ⊎ (worse a b ≡ b)
which Fine b = inr refl
which NotOpened Fine = inl refl
which NotOpened NotOpened = inr refl
which NotOpened Damaged = inr refl
which NotOpened Failed = inr refl
which NotOpened Usage = inr refl
which Damaged Fine = inl refl
which Damaged NotOpened = inl refl
which Damaged Damaged = inr refl
which Damaged Failed = inr refl
which Damaged Usage = inr refl
which Failed Fine = inl refl
which Failed NotOpened = inl refl
which Failed Damaged = inl refl
which Failed Failed = inl refl
which Failed Usage = inr refl
which Usage b = inl refl

pub which_is : (a b status : Status) → worse a b ≡ status → (a ≡ status) ⊎ (b ≡ status)
which_is a b status is = elim (which a b) [
  | inl first ↦ inl (sym first ∙ is)
  | inr second ↦ inr (sym second ∙ is)
]

-- Behind a log that isn't fine the worst status isn't.
pub not_fine : (a b : Status) → b ≢ Fine → worse a b ≡ Fine → ⊥
not_fine a b isnt is = elim (which_is a b Fine is) [
  | inl first ↦ isnt (subst (λ (status : Status). worse status b ≡ Fine) first is)
  | inr second ↦ isnt second
]

pub failed_isnt_fine : (status : Status) → status ≡ Failed → status ≡ Fine → ⊥
failed_isnt_fine status failed fine = cc

pub failed_isnt_damaged : (status : Status) → status ≡ Failed → status ≡ Damaged → ⊥
failed_isnt_damaged status failed damaged = cc

pub failed_isnt_usage : (status : Status) → status ≡ Failed → status ≡ Usage → ⊥
failed_isnt_usage status failed usage = cc

-- The bytes that are left of a log that was opened are all of it.
pub known_scans : (known remaining : Option (List ℕ)) (start scan : UndoScan) → IfSome known (λ bytes. remaining ≡ Some bytes)
    → IfSome remaining (λ bytes. length bytes < 2 ^ 64 → ScansWhole bytes start scan) → IfSome known (λ bytes. length bytes < 2 ^ 64 → ScansWhole bytes start scan)
known_scans None remaining start scan is given = tt
known_scans (Some bytes) remaining start scan is given = rw is at given

pub skipped_known : (answer : Result (Unit {0}) Status) (known remaining : Option (List ℕ)) (old new : UndoScan) → IfSome known (λ bytes. remaining ≡ Some bytes)
    → OnOk answer (ScansSkipped remaining old new) → OnOk answer (ScansSkipped known old new)
skipped_known (Ok done) known remaining old new is h = record { scans = known_scans known remaining old new is h.scans; skipped = h.skipped }
skipped_known (Err status) known remaining old new is h = tt

pub refused_known : (answer : Result (Unit {0}) Status) (known remaining : Option (List ℕ)) (old new : UndoScan) → IfSome known (λ bytes. remaining ≡ Some bytes)
    → IfErr answer (λ status. status ≡ Damaged → ScansRefused remaining old new) → IfErr answer (λ status. status ≡ Damaged → ScansRefused known old new)
refused_known (Ok done) known remaining old new is h = tt
refused_known (Err status) known remaining old new is h =
    λ damaged. record { scans = known_scans known remaining old new is (h damaged).scans; refused = (h damaged).refused }

abbrev texts_of : List (Bor (List ℕ)) → List (List ℕ)
texts_of names = map (λ (name : Bor (List ℕ)). name.now) names

texts_more : (names : List (Bor (List ℕ))) (i : ℕ) (none : Bor (List ℕ)) → i < length names → texts_of (take (i + 1) names) ≡ texts_of (take i names) ++ (get_or names i none).now ∷ []
texts_more names i none within = ap texts_of (take_more names i none within) ∙ map-append (λ (name : Bor (List ℕ)). name.now) (take i names) (get_or names i none ∷ [])

-- The default of a read.
abbrev no_name : Bor (List ℕ)
no_name = record { ref_ptr = (0, 0); now = [] }

module _ (bytes : List ℕ → Option (List ℕ)) (found : Found) where
  undone_more : (count index at : ℕ) (names : List (List ℕ)) (logs : List ScannedLog) (name : List ℕ) (log : ScannedLog) → AreUndoneFrom bytes found count index names logs → log.name.now ≡ name
      → at ≡ index + length names → IsUndone found (place_at count at) (bytes name) log.scan → AreUndoneFrom bytes found count index (names ++ name ∷ []) (logs ++ log ∷ [])
  undone_more count index at [] [] name log are named behind is =
      let here : at ≡ index = omega (arith, behind) in
      (named, subst (λ (i : ℕ). IsUndone found (place_at count i) (bytes name) log.scan) here is, tt)
  undone_more count index at [] (other ∷ logs) name log are named behind is = absurd are
  undone_more count index at (other ∷ names) [] name log are named behind is = absurd are
  undone_more count index at (other ∷ names) (first ∷ logs) name log are named behind is =
      (are.0, are.1, undone_more count (index + 1) at names logs name log are.2 named (omega (arith, behind)) is)

  texts_length : (names : List (Bor (List ℕ))) (i : ℕ) → i < length names → i ≡ 0 + length (texts_of (take i names))
  texts_length names i within =
      let long : length (take i names) ≡ i = length-take-le i names (omega (arith, within)) in
      omega (arith, length-map (take i names) (λ (name : Bor (List ℕ)). name.now), long)

  -- One more log is scanned, in which nothing is refused.
  pub undone_next : (names : List (Bor (List ℕ))) (i : ℕ) (none : Bor (List ℕ)) (logs new : List ScannedLog) (scan : UndoScan) (place : LogPlace) → i < length names
      → place ≡ place_at (length names) i → AreUndoneFrom bytes found (length names) 0 (texts_of (take i names)) logs → IsUndone found place (bytes (get_or names i none).now) scan
      → new ≡ logs ++ record { name = get_or names i none; scan = scan } ∷ [] → AreUndoneFrom bytes found (length names) 0 (texts_of (take (i + 1) names)) new
  undone_next names i none logs new scan place within placed are is more =
      rw more (subst (λ (texts : List (List ℕ)). AreUndoneFrom bytes found (length names) 0 texts (logs ++ record { name = get_or names i none; scan = scan } ∷ [])) (sym (texts_more names i none within))
      (undone_more (length names) 0 i (texts_of (take i names)) logs (get_or names i none).now (record { name = get_or names i none; scan = scan }) are refl (texts_length names i within)
      (subst (λ (p : LogPlace). IsUndone found p (bytes (get_or names i none).now) scan) placed is)))

  refused_more : (count index : ℕ) (names : List (List ℕ)) (name : List ℕ) → HasRefusedFrom bytes found count index names → HasRefusedFrom bytes found count index (names ++ name ∷ [])
  refused_more count index [] name has = absurd has
  refused_more count index (other ∷ names) name (inl is) = inl is
  refused_more count index (other ∷ names) name (inr has) = inr (refused_more count (index + 1) names name has)

  refused_last : (count index at : ℕ) (names : List (List ℕ)) (name : List ℕ) → at ≡ index + length names → IsRefused found (place_at count at) (bytes name)
      → HasRefusedFrom bytes found count index (names ++ name ∷ [])
  refused_last count index at [] name behind is =
      let here : at ≡ index = omega (arith, behind) in
      inl (subst (λ (i : ℕ). IsRefused found (place_at count i) (bytes name)) here is)
  refused_last count index at (other ∷ names) name behind is = inr (refused_last count (index + 1) at names name (omega (arith, behind)) is)

  -- Something is refused in the logs so far, and one more is scanned.
  pub refused_next : (names : List (Bor (List ℕ))) (i : ℕ) → i < length names → HasRefusedFrom bytes found (length names) 0 (texts_of (take i names))
      → HasRefusedFrom bytes found (length names) 0 (texts_of (take (i + 1) names))
  refused_next names i within has =
      subst (λ (texts : List (List ℕ)). HasRefusedFrom bytes found (length names) 0 texts) (sym (texts_more names i no_name within))
      (refused_more (length names) 0 (texts_of (take i names)) (get_or names i no_name).now has)

  -- Something is refused in one more log.
  pub refused_here : (names : List (Bor (List ℕ))) (i : ℕ) (none : Bor (List ℕ)) (place : LogPlace) → i < length names → place ≡ place_at (length names) i
      → IsRefused found place (bytes (get_or names i none).now) → HasRefusedFrom bytes found (length names) 0 (texts_of (take (i + 1) names))
  refused_here names i none place within placed is =
      subst (λ (texts : List (List ℕ)). HasRefusedFrom bytes found (length names) 0 texts) (sym (texts_more names i none within))
      (refused_last (length names) 0 i (texts_of (take i names)) (get_or names i none).now (texts_length names i within)
      (subst (λ (p : LogPlace). IsRefused found p (bytes (get_or names i none).now)) placed is))
