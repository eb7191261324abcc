-- A visit that is reported.
use Rattle.std.proofs.Common.{◌≡◌, ℕ, Bool, true, false, Result, Ok, Err, OnOk, refl, subst, arith}
use Rattle.std.specs.Prelude.{◌==◌, ◌||◌, not}
use Rattle.std.proofs.lemmas.Bool.Decides.{nat_tests}
use Rattle.binlog_wire.specs.declared.error.Error.{Error}
use Rattle.binlog_events.specs.Events.{EventView}
use Rattle.binlog_file.specs.TableMapsInForce.{TableMaps}
use Rattle.binlog_visits.specs.Visits.{VisitRelation}
use Rattle.binlog_inputs.specs.Reports.{ReportedView, ended_file, has_error, Reports}

-- A visit of the visitor within.
pub reported : {A E T : Type 0} (result : Result A E) (visits : VisitRelation T) (refused : T → ℕ) (seen old : ReportedView T) (maps : TableMaps) (index : ℕ) (item : Result EventView Error) (new : ReportedView T)
    → seen ≡ old → new.has_errors ≡ has_error seen.has_errors item (refused seen.visitor) (refused new.visitor) → new.is_cut ≡ seen.is_cut → OnOk result (visits seen.visitor maps index item new.visitor)
    → OnOk result (Reports visits refused old maps index item new)
reported {T = T} (Ok x) visits refused seen old maps index item new same notes cut does =
    subst (λ (v : ReportedView T). Reports visits refused v maps index item new) same (record { does = does; notes = notes; cut = cut })
reported (Err e) visits refused seen old maps index item new same notes cut does = does

-- One more event is refused.
pub noted : (was : Bool) (after before : ℕ) → ¬ (after ≡ before) → true ≡ (was || not (after == before))
noted true after before other = refl
noted false after before other = grind (arith, nat_tests)

-- None is refused.
pub unnoted : (was : Bool) (after before : ℕ) → after ≡ before → was ≡ (was || not (after == before))
unnoted true after before same = refl
unnoted false after before same = grind (arith, nat_tests)

-- ---- the end of a file

-- No bytes lie behind the last item.
pub whole : {T : Type 0} (tail_len : ℕ) (old : ReportedView T) → tail_len ≡ 0 → old ≡ ended_file tail_len old
whole tail_len old none = rw none refl

-- Some do.
pub cut : {T : Type 0} (tail_len : ℕ) (old : ReportedView T) → ¬ (tail_len ≡ 0) → record old { has_errors = true; is_cut = true } ≡ ended_file tail_len old
cut tail_len old some =
    let test : (tail_len == 0) ≡ false = grind (arith, nat_tests) in
    rw test refl
