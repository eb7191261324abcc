-- Files that are taken one after another.
use Rattle.std.specs.Prelude.{◌==◌, ◌&&◌}
use Rattle.std.proofs.Common.{◌≡◌, inl, inr, ℕ, zero, suc, ◌+◌, ◌^◌, ◌<◌, ◌≤◌, Bool, true, false, List, [], ◌∷◌, length, drop, get_or, Option, Some, None, IfSome, Result, refl, sym, ap, subst, ◌∙◌, arith}
use Rattle.std.proofs.lemmas.Bool.{cases_lt}
use Rattle.std.proofs.lemmas.Bool.Decides.{nat_tests}
use Rattle.std.proofs.lemmas.List.{drop_all}
use Rattle.binlog_wire.specs.declared.error.Error.{Error}
use Rattle.binlog_visits.specs.Visits.{VisitRelation, RefusalRelation}
use Rattle.binlog_payload_filters.specs.Filtering.{FiltersPayloads, RefusesTaken}
use Rattle.binlog_payload_filters.specs.declared.filtered.PayloadFiltered.{PayloadFiltered}
use Rattle.binlog_cli.specs.Outputs.{written}
use Rattle.binlog_cli.specs.declared.exit_status.Outcome.{Outcome}
use Rattle.binlog_cli.specs.declared.exit_status.Status.{Status}
use Rattle.binlog_inputs.specs.Reports.{ReportedView, ended_file, Reports}
use Rattle.binlog_inputs.specs.Reading.{VisitsInput, tail_behind, status_behind, is_last_followed, is_last, GoesOn, InOrder, ReadsInput}

and_true : (b : Bool) → (b && true) ≡ b
and_true true = refl
and_true false = refl

pub and_false : (b : Bool) → (b && false) ≡ false
and_false true = refl
and_false false = refl

none_behind : {N : Type 0} (is_followed : Bool) (names : List N) (count : ℕ) → length names ≤ count → is_last_followed is_followed (drop count names) ≡ is_followed
none_behind is_followed names count all = ap (is_last_followed is_followed) (drop_all count names all)

some_behind : {N : Type 0} (is_followed : Bool) (names : List N) (count : ℕ) → count < length names → is_last_followed is_followed (drop count names) ≡ false
some_behind is_followed [] count within = absurd (omega arith)
some_behind is_followed (name ∷ names) zero within = refl
some_behind is_followed (name ∷ names) (suc count) within = some_behind is_followed names count (omega arith)

-- The last one of the files is followed if any is.
pub last_is_followed : {N : Type 0} (is_followed : Bool) (names : List N) (count : ℕ) → count ≤ length names → (is_followed && (count == length names)) ≡ is_last_followed is_followed (drop count names)
last_is_followed is_followed names count within =
    elim (cases_lt count (length names)) [
      | inl more ↦
          let test : (count == length names) ≡ false = grind (arith, nat_tests) in
          ap (λ (b : Bool). is_followed && b) test ∙ and_false is_followed ∙ sym (some_behind is_followed names count more)
      | inr all ↦
          let test : (count == length names) ≡ true = grind (arith, nat_tests) in
          ap (λ (b : Bool). is_followed && b) test ∙ and_true is_followed ∙ sym (none_behind is_followed names count all)
    ]

-- It is the last one.
pub last_is_last : {N : Type 0} (names : List N) (count : ℕ) → count ≤ length names → (count == length names) ≡ is_last (drop count names)
last_is_last names count within = last_is_followed true names count within

module _ {V N : Type 0} (step : (index : ℕ) (behind : List N) (name : N) (old : V) (answer : Result Status Error) (new : V) → Type 0) where
  -- The file at a place is taken, and then those behind it.
  taken_next : (index : ℕ) (names : List N) (place : ℕ) (d : N) → place < length names → (status : Status) (old : V) (answer : Result Status Error) (mid : V) (result : Outcome) (new : V)
      → step index (drop (suc place) names) (get_or names place d) old answer mid
      → GoesOn (λ worst next. InOrder step (index + 1) (drop (suc place) names) worst next result new) status answer result mid new → InOrder step index (drop place names) status old result new
  taken_next index [] place d within status old answer mid result new one goes = absurd (omega arith)
  taken_next index (name ∷ names) zero d within status old answer mid result new one goes = (answer, mid, one, goes)
  taken_next index (name ∷ names) (suc place) d within status old answer mid result new one goes = taken_next index names place d (omega arith) status old answer mid result new one goes

  pub taken_at : (names : List N) (place : ℕ) (d : N) → place < length names → (status : Status) (old : V) (answer : Result Status Error) (mid : V) (result : Outcome) (new : V)
      → step place (drop (place + 1) names) (get_or names place d) old answer mid
      → GoesOn (λ worst next. InOrder step (place + 1) (drop (place + 1) names) worst next result new) status answer result mid new → InOrder step place (drop place names) status old result new
  taken_at names place d within status old answer mid result new one goes =
      let next : place + 1 ≡ suc place = omega arith in
      taken_next place names place d within status old answer mid result new
      (subst (λ (count : ℕ). step place (drop count names) (get_or names place d) old answer mid) next one)
      (subst (λ (count : ℕ). GoesOn (λ worst others. InOrder step (place + 1) (drop count names) worst others result new) status answer result mid new) next goes)

  -- No file is left.
  pub none_left : (names : List N) (place : ℕ) → length names ≤ place → (status : Status) (new : V) → InOrder step place (drop place names) status new (written status) new
  none_left names place all status new = subst (λ (left : List N). InOrder step place left status new (written status) new) (sym (drop_all place names all)) (refl, refl)

-- What is shown of an input whose bytes may be known.
pub reads_input : {T : Type 0} (visits : VisitRelation T) (refuses : RefusalRelation T) (refused : T → ℕ)
    (is_verified : Bool) (known : Option (List ℕ)) (old mid new : ReportedView (PayloadFiltered T)) (visited : Result (Option ℕ) Error) (answer : Result Status Error)
    → IfSome known (λ bytes. length bytes < 2 ^ 64 → VisitsInput (Reports (FiltersPayloads visits) (λ filtered. refused filtered.filtered.visitor))
    (λ (before : ReportedView (PayloadFiltered T)) maps index item error after. RefusesTaken refuses before.visitor maps index item error after.visitor) is_verified bytes old visited mid)
    → new ≡ ended_file (tail_behind visited) mid → answer ≡ status_behind new.has_errors visited
    → IfSome known (λ bytes. length bytes < 2 ^ 64 → ReadsInput visits refuses refused is_verified bytes old answer new)
reads_input visits refuses refused is_verified None old mid new visited answer shown ends status = tt
reads_input visits refuses refused is_verified (Some bytes) old mid new visited answer shown ends status = λ small. record {
  visited = visited;
  behind = mid;
  does = shown small;
  ends = ends;
  status = status;
}
