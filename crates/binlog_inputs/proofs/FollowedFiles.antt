-- Files that are read in order, and one behind them that is followed.
use Rattle.std.specs.Prelude.{◌==◌, not}
use Rattle.std.proofs.Common.{◌≡◌, inr, ℕ, ◌+◌, Bool, true, false, List, [], ◌∷◌, ◌++◌, Option, Result, Ok, Err, refl, sym, ap, subst, ◌∙◌}
use Rattle.binlog_wire.specs.declared.error.Error.{Error}
use Rattle.binlog_visits.specs.Visits.{VisitRelation, RefusalRelation}
use Rattle.binlog_filters.specs.Taking.{HasNoCondition}
use Rattle.binlog_payload_filters.specs.declared.filtered.PayloadFiltered.{PayloadFiltered}
use Rattle.binlog_cli.specs.Outputs.{written, unwritten}
use Rattle.binlog_inputs.specs.Positions.{in_file}
use Rattle.binlog_inputs.specs.declared.positions.Positions.{Positions}
use Rattle.binlog_inputs.specs.Reports.{ReportedView, taking}
use Rattle.binlog_cli.specs.declared.exit_status.Outcome.{Outcome}
use Rattle.binlog_cli.specs.declared.exit_status.Status.{Status}
use Rattle.binlog_inputs.specs.Reading.{unless_followed, is_last, is_last_followed, GoesOn, ReadsFile, ReadsFrom, ShowsFile}

none_followed : {N : Type 0} (names : List N) → is_last_followed false names ≡ false
none_followed [] = refl
none_followed (name ∷ names) = refl

some_more : {N : Type 0} (names : List N) (last : N) → is_last_followed true (names ++ last ∷ []) ≡ false
some_more [] last = refl
some_more (name ∷ names) last = refl

-- The stop position is none of the files before the last one.
unstopped : {N : Type 0} (asked : Positions) (is_first : Bool) (names : List N) (last : N)
    → in_file (in_file asked true false) is_first (is_last names) ≡ in_file asked is_first (is_last (names ++ last ∷ []))
unstopped asked true [] last = refl
unstopped asked false [] last = refl
unstopped asked true (name ∷ names) last = refl
unstopped asked false (name ∷ names) last = refl

is_neither : (read : Outcome) (status : Status) → read ≡ unwritten status → not read.is_written ≡ false → true ≡ false
is_neither read status is all = ap (λ (o : Outcome). not o.is_written) (sym is) ∙ all

goes_written : {V : Type 0} (A B : Status → V → Type 0) (status : Status) (answer : Result Status Error) (read result : Outcome) (middle mid new : V) → not read.is_written ≡ false
    → ((worst : Status) (next : V) → A worst next → B worst next) → GoesOn A status answer read middle mid → GoesOn B status answer result middle new
goes_written A B status (Ok found) read result middle mid new all step goes = step _ _ goes
goes_written A B status (Err error) read result middle mid new all step goes = let no = is_neither read status goes.0 all in absurd (cc)

goes_unwritten : {V : Type 0} (A B : Status → V → Type 0) (status : Status) (answer : Result Status Error) (read : Outcome) (middle mid : V)
    → ((worst : Status) (next : V) → A worst next → B worst next) → GoesOn A status answer read middle mid → GoesOn B status answer read middle mid
goes_unwritten A B status (Ok found) read middle mid step goes = step _ _ goes
goes_unwritten A B status (Err error) read middle mid step goes = goes

module _ {T N : Type 0} (visits : VisitRelation T) (refuses : RefusalRelation T) (refused : T → ℕ) (is_verified : Bool) (bytes : N → Option (List ℕ)) (asked : Positions) (last : N) where
  -- One file more is behind a file that isn't the last one.
  one_file : (index : ℕ) (name : N) (names : List N) (old : ReportedView (PayloadFiltered T)) (answer : Result Status Error) (mid : ReportedView (PayloadFiltered T))
      → ReadsFile visits refuses refused is_verified (unless_followed (is_last_followed false names) (bytes name)) (taking (in_file (in_file asked true false) (index == 0) (is_last names)) old) answer mid
      → ReadsFile visits refuses refused is_verified (unless_followed (is_last_followed true (names ++ last ∷ [])) (bytes name)) (taking (in_file asked (index == 0) (is_last (names ++ last ∷ []))) old) answer mid
  one_file index name names old answer mid one =
      subst (λ (p : Positions). ReadsFile visits refuses refused is_verified (unless_followed (is_last_followed true (names ++ last ∷ [])) (bytes name)) (taking p old) answer mid)
      (unstopped asked (index == 0) names last)
      (subst (λ (b : Bool). ReadsFile visits refuses refused is_verified (unless_followed b (bytes name)) (taking (in_file (in_file asked true false) (index == 0) (is_last names)) old) answer mid)
      (none_followed names ∙ sym (some_more names last)) one)

  -- All was written of the files before the last one, of which nothing is known.
  pub then_followed : (index : ℕ) (before : List N) (status : Status) (old mid new : ReportedView (PayloadFiltered T)) (read result : Outcome) (answer : Result Status Error)
      → ReadsFrom visits refuses refused is_verified false bytes (in_file asked true false) index before status old read mid → not read.is_written ≡ false
      → GoesOn (λ worst next. (result ≡ written worst) × (new ≡ next)) read.status answer result new new
      → ReadsFrom visits refuses refused is_verified true bytes asked index (before ++ last ∷ []) status old result new
  then_followed index [] status old mid new read result answer reads all goes =
      (answer, new, inr tt, subst (λ (s : Status). GoesOn (λ worst next. (result ≡ written worst) × (new ≡ next)) s answer result new new) (ap (λ (o : Outcome). o.status) reads.0) goes)
  then_followed index (name ∷ names) status old mid new read result answer reads all goes = (
    reads.0,
    reads.1,
    one_file index name names old reads.0 reads.1 reads.2,
    goes_written _ _ status reads.0 read result reads.1 mid new all (λ worst next others. then_followed (index + 1) names worst next mid new read result answer others all goes) reads.3,
  )

  -- The output failed in a file before the last one.
  pub never_followed : (index : ℕ) (before : List N) (status : Status) (old mid : ReportedView (PayloadFiltered T)) (read : Outcome)
      → ReadsFrom visits refuses refused is_verified false bytes (in_file asked true false) index before status old read mid → not read.is_written ≡ true
      → ReadsFrom visits refuses refused is_verified true bytes asked index (before ++ last ∷ []) status old read mid
  never_followed index [] status old mid read reads none = let no : false ≡ true = ap (λ (o : Outcome). not o.is_written) (sym reads.0) ∙ none in absurd (cc)
  never_followed index (name ∷ names) status old mid read reads none = (
    reads.0,
    reads.1,
    one_file index name names old reads.0 reads.1 reads.2,
    goes_unwritten _ _ status reads.0 read reads.1 mid (λ worst next others. never_followed (index + 1) names worst next mid read others none) reads.3,
  )

-- Of a visitor that is shown a file that is followed nothing is known.
pub shows_followed : {T : Type 0} (visits : VisitRelation T) (refuses : RefusalRelation T) (refused : T → ℕ) (is_verified is_followed : Bool) (known : Option (List ℕ))
    (old : T) (answer : Result Status Error) (new : T) (start behind : PayloadFiltered T) → is_followed ≡ true → HasNoCondition start.filtered.filter → start.filtered.visitor ≡ old → new ≡ behind.filtered.visitor
    → ShowsFile visits refuses refused is_verified (unless_followed is_followed known) old answer new
shows_followed visits refuses refused is_verified true known old answer new start behind follows all shown ends = record {
  start = start;
  all = all;
  shown = shown;
  behind = record { visitor = behind; has_errors = false; is_cut = false };
  reads = inr tt;
  ends = ends;
}
shows_followed visits refuses refused is_verified false known old answer new start behind follows all shown ends = absurd (cc)
