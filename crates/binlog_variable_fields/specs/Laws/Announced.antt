-- Optional parts that an earlier part announces: reading and writing keep to their encodings.
use Rattle.std.proofs.Common.{◌≡◌, ℕ, ◌+◌, ◌-◌, ◌^◌, ◌<◌, Bool, true, false, cond, ltb, arith, eqb, Ok, refl, ap, ◌++◌, suc, Option, None, Some, List, ◌∷◌, sym, subst, ◌∙◌, [], ◌≤◌, length}
use Rattle.std.proofs.lemmas.Bool.{lt-ltb, le-ltb, eqb-true, eq-eqb}
use Rattle.std.proofs.lemmas.List.{append-nil}
use Rattle.byteorder.specs.Endian.{little_bytes}
use Rattle.binlog_wire.specs.Formats.{Place, last, Format}
use Rattle.binlog_wire.specs.Reading.{Read, read_as}
use Rattle.binlog_wire.specs.Fields.{IsBytes}
use Rattle.binlog_wire.specs.Laws.{KeepsTo, bind_ok}
use Rattle.binlog_variable_fields.specs.Announced.{announced_fields, announced_of, announced_code, FitsAnnounced, announced_written, IsBehind, behind_at, behind_normal, FitsBehind, behind_written}
use Rattle.binlog_variable_fields.specs.Chosen.{IsChoice}

-- ---- a top bit that announces an original value

fits_by : (place : Place) (k half i o : ℕ) → half + half ≡ 256 ^ k → i < half → o < 256 ^ k → (t : Bool)
    → (announced_fields {place = place} k half).Fits (cond t i (i + half), o)
fits_by place k half i o e small fits true = (omega (arith, e), rw (lt-ltb i half small) tt)
fits_by place k half i o e small fits false =
    let above : ltb (i + half) half ≡ false = le-ltb _ _ (omega arith) in
    (omega (arith, e), rw above fits)

shows_by : (place : Place) (k half i o : ℕ) → i < half → (t : Bool) → eqb i o ≡ t
    → announced_of half ((announced_fields {place = place} k half).normal (cond t i (i + half), o)) ≡ Ok (i, o)
shows_by place k half i o small true h =
    let same : i ≡ o = eqb-true _ _ h in
    rw (lt-ltb i half small) (ap (λ (n : ℕ). Ok (i, n)) same)
shows_by place k half i o small false h =
    let above : ltb (i + half) half ≡ false = le-ltb _ _ (omega arith) in
    let back : i + half - half ≡ i = omega arith in
    rw (above, back) refl

pub announced_choice : {place : Place} (k half : ℕ) → half + half ≡ 256 ^ k
    → IsChoice (announced_fields {place = place} k half) (announced_of half) (announced_code half) (λ v. v) (FitsAnnounced k half)
announced_choice {place} k half e = record {
  fits = λ v fits. fits_by place k half v.0 v.1 e fits.0 fits.1 (eqb v.0 v.1);
  shows = λ v fits. shows_by place k half v.0 v.1 fits.0 _ refl;
  settled = λ s a r v h d. refl;
  twice = λ v. refl;
  again = λ v fits. refl;
}

written_by : (place : Place) (k half i o : ℕ) → i < half → (t : Bool)
    → (announced_fields {place = place} k half).written (cond t i (i + half), o) ≡ cond t (little_bytes k i) (little_bytes k (i + half) ++ little_bytes k o)
written_by place k half i o small true = rw (lt-ltb i half small) (append-nil (little_bytes k i))
written_by place k half i o small false = let above : ltb (i + half) half ≡ false = le-ltb _ _ (omega arith) in rw above refl

pub announced_same : (place : Place) (k half : ℕ) (v : ℕ × ℕ) → FitsAnnounced k half v
    → (announced_fields {place = place} k half).written (announced_code half v) ≡ announced_written k half v
announced_same place k half v fits = written_by place k half v.0 v.1 fits.0 (eqb v.0 v.1)

-- ---- a part after a mark byte

behind_sound_by : {V : Type 0} {F : List ℕ → V → List ℕ → Type 0} {f : List ℕ → Read V} (mark : ℕ) → KeepsTo F f → (b : ℕ) (s : List ℕ) (x : Option V × List ℕ) → IsBytes (b ∷ s)
    → (t : Bool) → eqb b mark ≡ t → cond t (read_as (λ v. Some v) (f s)) (Ok (None, b ∷ s)) ≡ Ok x → IsBehind mark F (b ∷ s) x.0 x.1 × IsBytes x.1
behind_sound_by {V} {F} {f} mark k b s x fits true h e =
    let a = bind_ok (f s) (λ v. Ok (Some v.0, v.1)) x e in
    let p = k.sound s a.0 (λ i. fits (suc i)) a.1 in
    let same : ◌≡◌ {A = Option V × List ℕ} (Some a.0.0, a.0.1) x = cc in
    subst (λ (y : Option V × List ℕ). IsBehind mark F (b ∷ s) y.0 y.1 × IsBytes y.1) same ((s, ap (λ (c : ℕ). c ∷ s) (eqb-true _ _ h), p.0), p.1)
behind_sound_by {V} {F} {f} mark k b s x fits false h e =
    let same : ◌≡◌ {A = Option V × List ℕ} (None, b ∷ s) x = cc in
    let other : (m : List ℕ) → b ∷ s ≡ mark ∷ m → ⊥ = λ m q. let head : b ≡ mark = cc in let yes : eqb b mark ≡ true = eq-eqb _ _ head in let no : true ≡ false = sym yes ∙ h in absurd cc in
    subst (λ (y : Option V × List ℕ). IsBehind mark F (b ∷ s) y.0 y.1 × IsBytes y.1) same ((other, refl), fits)

behind_sound : {V : Type 0} {F : List ℕ → V → List ℕ → Type 0} {f : List ℕ → Read V} (mark : ℕ) → KeepsTo F f → (s : List ℕ) (x : Option V × List ℕ) → IsBytes s
    → behind_at mark f s ≡ Ok x → IsBehind mark F s x.0 x.1 × IsBytes x.1
behind_sound {V} {F} {f} mark k [] x fits e =
    let same : ◌≡◌ {A = Option V × List ℕ} (None, []) x = cc in
    subst (λ (y : Option V × List ℕ). IsBehind mark F [] y.0 y.1 × IsBytes y.1) same ((λ m q. absurd cc, refl), fits)
behind_sound mark k (b ∷ s) x fits e = behind_sound_by mark k b s x fits _ refl e

none_by : {V : Type 0} (f : List ℕ → Read V) (mark b : ℕ) (s : List ℕ) → ((m : List ℕ) → b ∷ s ≡ mark ∷ m → ⊥) → (t : Bool) → eqb b mark ≡ t
    → cond t (read_as (λ v. Some v) (f s)) (Ok (None, b ∷ s)) ≡ Ok (None, b ∷ s)
none_by f mark b s other true h = absurd (other s (ap (λ (c : ℕ). c ∷ s) (eqb-true _ _ h)))
none_by f mark b s other false h = refl

none_at : {V : Type 0} (f : List ℕ → Read V) (mark : ℕ) (s : List ℕ) → ((m : List ℕ) → s ≡ mark ∷ m → ⊥) → behind_at mark f s ≡ Ok (None, s)
none_at f mark [] other = refl
none_at f mark (b ∷ s) other = none_by f mark b s other _ refl

behind_complete : {V : Type 0} {F : List ℕ → V → List ℕ → Type 0} {f : List ℕ → Read V} (mark : ℕ) → KeepsTo F f → (s : List ℕ) (o : Option V) (r : List ℕ)
    → IsBehind mark F s o r → behind_at mark f s ≡ Ok (o, r)
behind_complete mark k s (Some v) r h = rw (h.1, eq-eqb mark mark refl, k.complete h.0 v r h.2) refl
behind_complete {f = f} mark k s None r h = rw h.1 (none_at f mark s h.0)

pub keeps_behind : {V : Type 0} {F : List ℕ → V → List ℕ → Type 0} {f : List ℕ → Read V} (mark : ℕ) → KeepsTo F f → KeepsTo (IsBehind mark F) (behind_at mark f)
keeps_behind mark k = record { sound = behind_sound mark k; complete = behind_complete mark k }

pub behind_writes : {V : Type 0} (mark : ℕ) (f : Format last V) (o : Option V) (r : List ℕ) → FitsBehind f.Fits o → r ≡ []
    → IsBehind mark f.spells (behind_written mark f.written o ++ r) (behind_normal f.normal o) r
behind_writes mark f (Some v) r fits follows = (f.written v ++ r, refl, f.writes v r fits follows)
behind_writes mark f None r fits follows = (λ m q. absurd (let no : [] ≡ mark ∷ m = sym follows ∙ q in cc), refl)

pub behind_settled : {V : Type 0} (mark : ℕ) (f : Format last V) (s : List ℕ) (o : Option V) (r : List ℕ) → IsBehind mark f.spells s o r → behind_normal f.normal o ≡ o
behind_settled {V} mark f s (Some v) r h = ap (λ (w : V). Some w) (f.settled h.0 v r h.2)
behind_settled mark f s None r h = refl

pub behind_twice : {V : Type 0} (f : Format last V) (o : Option V) → behind_normal f.normal (behind_normal f.normal o) ≡ behind_normal f.normal o
behind_twice {V} f (Some v) = ap (λ (w : V). Some w) (f.twice v)
behind_twice f None = refl

pub behind_again : {V : Type 0} (mark : ℕ) (f : Format last V) (o : Option V) → FitsBehind f.Fits o → behind_written mark f.written (behind_normal f.normal o) ≡ behind_written mark f.written o
behind_again mark f (Some v) fits = ap (λ (s : List ℕ). mark ∷ s) (f.again v fits)
behind_again mark f None fits = refl

pub behind_long : {V : Type 0} (mark : ℕ) (f : Format last V) (s : List ℕ) (o : Option V) (r : List ℕ) → IsBehind mark f.spells s o r → 0 + length r ≤ length s
behind_long mark f s (Some v) r h = rw h.1 (omega (arith, f.long h.0 v r h.2))
behind_long mark f s None r h = rw h.1 (omega arith)
