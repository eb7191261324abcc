-- Repetitions of a format: reading and writing keep to their encodings.
use Rattle.std.proofs.Common.{◌≡◌, ℕ, zero, suc, List, [], ◌∷◌, Ok, refl, ap, subst, arith, ◌+◌, ◌++◌, sym, append_assoc, ◌*◌, ◌≤◌, length}
use Rattle.binlog_wire.specs.Reading.{Read, ◌>>=◌}
use Rattle.binlog_wire.specs.Fields.{IsBytes}
use Rattle.binlog_wire.specs.Laws.{KeepsTo, bind_ok}
use Rattle.binlog_wire.specs.Formats.{anywhere, Format}
use Rattle.binlog_variable_fields.specs.Repeated.{IsTimes, times_at, each_normal, each_written, EachFits, IsEach}

times_sound : {V : Type 0} {F : List ℕ → V → List ℕ → Type 0} {f : List ℕ → Read V} → KeepsTo F f → (n : ℕ) (s : List ℕ) (x : List V × List ℕ) → IsBytes s
    → times_at n f s ≡ Ok x → IsTimes n F s x.0 x.1 × IsBytes x.1
times_sound {V} {F} {f} kf zero s x fits e =
    let same : ◌≡◌ {A = List V × List ℕ} ([], s) x = cc in
    subst (λ (y : List V × List ℕ). IsTimes zero F s y.0 y.1 × IsBytes y.1) same ((refl, refl), fits)
times_sound {V} {F} {f} kf (suc n) s x fits e =
    let a = bind_ok (f s) (λ a. times_at n f a.1 >>= λ b. Ok (a.0 ∷ b.0, b.1)) x e in
    let b = bind_ok (times_at n f a.0.1) (λ b. Ok (a.0.0 ∷ b.0, b.1)) x a.2 in
    let p = kf.sound s a.0 fits a.1 in
    let q = times_sound kf n a.0.1 b.0 p.1 b.1 in
    let same : ◌≡◌ {A = List V × List ℕ} (a.0.0 ∷ b.0.0, b.0.1) x = cc in
    subst (λ (y : List V × List ℕ). IsTimes (suc n) F s y.0 y.1 × IsBytes y.1) same ((ap suc q.0.0, (a.0.1, p.0, q.0.1)), q.1)

times_complete : {V : Type 0} {F : List ℕ → V → List ℕ → Type 0} {f : List ℕ → Read V} → KeepsTo F f → (n : ℕ) (s : List ℕ) (vs : List V) (r : List ℕ)
    → IsTimes n F s vs r → times_at n f s ≡ Ok (vs, r)
times_complete kf zero s [] r h = rw h.1 refl
times_complete kf zero s (v ∷ vs) r h = absurd (omega (arith, h.0))
times_complete kf (suc n) s [] r h = absurd (omega (arith, h.0))
times_complete kf (suc n) s (v ∷ vs) r h =
    rw (kf.complete s v h.1.0 h.1.1, times_complete kf n h.1.0 vs r (omega (arith, h.0), h.1.2)) refl

pub keeps_times : {V : Type 0} {F : List ℕ → V → List ℕ → Type 0} {f : List ℕ → Read V} → KeepsTo F f → (n : ℕ) → KeepsTo (IsTimes n F) (times_at n f)
keeps_times kf n = record { sound = times_sound kf n; complete = times_complete kf n }

pub each_writes : {V : Type 0} (f : Format anywhere V) (vs : List V) (r : List ℕ) → EachFits f.Fits vs
    → IsEach f.spells (each_written f.written vs ++ r) (each_normal f.normal vs) r
each_writes f [] r fits = refl
each_writes {V} f (v ∷ vs) r fits =
    let rest : List ℕ = each_written f.written vs ++ r in (
      rest,
      subst (λ (s : List ℕ). f.spells s (f.normal v) rest) (sym (append_assoc (f.written v) (each_written f.written vs) r)) (f.writes v rest fits.0 tt),
      each_writes f vs r fits.1,
    )

pub each_settled : {V : Type 0} (f : Format anywhere V) (s : List ℕ) (vs : List V) (r : List ℕ) → IsEach f.spells s vs r → each_normal f.normal vs ≡ vs
each_settled f s [] r h = refl
each_settled f s (v ∷ vs) r h = rw (f.settled s v h.0 h.1, each_settled f h.0 vs r h.2) refl

pub each_twice : {V : Type 0} (f : Format anywhere V) (vs : List V) → each_normal f.normal (each_normal f.normal vs) ≡ each_normal f.normal vs
each_twice f [] = refl
each_twice f (v ∷ vs) = rw (f.twice v, each_twice f vs) refl

pub each_again : {V : Type 0} (f : Format anywhere V) (vs : List V) → EachFits f.Fits vs → each_written f.written (each_normal f.normal vs) ≡ each_written f.written vs
each_again f [] fits = refl
each_again f (v ∷ vs) fits = rw (f.again v fits.0, each_again f vs fits.1) refl

pub each_long : {V : Type 0} (f : Format anywhere V) (s : List ℕ) (vs : List V) (r : List ℕ) → IsEach f.spells s vs r → length vs * f.least + length r ≤ length s
each_long f s [] r h = rw h (omega arith)
each_long f s (v ∷ vs) r h = omega (arith, f.long s v h.0 h.1, each_long f h.0 vs r h.2)

pub length-each_normal : {V : Type 0} (f : V → V) (vs : List V) → length (each_normal f vs) ≡ length vs
length-each_normal f [] = refl
length-each_normal f (v ∷ vs) = ap suc (length-each_normal f vs)
