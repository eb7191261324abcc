-- Fields in sequence, in one unit, after reserved bytes, and mapped to another value.
use Rattle.std.proofs.Common.{◌≡◌, ℕ, ◌≤◌, ltb, List, length, Ok, refl, sym, ap, subst}
use Rattle.std.proofs.lemmas.Bool.{le-ltb}
use Rattle.binlog_wire.specs.Reading.{ends, Read, ◌>>=◌, read_as}
use Rattle.binlog_wire.specs.Fields.{IsBytes, block_at, Then, then_at, unit_at, Skipped, skipped_at, IsSeenAs, IsMade}
use Rattle.binlog_wire.specs.Laws.{KeepsTo, bind_ok, guard_ok}
use Rattle.binlog_wire.specs.Laws.Texts.{keeps_block}

pub keeps_then : {A B : Type 0} {F : List ℕ → A → List ℕ → Type 0} {G : A → List ℕ → B → List ℕ → Type 0} {f : List ℕ → Read A} {g : A → List ℕ → Read B}
    → KeepsTo F f → ((a : A) → KeepsTo (G a) (g a)) → KeepsTo (Then F G) (then_at f g)
keeps_then {A} {B} {F} {G} {f} {g} kf kg = record {
  sound = λ s x fits e.
      let a = bind_ok (f s) (λ a. g a.0 a.1 >>= λ b. Ok ((a.0, b.0), b.1)) x e in
      let b = bind_ok (g a.0.0 a.0.1) (λ b. Ok ((a.0.0, b.0), b.1)) x a.2 in
      let p = kf.sound s a.0 fits a.1 in
      let q = (kg a.0.0).sound a.0.1 b.0 p.1 b.1 in
      let same : ◌≡◌ {A = (A × B) × List ℕ} ((a.0.0, b.0.0), b.0.1) x = cc in
      subst (λ (y : (A × B) × List ℕ). Then F G s y.0 y.1 × IsBytes y.1) same ((a.0.1, p.0, q.0), q.1);
  complete = λ s v r h.
      rw (kf.complete s v.0 h.0 h.1, (kg v.0).complete h.0 v.1 r h.2) refl;
}

-- Reading a unit of k bytes is sound and complete, where every encoding of its fields has at least k bytes.
pub keeps_unit : {A : Type 0} {F : List ℕ → A → List ℕ → Type 0} {f : List ℕ → Read A} (k : ℕ)
    → ((s : List ℕ) (v : A) (r : List ℕ) → F s v r → k ≤ length s)
    → KeepsTo F f → KeepsTo F (unit_at k f)
keeps_unit {A} {F} {f} k long kf = record {
  sound = λ s x fits e. kf.sound s x fits (guard_ok (ltb (length s) k) ends (f s) x e).1;
  complete = λ s v r h. rw (le-ltb _ _ (long s v r h)) (kf.complete s v r h);
}

pub keeps_skipped : {V : Type 0} {F : List ℕ → V → List ℕ → Type 0} {f : List ℕ → Read V} (k : ℕ) → KeepsTo F f → KeepsTo (Skipped k F) (skipped_at k f)
keeps_skipped {V} {F} {f} k kf = record {
  sound = λ s x fits e.
      let a = bind_ok (block_at k s) (λ x. f x.1) x e in
      let p = (keeps_block k).sound s a.0 fits a.1 in
      let q = kf.sound a.0.1 x p.1 a.2 in
      ((a.0.0, a.0.1, p.0, q.0), q.1);
  complete = λ s v r h. rw ((keeps_block k).complete s h.0 h.1 h.2) (kf.complete h.1 v r h.3);
}

-- The value mapped by `to`, where `from` inverts `to` on every value that bytes encode.
pub keeps_seen_as_spelled : {A B : Type 0} {F : List ℕ → A → List ℕ → Type 0} {f : List ℕ → Read A} (to : A → B) (from : B → A)
    → ((s : List ℕ) (a : A) (r : List ℕ) → F s a r → from (to a) ≡ a) → ((b : B) → to (from b) ≡ b)
    → KeepsTo F f → KeepsTo (IsSeenAs from F) (λ s. read_as to (f s))
keeps_seen_as_spelled {A} {B} {F} {f} to from back forth k = record {
  sound = λ s x fits e.
      let a = bind_ok (f s) (λ x. Ok (to x.0, x.1)) x e in
      let p = k.sound s a.0 fits a.1 in
      let same : ◌≡◌ {A = B × List ℕ} (to a.0.0, a.0.1) x = cc in
      subst (λ (y : B × List ℕ). F s (from y.0) y.1 × IsBytes y.1) same
      (subst (λ (z : A). F s z a.0.1) (sym (back s a.0.0 a.0.1 p.0)) p.0, p.1);
  complete = λ s b r h. rw (k.complete s (from b) r h) (ap (λ (z : B). Ok (z, r)) (forth b));
}

-- The value mapped by `to`, where `from` always inverts it.
pub keeps_seen_as : {A B : Type 0} {F : List ℕ → A → List ℕ → Type 0} {f : List ℕ → Read A} (to : A → B) (from : B → A)
    → ((a : A) → from (to a) ≡ a) → ((b : B) → to (from b) ≡ b)
    → KeepsTo F f → KeepsTo (IsSeenAs from F) (λ s. read_as to (f s))
keeps_seen_as to from back forth k = keeps_seen_as_spelled to from (λ s a r h. back a) forth k

-- The value mapped by `to`, with no inverse.
pub keeps_made : {A B : Type 0} {F : List ℕ → A → List ℕ → Type 0} {f : List ℕ → Read A} (to : A → B) → KeepsTo F f → KeepsTo (IsMade to F) (λ s. read_as to (f s))
keeps_made {A} {B} {F} {f} to k = record {
  sound = λ s x fits e.
      let a = bind_ok (f s) (λ x. Ok (to x.0, x.1)) x e in
      let p = k.sound s a.0 fits a.1 in
      let same : ◌≡◌ {A = B × List ℕ} (to a.0.0, a.0.1) x = cc in
      subst (λ (y : B × List ℕ). IsMade to F s y.0 y.1 × IsBytes y.1) same ((a.0.0, refl, p.0), p.1);
  complete = λ s b r h. rw (k.complete s h.0 r h.2, h.1) refl;
}
