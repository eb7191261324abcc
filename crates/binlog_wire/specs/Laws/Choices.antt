-- Optional fields: absent always, by the byte before them, or by the number of bytes left.
use Rattle.std.proofs.Common.{◌≡◌, ℕ, zero, suc, Bool, true, false, cond, ltb, List, [], ◌∷◌, length, Ok, refl, subst, inl, inr}
use Rattle.std.proofs.lemmas.Bool.{ltb-false, ltb-true, le-ltb, lt-ltb}
use Rattle.binlog_wire.specs.Reading.{Read}
use Rattle.binlog_wire.specs.Fields.{IsBytes, IsSilent, silent_at, IsEither, either_at, IsByteIfLeft, byte_if_left_at, IsPresentFrom, present_from_at}
use Rattle.binlog_wire.specs.Laws.{KeepsTo}

pub keeps_silent : {V : Type 0} (x : V) → KeepsTo (IsSilent x) (silent_at x)
keeps_silent {V} x = record {
  sound = λ s y fits e.
      let same : ◌≡◌ {A = V × List ℕ} (x, s) y = cc in
      subst (λ (z : V × List ℕ). IsSilent x s z.0 z.1 × IsBytes z.1) same ((refl, refl), fits);
  complete = λ s v r h. rw (h.0, h.1) refl;
}

-- ---- a byte selects

either_sound : {V : Type 0} {F : List ℕ → V → List ℕ → Type 0} {G : List ℕ → V → List ℕ → Type 0} {f : List ℕ → Read V} {g : List ℕ → Read V}
    → KeepsTo F f → KeepsTo G g → (s : List ℕ) (x : V × List ℕ) → IsBytes s → either_at f g s ≡ Ok x → IsEither F G s x.0 x.1 × IsBytes x.1
either_sound kf kg [] x fits e = absurd cc
either_sound kf kg (zero ∷ s) x fits e =
    let p = kf.sound s x (λ i. fits (suc i)) e in (inl (s, refl, p.0), p.1)
either_sound kf kg (suc b ∷ s) x fits e =
    let p = kg.sound s x (λ i. fits (suc i)) e in (inr (b, s, refl, fits 0, p.0), p.1)

either_complete : {V : Type 0} {F : List ℕ → V → List ℕ → Type 0} {G : List ℕ → V → List ℕ → Type 0} {f : List ℕ → Read V} {g : List ℕ → Read V}
    → KeepsTo F f → KeepsTo G g → (s : List ℕ) (v : V) (r : List ℕ) → IsEither F G s v r → either_at f g s ≡ Ok (v, r)
either_complete kf kg s v r (inl (m, e, h)) = rw e (kf.complete m v r h)
either_complete kf kg s v r (inr (b, m, e, lt, h)) = rw e (kg.complete m v r h)

pub keeps_either : {V : Type 0} {F : List ℕ → V → List ℕ → Type 0} {G : List ℕ → V → List ℕ → Type 0} {f : List ℕ → Read V} {g : List ℕ → Read V}
    → KeepsTo F f → KeepsTo G g → KeepsTo (IsEither F G) (either_at f g)
keeps_either kf kg = record { sound = either_sound kf kg; complete = either_complete kf kg }

-- ---- a byte where one is left

byte_if_left_sound : (s : List ℕ) (x : ℕ × List ℕ) → IsBytes s → byte_if_left_at s ≡ Ok x → IsByteIfLeft s x.0 x.1 × IsBytes x.1
byte_if_left_sound [] x fits e =
    let same : ◌≡◌ {A = ℕ × List ℕ} (0, []) x = cc in
    subst (λ (z : ℕ × List ℕ). IsByteIfLeft [] z.0 z.1 × IsBytes z.1) same (inl (refl, refl, refl), fits)
byte_if_left_sound (b ∷ s) x fits e =
    let same : ◌≡◌ {A = ℕ × List ℕ} (b, s) x = cc in
    subst (λ (z : ℕ × List ℕ). IsByteIfLeft (b ∷ s) z.0 z.1 × IsBytes z.1) same (inr (refl, fits 0), λ i. fits (suc i))

byte_if_left_complete : (s : List ℕ) (b : ℕ) (r : List ℕ) → IsByteIfLeft s b r → byte_if_left_at s ≡ Ok (b, r)
byte_if_left_complete s b r (inl (e, f, g)) = rw (e, f, g) refl
byte_if_left_complete s b r (inr (e, lt)) = rw e refl

pub keeps_byte_if_left : KeepsTo IsByteIfLeft byte_if_left_at
keeps_byte_if_left = record { sound = byte_if_left_sound; complete = byte_if_left_complete }

-- ---- the number of bytes left decides

present_from_sound : {V : Type 0} {F : List ℕ → V → List ℕ → Type 0} {f : List ℕ → Read V} (n : ℕ) (x : V) → KeepsTo F f
    → (s : List ℕ) (y : V × List ℕ) → IsBytes s → (b : Bool) → ltb (length s) n ≡ b → cond b (silent_at x s) (f s) ≡ Ok y
    → IsPresentFrom n x F s y.0 y.1 × IsBytes y.1
present_from_sound n x kf s y fits true short e =
    let p = (keeps_silent x).sound s y fits e in (inl (ltb-true _ _ short, p.0), p.1)
present_from_sound n x kf s y fits false long e =
    let p = kf.sound s y fits e in (inr (ltb-false _ _ long, p.0), p.1)

present_from_complete : {V : Type 0} {F : List ℕ → V → List ℕ → Type 0} {f : List ℕ → Read V} (n : ℕ) (x : V) → KeepsTo F f
    → (s : List ℕ) (v : V) (r : List ℕ) → IsPresentFrom n x F s v r → present_from_at n x f s ≡ Ok (v, r)
present_from_complete n x kf s v r (inl (short, h)) = rw (lt-ltb _ _ short) ((keeps_silent x).complete s v r h)
present_from_complete n x kf s v r (inr (long, h)) = rw (le-ltb _ _ long) (kf.complete s v r h)

pub keeps_present_from : {V : Type 0} {F : List ℕ → V → List ℕ → Type 0} {f : List ℕ → Read V} (n : ℕ) (x : V)
    → KeepsTo F f → KeepsTo (IsPresentFrom n x F) (present_from_at n x f)
keeps_present_from n x kf = record {
  sound = λ s y fits e. present_from_sound n x kf s y fits _ refl e;
  complete = present_from_complete n x kf;
}
