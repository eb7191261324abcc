-- Values that are decoded from fields: reading keeps to their encodings.
use Rattle.std.proofs.Common.{◌≡◌, ℕ, List, Result, Ok, Err, ap, refl, subst, Bool, true, false, cond}
use Rattle.binlog_wire.specs.declared.error.Invalid.{Invalid}
use Rattle.binlog_wire.specs.Fields.{meant, IsBytes, read_decoded}
use Rattle.binlog_wire.specs.Reading.{Read}
use Rattle.binlog_wire.specs.Laws.{KeepsTo, bind_ok}
use Rattle.binlog_wire.specs.Formats.{Place, Format}
use Rattle.binlog_variable_fields.specs.Chosen.{IsChosen, IsChoice, passes}

pub meant_ok : {E : Type 0} (d : Result E Invalid) (rest : List ℕ) (x : E × List ℕ) → meant d rest ≡ Ok x → (d ≡ Ok x.0) × (rest ≡ x.1)
meant_ok {E} (Ok e) rest x h = let same : ◌≡◌ {A = E × List ℕ} (e, rest) x = cc in (ap (λ (y : E × List ℕ). Ok y.0) same, ap (λ (y : E × List ℕ). y.1) same)
meant_ok {E} (Err why) rest x h = absurd cc

pub keeps_chosen : {A B : Type 0} {F : List ℕ → A → List ℕ → Type 0} {f : List ℕ → Read A} (decode : A → Result B Invalid) → KeepsTo F f
    → KeepsTo (IsChosen decode F) (λ s. read_decoded decode (f s))
keeps_chosen {A} {B} {F} {f} decode k = record {
  sound = λ s x fits e.
      let a = bind_ok (f s) (λ a. meant (decode a.0) a.1) x e in
      let p = k.sound s a.0 fits a.1 in
      let m = meant_ok (decode a.0.0) a.0.1 x a.2 in
      ((a.0.0, m.0, subst (λ (r : List ℕ). F s a.0.0 r) m.1 p.0), subst (λ (r : List ℕ). IsBytes r) m.1 p.1);
  complete = λ s b r h. rw (k.complete s h.0 r h.2, h.1) refl;
}

-- ---- a value that has to pass a test

pub passes_ok : {V : Type 0} (why : Invalid) (v : V) (t : Bool) (w : V) → cond t (Ok v) (Err why) ≡ Ok w → (t ≡ true) × (v ≡ w)
passes_ok why v true w e = (refl, cc)
passes_ok why v false w e = absurd cc

pub passes_choice : {place : Place} {V : Type 0} (f : Format place V) → ((v : V) → f.normal v ≡ v) → (test : V → Bool) (why : Invalid)
    → IsChoice f (passes test why) (λ v. v) (λ v. v) (λ v. f.Fits v × (test v ≡ true))
passes_choice {V = V} f same test why = record {
  fits = λ v fits. fits.0;
  shows = λ v fits. rw (same v, fits.1) refl;
  settled = λ s a r b h d. refl;
  twice = λ v. refl;
  again = λ v fits. refl;
}
