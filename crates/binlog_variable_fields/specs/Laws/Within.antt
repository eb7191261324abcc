-- Parts that state their own size, and values up to an end: reading keeps to their encodings.
use Rattle.std.proofs.Common.{◌≡◌, ℕ, ◌+◌, ◌-◌, ◌≤◌, cond, ltb, List, [], ◌++◌, length, take, drop, Ok, Err, sym, subst, arith, false, refl, Bool, true, ◌∷◌, zero, suc}
use Rattle.std.proofs.lemmas.Bool.{ltb-false, le-ltb}
use Rattle.std.proofs.lemmas.List.{length-drop, take-append-drop, length-append, take_at, drop_at}
use Rattle.binlog_wire.specs.declared.error.Invalid.{Invalid}
use Rattle.binlog_wire.specs.Reading.{ends, invalid, ◌>>=◌, Read}
use Rattle.binlog_wire.specs.Fields.{IsBytes}
use Rattle.binlog_wire.specs.Laws.{bind_ok, guard_ok, IsBytes-take, IsBytes-drop, KeepsTo}
use Rattle.binlog_wire.specs.Formats.{anywhere, last, Format}
use Rattle.binlog_variable_fields.specs.Within.{after_head, within_at, IsWithin, left_within, IsUntil, IsEnd, until_in, until_at}

-- ---- a size that counts the whole that it is in

pub within_sound : {H V : Type 0} (head : Format anywhere H) (size : H → ℕ) (why : ℕ → Invalid) (f : H → Format last V)
    → ((h : H) (s : List ℕ) (v : V) (r : List ℕ) → (f h).spells s v r → r ≡ [])
    → (s : List ℕ) (x : (H × V) × List ℕ) → IsBytes s → within_at head.reads size why (λ h. (f h).reads) s ≡ Ok x
    → IsWithin head.spells size (λ h. (f h).spells) s x.0 x.1 × IsBytes x.1
within_sound {H} {V} head size why f whole s x fits e =
    let begun = bind_ok (head.reads s) (after_head size why (λ h. (f h).reads) (length s)) x e in
    let h : H = begun.0.0 in
    let rest : List ℕ = begun.0.1 in
    let k : ℕ = left_within (size h) (length rest) (length s) in
    let body : Read (H × V) = (f h).reads (take k rest) >>= λ v. Ok ((h, v.0), drop k rest) in
    let reaches = guard_ok (ltb (size h + length rest) (length s)) (invalid (why (size h))) (cond (ltb (length s) (size h)) (Err ends) body) x begun.2 in
    let there = guard_ok (ltb (length s) (size h)) ends body x reaches.1 in
    let ended = bind_ok ((f h).reads (take k rest)) (λ v. Ok ((h, v.0), drop k rest)) x there.1 in
    let v : V = ended.0.0 in
    let left : List ℕ = ended.0.1 in
    let first = head.keeps.sound s begun.0 fits begun.1 in
    let second = (f h).keeps.sound (take k rest) ended.0 (IsBytes-take k rest first.1) ended.1 in
    let enough : length s ≤ size h + length rest = ltb-false _ _ reaches.0 in
    let fewer : size h ≤ length s = ltb-false _ _ there.0 in
    let count : size h + length (drop k rest) ≡ length s = omega (arith, length-drop k rest, head.long s h rest first.0) in
    let none : left ≡ [] = whole h (take k rest) v left second.0 in
    let inner : (f h).spells (take k rest) v [] = subst (λ (r : List ℕ). (f h).spells (take k rest) v r) none second.0 in
    let outer : head.spells s h (take k rest ++ drop k rest) = subst (λ (r : List ℕ). head.spells s h r) (sym (take-append-drop k rest)) first.0 in
    let same : ◌≡◌ {A = (H × V) × List ℕ} ((h, v), drop k rest) x = cc in
    subst (λ (y : (H × V) × List ℕ). IsWithin head.spells size (λ h. (f h).spells) s y.0 y.1 × IsBytes y.1) same
    ((take k rest, outer, count, inner), IsBytes-drop k rest first.1)

pub within_complete : {H V : Type 0} (head : Format anywhere H) (size : H → ℕ) (why : ℕ → Invalid) (f : H → Format last V)
    → (s : List ℕ) (x : H × V) (r : List ℕ) → IsWithin head.spells size (λ h. (f h).spells) s x r → within_at head.reads size why (λ h. (f h).reads) s ≡ Ok (x, r)
within_complete head size why f s x r h =
    let m : List ℕ = h.0 in
    let l : length (m ++ r) ≡ length m + length r = length-append m r in
    let k : left_within (size x.0) (length (m ++ r)) (length s) ≡ length m = omega (arith, l, h.2) in
    let longer : length (m ++ r) ≤ length s = omega (arith, head.long s x.0 (m ++ r) h.1) in
    let enough : ltb (size x.0 + length (m ++ r)) (length s) ≡ false = le-ltb _ _ (omega (arith, l, h.2)) in
    let there : ltb (length s) (size x.0) ≡ false = le-ltb _ _ (omega (arith, h.2)) in
    rw (head.keeps.complete s x.0 (m ++ r) h.1, enough, there, k, take_at m r (length m) refl, drop_at m r (length m) refl, (f x.0).keeps.complete m x.1 [] h.3) refl

-- ---- values up to the end of the bytes, or up to bytes that end them

end_sound : {V : Type 0} (f : Format anywhere V) (End : List ℕ → Type 0) (test : List ℕ → Bool) → IsEnd f End test → (s : List ℕ) (x : List V × List ℕ) → IsBytes s → test s ≡ true
    → ◌≡◌ {A = Read (List V)} (Ok ([], [])) (Ok x) → IsUntil f.spells End s x.0 x.1 × IsBytes x.1
end_sound {V} f End test law s x fits h e =
    let same : ◌≡◌ {A = List V × List ℕ} ([], []) x = cc in
    subst (λ (y : List V × List ℕ). IsUntil f.spells End s y.0 y.1 × IsBytes y.1) same ((s, refl, law.only s fits h, refl), λ i. omega arith)

mutual_step : {V : Type 0} (f : Format anywhere V) (End : List ℕ → Type 0) (test : List ℕ → Bool) → IsEnd f End test → (k : ℕ)
    → ((s : List ℕ) (x : List V × List ℕ) → IsBytes s → until_in k test f.reads s ≡ Ok x → IsUntil f.spells End s x.0 x.1 × IsBytes x.1)
    → (s : List ℕ) (x : List V × List ℕ) → IsBytes s → (t : Bool) → test s ≡ t
    → cond t (Ok ([], [])) (f.reads s >>= λ a. until_in k test f.reads a.1 >>= λ b. Ok (a.0 ∷ b.0, b.1)) ≡ Ok x → IsUntil f.spells End s x.0 x.1 × IsBytes x.1
mutual_step f End test law k ih s x fits true h e = end_sound f End test law s x fits h e
mutual_step {V} f End test law k ih s x fits false h e =
    let a = bind_ok (f.reads s) (λ a. until_in k test f.reads a.1 >>= λ b. Ok (a.0 ∷ b.0, b.1)) x e in
    let b = bind_ok (until_in k test f.reads a.0.1) (λ b. Ok (a.0.0 ∷ b.0, b.1)) x a.2 in
    let p = f.keeps.sound s a.0 fits a.1 in
    let q = ih a.0.1 b.0 p.1 b.1 in
    let same : ◌≡◌ {A = List V × List ℕ} (a.0.0 ∷ b.0.0, b.0.1) x = cc in
    subst (λ (y : List V × List ℕ). IsUntil f.spells End s y.0 y.1 × IsBytes y.1) same ((q.0.0, (a.0.1, p.0, q.0.1), q.0.2, q.0.3), q.1)

zero_step : {V : Type 0} (f : Format anywhere V) (End : List ℕ → Type 0) (test : List ℕ → Bool) → IsEnd f End test → (s : List ℕ) (x : List V × List ℕ) → IsBytes s
    → (t : Bool) → test s ≡ t → cond t (Ok ([], [])) (Err ends) ≡ Ok x → IsUntil f.spells End s x.0 x.1 × IsBytes x.1
zero_step f End test law s x fits true h e = end_sound f End test law s x fits h e
zero_step f End test law s x fits false h e = absurd cc

until_sound : {V : Type 0} (f : Format anywhere V) (End : List ℕ → Type 0) (test : List ℕ → Bool) → IsEnd f End test → (k : ℕ)
    → (s : List ℕ) (x : List V × List ℕ) → IsBytes s → until_in k test f.reads s ≡ Ok x → IsUntil f.spells End s x.0 x.1 × IsBytes x.1
until_sound f End test law zero s x fits e = zero_step f End test law s x fits _ refl e
until_sound f End test law (suc k) s x fits e = mutual_step f End test law k (until_sound f End test law k) s x fits _ refl e

pub until_complete : {V : Type 0} (f : Format anywhere V) (End : List ℕ → Type 0) (test : List ℕ → Bool) → IsEnd f End test → (k : ℕ)
    → (s : List ℕ) (vs : List V) (r : List ℕ) → length s ≤ k → IsUntil f.spells End s vs r → until_in k test f.reads s ≡ Ok (vs, r)
until_complete f End test law zero s [] r le h = rw (sym h.1, law.holds h.0 h.2, h.3) refl
until_complete f End test law (suc k) s [] r le h = rw (sym h.1, law.holds h.0 h.2, h.3) refl
until_complete f End test law zero s (v ∷ vs) r le h = absurd (omega (arith, f.long s v h.1.0 h.1.1, law.moves))
until_complete f End test law (suc k) s (v ∷ vs) r le h =
    rw (
      law.no_value s v h.1.0 h.1.1,
      f.keeps.complete s v h.1.0 h.1.1,
      until_complete f End test law k h.1.0 vs r (omega (arith, f.long s v h.1.0 h.1.1, law.moves)) (h.0, h.1.2, h.2, h.3),
    ) refl

pub keeps_until : {V : Type 0} (f : Format anywhere V) (End : List ℕ → Type 0) (test : List ℕ → Bool) → IsEnd f End test → KeepsTo (IsUntil f.spells End) (until_at test f.reads)
keeps_until f End test law = record {
  sound = λ s x fits e. until_sound f End test law (length s) s x fits e;
  complete = λ s vs r h. until_complete f End test law (length s) s vs r (omega arith) h;
}
