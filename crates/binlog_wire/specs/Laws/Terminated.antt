-- Zero-terminated strings.
use Rattle.std.proofs.Common.{◌≡◌, ℕ, zero, suc, ◌+◌, ◌<◌, ◌≤◌, List, [], ◌∷◌, ◌++◌, length, take, drop, Option, None, Some, Ok, Err, refl, sym, ap, subst, arith, ◌∙◌}
use Rattle.std.proofs.lemmas.Bool.{eqb-true}
use Rattle.std.specs.Prelude.{MatchOption, ◌-◌}
use Rattle.std.proofs.lemmas.List.{length-append, length-drop, take_all}
use Rattle.memchr.specs.Find.{NoneBefore, Nowhere, Passes, is_byte, IsFirstByte}
use Rattle.binlog_wire.specs.Reading.{ends}
use Rattle.binlog_wire.specs.Fields.{IsBytes, HasNoZero, IsTerminated, terminated_at}
use Rattle.binlog_wire.specs.Laws.{KeepsTo, bind_ok}

terminated_sound : (s : List ℕ) (x : List ℕ × List ℕ) → IsBytes s → terminated_at s ≡ Ok x → IsTerminated s x.0 x.1 × IsBytes x.1
terminated_sound [] x fits e = absurd cc
terminated_sound (zero ∷ s) x fits e =
    let same : ◌≡◌ {A = List ℕ × List ℕ} ([], s) x = cc in
    subst (λ (y : List ℕ × List ℕ). IsTerminated (0 ∷ s) y.0 y.1 × IsBytes y.1) same ((tt, refl), λ i. fits (suc i))
terminated_sound (suc b ∷ s) x fits e =
    let a = bind_ok (terminated_at s) (λ y. Ok (suc b ∷ y.0, y.1)) x e in
    let p = terminated_sound s a.0 (λ i. fits (suc i)) a.1 in
    let same : ◌≡◌ {A = List ℕ × List ℕ} (suc b ∷ a.0.0, a.0.1) x = cc in
    subst (λ (y : List ℕ × List ℕ). IsTerminated (suc b ∷ s) y.0 y.1 × IsBytes y.1) same ((p.0.0, ap (λ (t : List ℕ). suc b ∷ t) p.0.1), p.1)

terminated_complete : (text r : List ℕ) → HasNoZero text → terminated_at (text ++ 0 ∷ r) ≡ Ok (text, r)
terminated_complete [] r h = refl
terminated_complete (zero ∷ text) r h = absurd h
terminated_complete (suc b ∷ text) r h = rw (terminated_complete text r h) refl

pub keeps_terminated : KeepsTo IsTerminated terminated_at
keeps_terminated = record {
  sound = terminated_sound;
  complete = λ s v r h. rw h.1 (terminated_complete v r h.0);
}

-- An encoding has at least one byte, the terminator.
pub terminated_long : (s text r : List ℕ) → IsTerminated s text r → 1 + length r ≤ length s
terminated_long s text r h = rw h.1 (omega (arith, length-append text (0 ∷ r)))

-- ---- the result of `memchr`

-- No zero byte is found.
pub terminated_nowhere : (s : List ℕ) → Nowhere (Passes (is_byte 0) s) 0 (length s) → terminated_at s ≡ Err ends
terminated_nowhere [] none = refl
terminated_nowhere (zero ∷ s) none = absurd (none 0 (omega arith) (omega arith) refl)
terminated_nowhere (suc b ∷ s) none = rw (terminated_nowhere s (λ k low high is. none (suc k) (omega arith) (omega arith) is)) refl

-- The first zero byte is found at this offset.
pub terminated_first : (s : List ℕ) (place : ℕ) → NoneBefore (Passes (is_byte 0) s) 0 (length s) place → Passes (is_byte 0) s place
    → terminated_at s ≡ Ok (take place s, drop (suc place) s)
terminated_first [] place first is = absurd (omega (arith, first.high))
terminated_first (zero ∷ s) zero first is = refl
terminated_first (zero ∷ s) (suc place) first is = absurd (first.before 0 (omega arith) (omega arith) refl)
terminated_first (suc b ∷ s) zero first is = absurd (omega (arith, eqb-true _ _ is))
terminated_first (suc b ∷ s) (suc place) first is =
    let high : place < length s = omega (arith, first.high) in
    let later : NoneBefore (Passes (is_byte 0) s) 0 (length s) place
    = record { low = omega arith; high = high; before = λ k low less at. first.before (suc k) (omega arith) (omega arith) at } in
    rw (terminated_first s place later is) refl

-- The result of reading is that of the search.
pub terminated_search : (s : List ℕ) (found : Option ℕ) → IsFirstByte (is_byte 0) s found
    → MatchOption found (terminated_at s ≡ Err ends) (λ place. terminated_at s ≡ Ok (take place s, take (length s - (place + 1)) (drop (place + 1) s)))
terminated_search s None none = terminated_nowhere s none
terminated_search s (Some place) first =
    let all : take (length s - (place + 1)) (drop (place + 1) s) ≡ drop (place + 1) s
    = take_all (length s - (place + 1)) (drop (place + 1) s) (omega (arith, length-drop (place + 1) s)) in
    let next : suc place ≡ place + 1 = omega arith in
    let here : terminated_at s ≡ Ok (take place s, drop (place + 1) s)
    = subst (λ (n : ℕ). terminated_at s ≡ Ok (take place s, drop n s)) next (terminated_first s place first.0 first.1) in
    here ∙ ap (λ (r : List ℕ). Ok (take place s, r)) (sym all)
