-- Lists of ascending intervals that are apart: what one contains and another doesn't.
use Rattle.std.proofs.Common.{◌≡◌, ℕ, zero, suc, ◌+◌, ◌-◌, ◌<◌, ◌≤◌, Bool, true, false, ltb, leb, cond, ◌&&◌, ◌||◌, not, List, [], ◌∷◌, length, take, drop, get_or, refl, sym, ap, ◌∙◌, inl, inr, arith}
use Rattle.std.specs.Prelude.{IsTrue}
use Rattle.std.proofs.lemmas.Bool.{cases_lt, ltb-true, le-leb, leb-true, false≢true}
use Rattle.std.proofs.lemmas.Bool.Decides.{nat_tests}
use Rattle.std.proofs.lemmas.Grind.{common_steps}
use Rattle.binlog_variable_fields.specs.declared.gno_interval.GnoInterval.{GnoInterval}
use Rattle.binlog_gtids.specs.GnoSets.{is_within, is_held, AreApart, ending_below, starting_up_to}
use Rattle.binlog_gtids.proofs.GnoSets.{interval, apart_lower, ends_above, held_above, held_nowhere, held_in_last, to_most}

or_true : (a b : Bool) → b ≡ true → (a || b) ≡ true
or_true true b h = refl
or_true false b h = h

-- a number of an interval of the list is in the set
pub held_at : (is : List GnoInterval) (k n : ℕ) (d : GnoInterval) → k < length is → is_within (get_or is k d) n ≡ true → is_held is n ≡ true
held_at [] k n d within h = absurd (omega arith)
held_at (i ∷ is) zero n d within h = rw h refl
held_at (i ∷ is) (suc k) n d within h = or_true (is_within i n) (is_held is n) (held_at is k n d (omega arith) h)

-- a number of the set is in an interval of the list
abbrev pub InSome : List GnoInterval → ℕ → GnoInterval → Type 0
InSome is n d = (k : ℕ) × (k < length is) × (is_within (get_or is k d) n ≡ true)

module _ (i : GnoInterval) (is : List GnoInterval) (n : ℕ) (d : GnoInterval) where
  some_by : (b : Bool) → is_within i n ≡ b → (b || is_held is n) ≡ true → (is_held is n ≡ true → InSome is n d) → InSome (i ∷ is) n d
  some_by true f h rest = (0, omega arith, f)
  some_by false f h rest = let there = rest h in (suc there.0, omega (arith, there.1), there.2)

pub held_some : (is : List GnoInterval) (n : ℕ) (d : GnoInterval) → is_held is n ≡ true → InSome is n d
held_some [] n d h = absurd cc
held_some (i ∷ is) n d h = some_by i is n d (is_within i n) refl h (λ h. held_some is n d h)

-- the end of an interval isn't in the set
pub end_free : (is : List GnoInterval) (low k : ℕ) (d : GnoInterval) → AreApart low is → k < length is → is_held is (get_or is k d).end ≡ false
end_free [] low k d apart within = absurd (omega arith)
end_free (i ∷ is) low zero d apart within =
    let free = held_above is i.end i.end apart.3 (omega arith) in
    rw free (grind (arith, nat_tests))
end_free (i ∷ is) low (suc k) d apart within =
    let above = ends_above is i.end k d apart.3 (omega arith) in
    rw (end_free is i.end k d apart.3 (omega arith)) (grind (arith, nat_tests))

-- each of the first intervals that start at s or below it does
module _ (i : GnoInterval) (is : List GnoInterval) (s : ℕ) (d : GnoInterval) where
  starts_by : (b : Bool) → leb i.start s ≡ b → (k : ℕ) → k < cond b (suc (starting_up_to s is)) 0 → ((k : ℕ) → k < starting_up_to s is → (get_or is k d).start ≤ s) → (get_or (i ∷ is) k d).start ≤ s
  starts_by true f zero less rest = leb-true _ _ f
  starts_by true f (suc k) less rest = rest k (omega arith)
  starts_by false f k less rest = absurd (omega arith)

pub up_to_starts : (is : List GnoInterval) (s k : ℕ) (d : GnoInterval) → k < starting_up_to s is → (get_or is k d).start ≤ s
up_to_starts [] s k d less = absurd (omega arith)
up_to_starts (i ∷ is) s k d less = starts_by i is s d (leb i.start s) refl k less (λ k less. up_to_starts is s k d less)

module _ (is : List GnoInterval) (s e k : ℕ) (d : GnoInterval) (apart : AreApart 0 is) (some : s < e) (up_to : starting_up_to s is ≡ suc k) where
  within_k : k < length is
  within_k = omega (arith, to_most is s, up_to)

  pub covers : IsTrue (leb e (get_or is k d).end) → (n : ℕ) → is_within (interval s e) n ≡ true → is_held is n ≡ true
  covers reaches n h =
      let starts = up_to_starts is s k d (omega arith) in
      let ends = leb-true _ _ reaches in
      held_at is k n d within_k (grind (arith, nat_tests))

  pub covered : ((n : ℕ) → is_within (interval s e) n ≡ true → is_held is n ≡ true) → IsTrue (leb e (get_or is k d).end)
  covered all = elim (cases_lt (get_or is k d).end e) [
    | inl less ↦ (
        let first = held_in_last is 0 s k d apart up_to in
        let there = all s (grind (arith, nat_tests)) in
        let after : s < (get_or is k d).end = ltb-true _ _ (sym first ∙ there) in
        absurd (false≢true (sym (end_free is 0 k d apart within_k) ∙ all (get_or is k d).end (grind (arith, nat_tests)))))
    | inr most ↦ le-leb _ _ most
  ]

pub none_covered : (is : List GnoInterval) (s e : ℕ) → AreApart 0 is → s < e → starting_up_to s is ≡ 0 → ((n : ℕ) → is_within (interval s e) n ≡ true → is_held is n ≡ true) → ⊥
none_covered is s e apart some none all = false≢true (sym (held_nowhere is 0 s apart none) ∙ all s (grind (arith, nat_tests)))

-- ---- the intervals of a list that touch an interval

pub apart_take : (is : List GnoInterval) (low k : ℕ) → AreApart low is → AreApart low (take k is)
apart_take [] low zero apart = tt
apart_take [] low (suc k) apart = tt
apart_take (i ∷ is) low zero apart = tt
apart_take (i ∷ is) low (suc k) apart = (apart.0, apart.1, apart.2, apart_take is i.end k apart.3)

pub apart_drop : (is : List GnoInterval) (low k : ℕ) → AreApart low is → AreApart low (drop k is)
apart_drop [] low zero apart = tt
apart_drop [] low (suc k) apart = tt
apart_drop (i ∷ is) low zero apart = apart
apart_drop (i ∷ is) low (suc k) apart = apart_lower (drop k is) i.end low (omega (arith, apart.0, apart.1)) (apart_drop is i.end k apart.3)

-- the first interval, if any, ends at a number or above it
abbrev pub EndsFrom : ℕ → List GnoInterval → Type 0
EndsFrom n [] = Unit {0}
EndsFrom n (i ∷ is) = n ≤ i.end

abbrev pub touching : ℕ → ℕ → List GnoInterval → List GnoInterval
touching s e is = take (starting_up_to e is - ending_below s is) (drop (ending_below s is) is)

-- those that start up to the end contain the numbers below it
module _ (i : GnoInterval) (is : List GnoInterval) (low e n : ℕ) (apart : AreApart low (i ∷ is)) (less : n < e) where
  up_to_by : (b : Bool) → leb i.start e ≡ b → is_held (take (starting_up_to e is) is) n ≡ is_held is n
      → is_held (take (cond b (suc (starting_up_to e is)) 0) (i ∷ is)) n ≡ is_held (i ∷ is) n
  up_to_by true f rest = ap (λ (b : Bool). is_within i n || b) rest
  up_to_by false f rest =
      let inner = apart.1 in
      let free = held_above is i.end n apart.3 (grind (arith, nat_tests)) in
      rw free (grind (arith, nat_tests))

up_to_held : (is : List GnoInterval) (low e n : ℕ) → AreApart low is → n < e → is_held (take (starting_up_to e is) is) n ≡ is_held is n
up_to_held [] low e n apart less = refl
up_to_held (i ∷ is) low e n apart less = up_to_by i is low e n apart less (leb i.start e) refl (up_to_held is i.end e n apart.3 less)

module _ (i : GnoInterval) (is : List GnoInterval) (low s e : ℕ) (apart : AreApart low (i ∷ is)) (some : s < e) where
  -- those that touch it, if the first ends below it or not
  abbrev pub touching_if : Bool → List GnoInterval
  touching_if b = take (starting_up_to e (i ∷ is) - cond b (suc (ending_below s is)) 0) (drop (cond b (suc (ending_below s is)) 0) (i ∷ is))

  touching_by : (n : ℕ) → s ≤ n → n < e → (b : Bool) → ltb i.end s ≡ b → is_held (touching s e is) n ≡ is_held is n → is_held (touching_if b) n ≡ is_held (i ∷ is) n
  touching_by n from less true f rest =
      let inner = apart.1 in
      let starts : leb i.start e ≡ true = grind (arith, nat_tests) in
      let free : is_within i n ≡ false = grind (arith, nat_tests) in
      let same : suc (starting_up_to e is) - suc (ending_below s is) ≡ starting_up_to e is - ending_below s is = omega arith in
      rw (starts, same, free) rest
  touching_by n from less false f rest =
      let whole : starting_up_to e (i ∷ is) - 0 ≡ starting_up_to e (i ∷ is) = omega arith in
      rw whole (up_to_held (i ∷ is) low e n apart less)

  ends_by_count : (k : ℕ) → s ≤ i.end → EndsFrom s (take k (i ∷ is))
  ends_by_count zero le = tt
  ends_by_count (suc k) le = le

  ends_by : (b : Bool) → ltb i.end s ≡ b → EndsFrom s (touching s e is) → EndsFrom s (touching_if b)
  ends_by true f rest =
      let inner = apart.1 in
      let starts : leb i.start e ≡ true = grind (arith, nat_tests) in
      let same : suc (starting_up_to e is) - suc (ending_below s is) ≡ starting_up_to e is - ending_below s is = omega arith in
      rw (starts, same) rest
  ends_by false f rest =
      let whole : starting_up_to e (i ∷ is) - 0 ≡ starting_up_to e (i ∷ is) = omega arith in
      rw whole (ends_by_count (starting_up_to e (i ∷ is)) (grind (arith, nat_tests)))

pub touching_held : (is : List GnoInterval) (low s e n : ℕ) → AreApart low is → s < e → s ≤ n → n < e → is_held (touching s e is) n ≡ is_held is n
touching_held [] low s e n apart some from less = refl
touching_held (i ∷ is) low s e n apart some from less = touching_by i is low s e apart some n from less (ltb i.end s) refl (touching_held is i.end s e n apart.3 some from less)

pub touching_ends : (is : List GnoInterval) (low s e : ℕ) → AreApart low is → s < e → EndsFrom s (touching s e is)
touching_ends [] low s e apart some = tt
touching_ends (i ∷ is) low s e apart some = ends_by i is low s e apart some (ltb i.end s) refl (touching_ends is i.end s e apart.3 some)

pub touching_apart : (is : List GnoInterval) (s e : ℕ) → AreApart 0 is → AreApart 0 (touching s e is)
touching_apart is s e apart = apart_take (drop (ending_below s is) is) 0 (starting_up_to e is - ending_below s is) (apart_drop is 0 (ending_below s is) apart)

pub touching_starts : (is : List GnoInterval) (s e k : ℕ) (d : GnoInterval) → k < length (touching s e is) → (get_or (touching s e is) k d).start ≤ e
touching_starts is s e k d within =
    let from = ending_below s is in
    let less : from + k < starting_up_to e is = grind (arith, common_steps) in
    let there : get_or (touching s e is) k d ≡ get_or is (from + k) d = grind (arith, common_steps) in
    rw there (up_to_starts is e (from + k) d less)

-- ---- one interval after the other

-- what is missing in the interval, from the first of the others on
pub start_held : (is : List GnoInterval) (s e n : ℕ) (held : Bool) → AreApart 0 is → s < e
    → (held || (leb s n && (ltb n e && not (is_held (touching s e is) n)))) ≡ (held || (is_within (interval s e) n && not (is_held is n)))
start_held is s e n held apart some = elim (cases_lt n s) [
  | inl less ↦ grind (arith, nat_tests)
  | inr from ↦ elim (cases_lt n e) [
    | inl below ↦ rw (touching_held is 0 s e n apart some from below) (grind (arith, nat_tests))
    | inr above ↦ grind (arith, nat_tests)
  ]
]

pub ends_at : (is : List GnoInterval) (k n : ℕ) (d : GnoInterval) → k < length is → EndsFrom n (drop k is) → n ≤ (get_or is k d).end
ends_at [] k n d within ends = absurd (omega arith)
ends_at (i ∷ is) zero n d within ends = ends
ends_at (i ∷ is) (suc k) n d within ends = ends_at is k n d (omega arith) ends

pub step_ends : (is : List GnoInterval) (low k : ℕ) (d : GnoInterval) → AreApart low is → k < length is → EndsFrom (get_or is k d).end (drop (suc k) is)
step_ends [] low k d apart within = absurd (omega arith)
step_ends (i ∷ []) low zero d apart within = tt
step_ends (i ∷ j ∷ is) low zero d apart within = omega (arith, apart.3.0, apart.3.1)
step_ends (i ∷ is) low (suc k) d apart within = step_ends is i.end k d apart.3 (omega arith)

pub step_held : (is : List GnoInterval) (low k next e n : ℕ) (d : GnoInterval) (held new : Bool) → AreApart low is → k < length is → EndsFrom next (drop k is) → (get_or is k d).start ≤ e
    → new ≡ (is_within (interval next (get_or is k d).start) n || held)
    → (new || (leb (get_or is k d).end n && (ltb n e && not (is_held (drop (suc k) is) n)))) ≡ (held || (leb next n && (ltb n e && not (is_held (drop k is) n))))
step_held [] low k next e n d held new apart within ends starts put = absurd (omega arith)
step_held (i ∷ is) low zero next e n d held new apart within ends starts put =
    let inner = apart.1 in
    let free = held_above is i.end n apart.3 in
    rw put (grind (arith, nat_tests, free))
step_held (i ∷ is) low (suc k) next e n d held new apart within ends starts put = step_held is i.end k next e n d held new apart.3 (omega arith) ends starts put

-- nothing is within an empty interval
pub none_within : (s e n : ℕ) (held : Bool) → e ≤ s → held ≡ (is_within (interval s e) n || held)
none_within s e n held le = grind (arith, nat_tests)

-- ---- the intervals of one set in another

pub subset_done : (is others : List GnoInterval) (k : ℕ) → length is ≤ k → ((j : ℕ) → j < k → (n : ℕ) → is_within (get_or is j (interval 0 0)) n ≡ true → is_held others n ≡ true)
    → (n : ℕ) → is_held is n ≡ true → is_held others n ≡ true
subset_done is others k past each n h =
    let there = held_some is n (interval 0 0) h in
    each there.0 (omega (arith, there.1)) n there.2
