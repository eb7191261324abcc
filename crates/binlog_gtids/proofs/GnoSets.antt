-- Lists of ascending intervals that are apart: the list after adding an interval, and the index where it is added.
use Rattle.std.proofs.Common.{◌≡◌, ℕ, zero, suc, ◌+◌, ◌-◌, ◌^◌, ◌<◌, ◌≤◌, min, max, Bool, true, false, ltb, leb, cond, ◌&&◌, ◌||◌, not, List, [], ◌∷◌, ◌++◌, length, take, drop, get_or, Result, Ok, Err, OnOk, OnErr, refl, sym, ap, subst, ◌∙◌, append-nil, inl, inr, arith}
use Rattle.std.specs.List.{insert, AllWithin}
use Rattle.std.specs.List.Sorted.{IsNonDecreasingBy}
use Rattle.std.proofs.lemmas.List.{get_or_read, drop_all}
use Rattle.std.proofs.lemmas.Bool.{cases_lt, ltb-true, lt-ltb, le-ltb, le-leb, leb-true, true≢false, false≢true}
use Rattle.std.proofs.lemmas.Bool.Decides.{nat_tests}
use Rattle.std.proofs.lemmas.Grind.{common_steps}
use Rattle.binlog_variable_fields.specs.declared.gno_interval.GnoInterval.{GnoInterval}
use Rattle.binlog_gtids.specs.GnoSets.{is_within, is_held, is_up_to_last, AreApart, leading, ending_below, starting_up_to}

abbrev pub interval : ℕ → ℕ → GnoInterval
interval s e = record { start = s; end = e }

-- the intervals with one more, joined with those that it touches
abbrev pub add_to : List GnoInterval → ℕ → ℕ → List GnoInterval
add_to [] s e = interval s e ∷ []
add_to (i ∷ is) s e = cond (ltb i.end s) (i ∷ add_to is s e) (cond (ltb e i.start) (interval s e ∷ i ∷ is) (add_to is (min s i.start) (max e i.end)))

-- the interval that it is joined to
abbrev pub joined : List GnoInterval → ℕ → ℕ → GnoInterval
joined [] s e = interval s e
joined (i ∷ is) s e = cond (ltb i.end s) (joined is s e) (cond (ltb e i.start) (interval s e) (joined is (min s i.start) (max e i.end)))

pub apart_lower : (is : List GnoInterval) (high low : ℕ) → low ≤ high → AreApart high is → AreApart low is
apart_lower [] high low le apart = tt
apart_lower (i ∷ is) high low le apart = (omega (arith, apart.0), apart.1, apart.2, apart.3)

-- ---- the intervals stay apart

module _ (i : GnoInterval) (is : List GnoInterval) (low s e : ℕ) (apart : AreApart low (i ∷ is)) (above : low < s) (some : s < e) (small : e ≤ 2 ^ 63) where
  apart_by : (b d : Bool) → ltb i.end s ≡ b → ltb e i.start ≡ d → (i.end < s → AreApart i.end (add_to is s e)) → AreApart low (add_to is (min s i.start) (max e i.end))
      → AreApart low (cond b (i ∷ add_to is s e) (cond d (interval s e ∷ i ∷ is) (add_to is (min s i.start) (max e i.end))))
  apart_by true d f g behind both = (apart.0, apart.1, apart.2, behind (ltb-true _ _ f))
  apart_by false true f g behind both = (above, some, small, (ltb-true _ _ g, apart.1, apart.2, apart.3))
  apart_by false false f g behind both = both

pub apart_added : (is : List GnoInterval) (low s e : ℕ) → AreApart low is → low < s → s < e → e ≤ 2 ^ 63 → AreApart low (add_to is s e)
apart_added [] low s e apart above some small = (above, some, small, tt)
apart_added (i ∷ is) low s e apart above some small =
    let first = apart.0 in
    let inner = apart.1 in
    let end_small = apart.2 in
    apart_by i is low s e apart above some small (ltb i.end s) (ltb e i.start) refl refl
    (λ behind. apart_added is i.end s e apart.3 behind some small)
    (apart_added is low (min s i.start) (max e i.end) (apart_lower is i.end low (omega arith) apart.3) (omega arith) (omega arith) (omega arith))

-- ---- they contain the previous numbers and the new ones

module _ (i : GnoInterval) (is : List GnoInterval) (s e n : ℕ) (inner : i.start < i.end) (some : s < e) where
  held_by : (b d : Bool) → ltb i.end s ≡ b → ltb e i.start ≡ d → is_held (add_to is s e) n ≡ (is_within (interval s e) n || is_held is n)
      → is_held (add_to is (min s i.start) (max e i.end)) n ≡ (is_within (interval (min s i.start) (max e i.end)) n || is_held is n)
      → is_held (cond b (i ∷ add_to is s e) (cond d (interval s e ∷ i ∷ is) (add_to is (min s i.start) (max e i.end)))) n
      ≡ (is_within (interval s e) n || (is_within i n || is_held is n))
  held_by true d f g behind both = rw behind (swapped (is_within i n) (is_within (interval s e) n) (is_held is n))
    where
      swapped : (a b c : Bool) → (a || (b || c)) ≡ (b || (a || c))
      swapped true true c = refl
      swapped true false c = refl
      swapped false b c = refl
  held_by false true f g behind both = refl
  held_by false false f g behind both = rw both (grind (arith, nat_tests))

pub held_added : (is : List GnoInterval) (low s e n : ℕ) → AreApart low is → s < e → is_held (add_to is s e) n ≡ (is_within (interval s e) n || is_held is n)
held_added [] low s e n apart some = refl
held_added (i ∷ is) low s e n apart some =
    let inner = apart.1 in
    held_by i is s e n apart.1 some (ltb i.end s) (ltb e i.start) refl refl
    (held_added is i.end s e n apart.3 some)
    (held_added is i.end (min s i.start) (max e i.end) n apart.3 (omega arith))

-- ---- the index of the new interval

-- a higher end doesn't reach the intervals after one that ends there
up_to_higher : (is : List GnoInterval) (low m e : ℕ) → AreApart low is → m ≤ low → starting_up_to (max e m) is ≡ starting_up_to e is
up_to_higher [] low m e apart le = refl
up_to_higher (i ∷ is) low m e apart le =
    let above = apart.0 in
    let inner = apart.1 in
    let same : leb i.start (max e m) ≡ leb i.start e = grind (arith, nat_tests) in
    rw (same, up_to_higher is i.end m e apart.3 (omega arith)) refl

-- no interval ends below a number that isn't above the end of the first
below_none : (is : List GnoInterval) (low s : ℕ) → AreApart low is → s ≤ low → ending_below s is ≡ 0
below_none [] low s apart le = refl
below_none (i ∷ is) low s apart le =
    let above = apart.0 in
    let inner = apart.1 in
    rw (le-ltb i.end s (omega arith)) refl

module _ (i : GnoInterval) (is : List GnoInterval) (s e : ℕ) (inner : i.start < i.end) (some : s < e) where
  first_starts : (b d : Bool) → ltb i.end s ≡ b → ltb e i.start ≡ d → leb i.start e ≡ (b || not d)
  first_starts b d f g = grind (arith, nat_tests)

  spliced_by : (b d : Bool) → leb i.start e ≡ (b || not d)
      → add_to is s e ≡ take (ending_below s is) is ++ joined is s e ∷ drop (starting_up_to e is) is
      → (b ≡ false → d ≡ false → add_to is (min s i.start) (max e i.end) ≡ joined is (min s i.start) (max e i.end) ∷ drop (starting_up_to e is) is)
      → cond b (i ∷ add_to is s e) (cond d (interval s e ∷ i ∷ is) (add_to is (min s i.start) (max e i.end)))
      ≡ take (cond b (suc (ending_below s is)) 0) (i ∷ is)
      ++ cond b (joined is s e) (cond d (interval s e) (joined is (min s i.start) (max e i.end)))
      ∷ drop (cond (leb i.start e) (suc (starting_up_to e is)) 0) (i ∷ is)
  spliced_by true d f behind both = rw f (ap (λ (t : List GnoInterval). i ∷ t) behind)
  spliced_by false true f behind both = rw f refl
  spliced_by false false f behind both = rw f (both refl refl)

pub spliced : (is : List GnoInterval) (low s e : ℕ) → AreApart low is → s < e
    → add_to is s e ≡ take (ending_below s is) is ++ joined is s e ∷ drop (starting_up_to e is) is
spliced [] low s e apart some = refl
spliced (i ∷ is) low s e apart some =
    let inner = apart.1 in
    spliced_by i is s e inner some (ltb i.end s) (ltb e i.start) (first_starts i is s e inner some (ltb i.end s) (ltb e i.start) refl refl)
    (spliced is i.end s e apart.3 some)
    (λ f g.
    let le : min s i.start ≤ i.end = omega arith in
    let joins = spliced is i.end (min s i.start) (max e i.end) apart.3 (omega arith) in
    rw (below_none is i.end (min s i.start) apart.3 le, up_to_higher is i.end i.end e apart.3 (omega arith)) at joins)

-- ---- the number of intervals before it, and of those up to its end

leading_most : (p : GnoInterval → Bool) (is : List GnoInterval) → leading p is ≤ length is
leading_most p [] = omega arith
leading_most p (i ∷ is) = by_test (p i) (leading_most p is)
  where
    by_test : (b : Bool) → leading p is ≤ length is → cond b (suc (leading p is)) 0 ≤ suc (length is)
    by_test true rest = omega arith
    by_test false rest = omega arith

module _ (is : List GnoInterval) (a u s e : ℕ) where
  below_by : (b v : Bool) → (b ≡ true → v ≡ true) → a ≤ u → cond b (suc a) 0 ≤ cond v (suc u) 0
  below_by true true f le = omega arith
  below_by true false f le = absurd (true≢false (sym (f refl)))
  below_by false v f le = omega arith

pub to_most : (is : List GnoInterval) (e : ℕ) → starting_up_to e is ≤ length is
to_most is e = leading_most (λ i. leb i.start e) is

pub in_order : (is : List GnoInterval) (low s e : ℕ) → AreApart low is → s < e → ending_below s is ≤ starting_up_to e is
in_order [] low s e apart some = omega arith
in_order (i ∷ is) low s e apart some =
    let inner = apart.1 in
    below_by is (ending_below s is) (starting_up_to e is) s e (ltb i.end s) (leb i.start e) (λ f. grind (arith, nat_tests)) (in_order is i.end s e apart.3 some)

-- the tests of a list of intervals split it in two
module _ (p : GnoInterval → Bool) where
  pub parted : (is : List GnoInterval) (n : ℕ) → n ≤ length is → AllWithin (λ i. p i ≡ true) is 0 n → AllWithin (λ i. p i ≡ false) is n (length is) → n ≡ leading p is
  parted [] n within front back = omega arith
  parted (i ∷ is) zero within front back = rw (back 0 i (omega arith) (omega arith)) refl
  parted (i ∷ is) (suc n) within front back =
      rw (front 0 i (omega arith) (omega arith))
      (ap suc (parted is n (omega arith) (λ k d from to. front (suc k) d (omega arith) (omega arith)) (λ k d from to. back (suc k) d (omega arith) (omega arith))))

  -- no fewer than these meet the test, and the next one doesn't
  pub stops_there : (is : List GnoInterval) (k : ℕ) (d : GnoInterval) → k ≤ leading p is → (k < length is → p (get_or is k d) ≡ false) → k ≡ leading p is
  stops_there [] k d least next = omega (arith, least)
  stops_there (i ∷ is) zero d least next = sym (ap (λ (b : Bool). cond b (suc (leading p is)) 0) (next (omega arith)))
  stops_there (i ∷ is) (suc k) d least next = by_test (p i) (λ more. stops_there is k d more (λ within. next (omega (arith, within)))) least
    where
      by_test : (b : Bool) → (k ≤ leading p is → k ≡ leading p is) → suc k ≤ cond b (suc (leading p is)) 0 → suc k ≡ cond b (suc (leading p is)) 0
      by_test true rest most = ap suc (rest (omega (arith, most)))
      by_test false rest most = absurd (omega (arith, most))

  -- no fewer than these meet the test, and the next one does
  pub goes_on : (is : List GnoInterval) (k : ℕ) (d : GnoInterval) → k ≤ leading p is → k < length is → p (get_or is k d) ≡ true → suc k ≤ leading p is
  goes_on [] k d least within next = absurd (omega (arith, within))
  goes_on (i ∷ is) zero d least within next = subst (λ (b : Bool). 1 ≤ cond b (suc (leading p is)) 0) (sym next) (omega arith)
  goes_on (i ∷ is) (suc k) d least within next = by_test (p i) (λ more. goes_on is k d more (omega (arith, within)) next) least
    where
      by_test : (b : Bool) → (k ≤ leading p is → suc k ≤ leading p is) → suc k ≤ cond b (suc (leading p is)) 0 → suc (suc k) ≤ cond b (suc (leading p is)) 0
      by_test true rest most = let more = rest (omega (arith, most)) in omega (arith, more)
      by_test false rest most = absurd (omega (arith, most))

-- the number of intervals that start up to one, found from those before
module _ (is : List GnoInterval) (from gno : ℕ) (d : GnoInterval) (least : from ≤ starting_up_to gno is) where
  pub starts_here : (from < length is → gno < (get_or is from d).start) → from ≡ starting_up_to gno is
  starts_here above = stops_there (λ i. leb i.start gno) is from d least (λ within. let over = above within in grind (arith, nat_tests, over))

  pub starts_later : from < length is → (get_or is from d).start ≤ gno → from + 1 ≤ starting_up_to gno is
  starts_later within up_to =
      let more = goes_on (λ i. leb i.start gno) is from d least within (grind (arith, nat_tests, up_to)) in
      omega (arith, more)

-- ---- ends and starts ascend

pub starts_above : (is : List GnoInterval) (low k : ℕ) (d : GnoInterval) → AreApart low is → k < length is → low < (get_or is k d).start
starts_above [] low k d apart within = absurd (omega arith)
starts_above (i ∷ is) low zero d apart within = apart.0
starts_above (i ∷ is) low (suc k) d apart within = omega (arith, apart.0, apart.1, starts_above is i.end k d apart.3 (omega arith))

pub ends_above : (is : List GnoInterval) (low k : ℕ) (d : GnoInterval) → AreApart low is → k < length is → low < (get_or is k d).end
ends_above [] low k d apart within = absurd (omega arith)
ends_above (i ∷ is) low zero d apart within = omega (arith, apart.0, apart.1)
ends_above (i ∷ is) low (suc k) d apart within = omega (arith, apart.0, apart.1, ends_above is i.end k d apart.3 (omega arith))

pub starts_rise : (is : List GnoInterval) (low : ℕ) → AreApart low is → IsNonDecreasingBy (λ i. i.start) is
starts_rise [] low apart i j d le within = absurd (omega arith)
starts_rise (x ∷ is) low apart zero zero d le within = omega arith
starts_rise (x ∷ is) low apart zero (suc j) d le within = omega (arith, apart.1, starts_above is x.end j d apart.3 (omega arith))
starts_rise (x ∷ is) low apart (suc i) zero d le within = absurd (omega arith)
starts_rise (x ∷ is) low apart (suc i) (suc j) d le within = starts_rise is x.end apart.3 i j d (omega arith) (omega arith)

pub ends_rise : (is : List GnoInterval) (low : ℕ) → AreApart low is → IsNonDecreasingBy (λ i. i.end) is
ends_rise [] low apart i j d le within = absurd (omega arith)
ends_rise (x ∷ is) low apart zero zero d le within = omega arith
ends_rise (x ∷ is) low apart zero (suc j) d le within = omega (arith, ends_above is x.end j d apart.3 (omega arith))
ends_rise (x ∷ is) low apart (suc i) zero d le within = absurd (omega arith)
ends_rise (x ∷ is) low apart (suc i) (suc j) d le within = ends_rise is x.end apart.3 i j d (omega arith) (omega arith)

ends_below_start : (is : List GnoInterval) (low j k : ℕ) (d : GnoInterval) → AreApart low is → j < k → k < length is → (get_or is j d).end < (get_or is k d).start
ends_below_start [] low j k d apart less within = absurd (omega arith)
ends_below_start (i ∷ is) low j zero d apart less within = absurd (omega arith)
ends_below_start (i ∷ is) low zero (suc k) d apart less within = starts_above is i.end k d apart.3 (omega arith)
ends_below_start (i ∷ is) low (suc j) (suc k) d apart less within = ends_below_start is i.end j k d apart.3 (omega arith) (omega arith)

-- ---- which intervals are joined: none, or all from the first to the last that it touches

module _ (i : GnoInterval) (is : List GnoInterval) (s e : ℕ) (inner : i.start < i.end) (some : s < e) where
  alone_by : (b d : Bool) → leb i.start e ≡ (b || not d) → (ending_below s is ≡ starting_up_to e is → joined is s e ≡ interval s e)
      → cond b (suc (ending_below s is)) 0 ≡ cond (leb i.start e) (suc (starting_up_to e is)) 0
      → cond b (joined is s e) (cond d (interval s e) (joined is (min s i.start) (max e i.end))) ≡ interval s e
  alone_by true d f behind same = let there = rw f at same in behind (omega arith)
  alone_by false true f behind same = refl
  alone_by false false f behind same = let there = rw f at same in absurd (omega arith)

pub joined_alone : (is : List GnoInterval) (low s e : ℕ) → AreApart low is → s < e → ending_below s is ≡ starting_up_to e is → joined is s e ≡ interval s e
joined_alone [] low s e apart some same = refl
joined_alone (i ∷ is) low s e apart some same =
    alone_by i is s e apart.1 some (ltb i.end s) (ltb e i.start) (first_starts i is s e apart.1 some (ltb i.end s) (ltb e i.start) refl refl)
    (joined_alone is i.end s e apart.3 some) same

-- the first and the last interval that it touches
abbrev pub span : List GnoInterval → GnoInterval → ℕ → ℕ → ℕ → ℕ → GnoInterval
span is d from last s e = interval (min s (get_or is from d).start) (max e (get_or is last d).end)

module _ (i : GnoInterval) (is : List GnoInterval) (low s e : ℕ) (z : GnoInterval) (apart : AreApart low (i ∷ is)) (some : s < e) where
  -- the first is also the last
  span_one : (b d : Bool) → leb i.start e ≡ (b || not d) → (starting_up_to e is ≡ 0 → joined is (min s i.start) (max e i.end) ≡ interval (min s i.start) (max e i.end))
      → cond (leb i.start e) (suc (starting_up_to e is)) 0 ≡ 1 → cond b (suc (ending_below s is)) 0 ≤ 0
      → cond b (joined is s e) (cond d (interval s e) (joined is (min s i.start) (max e i.end))) ≡ span (i ∷ is) z (cond b (suc (ending_below s is)) 0) 0 s e
  span_one true d f alone to from = absurd (omega arith)
  span_one false true f alone to from = let none = rw f at to in absurd (omega arith)
  span_one false false f alone to from = let none = rw f at to in alone (omega arith)

  -- one after the first is the last
  span_more : (last : ℕ) (b d : Bool) → leb i.start e ≡ (b || not d) → (starting_up_to e is ≡ suc last → ending_below s is ≤ last → joined is s e ≡ span is z (ending_below s is) last s e)
      → (starting_up_to e is ≡ suc last → joined is (min s i.start) (max e i.end) ≡ span (i ∷ is) z 0 (suc last) s e)
      → cond (leb i.start e) (suc (starting_up_to e is)) 0 ≡ suc (suc last) → cond b (suc (ending_below s is)) 0 ≤ suc last
      → cond b (joined is s e) (cond d (interval s e) (joined is (min s i.start) (max e i.end))) ≡ span (i ∷ is) z (cond b (suc (ending_below s is)) 0) (suc last) s e
  span_more last true d f behind both to from = let more = rw f at to in behind (omega arith) (omega arith)
  span_more last false true f behind both to from = let none = rw f at to in absurd (omega arith)
  span_more last false false f behind both to from = let more = rw f at to in both (omega arith)

pub joined_span : (is : List GnoInterval) (low s e last : ℕ) (z : GnoInterval) → AreApart low is → s < e → starting_up_to e is ≡ suc last → ending_below s is ≤ last
    → joined is s e ≡ span is z (ending_below s is) last s e
joined_span [] low s e last z apart some to from = absurd (omega arith)
joined_span (i ∷ is) low s e zero z apart some to from =
    span_one i is low s e z apart some (ltb i.end s) (ltb e i.start) (first_starts i is s e apart.1 some (ltb i.end s) (ltb e i.start) refl refl)
    (λ none.
    let le : min s i.start ≤ i.end = omega (arith, apart.1) in
    joined_alone is i.end (min s i.start) (max e i.end) apart.3 (omega arith)
    (below_none is i.end (min s i.start) apart.3 le ∙ sym (up_to_higher is i.end i.end e apart.3 (omega arith) ∙ none)))
    to from
joined_span (i ∷ is) low s e (suc last) z apart some to from =
    span_more i is low s e z apart some last (ltb i.end s) (ltb e i.start) (first_starts i is s e apart.1 some (ltb i.end s) (ltb e i.start) refl refl)
    (λ more le. joined_span is i.end s e last z apart.3 some more le)
    (λ more.
    let le : min s i.start ≤ i.end = omega (arith, apart.1) in
    let first = below_none is i.end (min s i.start) apart.3 le in
    let there = joined_span is i.end (min s i.start) (max e i.end) last z apart.3 (omega arith) (up_to_higher is i.end i.end e apart.3 (omega arith) ∙ more) (omega (arith, first)) in
    let within : last < length is = omega (arith, more, leading_most (λ i. leb i.start e) is) in
    let same_start : min (min s i.start) (get_or is 0 z).start ≡ min s i.start = omega (arith, apart.1, starts_above is i.end 0 z apart.3 (omega arith)) in
    let same_end : max (max e i.end) (get_or is last z).end ≡ max e (get_or is last z).end = omega (arith, ends_above is i.end last z apart.3 within) in
    rw (first, same_start, same_end) at there)
    to from

-- ---- the list that the code makes

module _ (is : List GnoInterval) (s e from to : ℕ) (apart : AreApart 0 is) (some : s < e) (from_is : from ≡ ending_below s is) (to_is : to ≡ starting_up_to e is) where
  pub from_up_to : from ≤ to
  from_up_to = omega (arith, in_order is 0 s e apart some)

  pub to_within : to ≤ length is
  to_within = omega (arith, to_most is e)

  added_alone : from ≡ to → insert is from (interval s e) ≡ add_to is s e
  added_alone same =
      let alone = joined_alone is 0 s e apart some (sym from_is ∙ same ∙ to_is) in
      let there = rw (alone, ← from_is, ← to_is, ← same) at (spliced is 0 s e apart some) in
      sym there

  added_joined : from < to → (first last : GnoInterval) → first ≡ get_or is from first → last ≡ get_or is (to - 1) last
      → take from is ++ interval (min s first.start) (max e last.end) ∷ drop to is ≡ add_to is s e
  added_joined less first last first_is last_is =
      let to_more : starting_up_to e is ≡ suc (to - 1) = omega (arith, to_is) in
      let from_least : ending_below s is ≤ to - 1 = omega (arith, from_is) in
      let spans = joined_span is 0 s e (to - 1) first apart some to_more from_least in
      let within : to - 1 < length is = omega (arith, to_within) in
      let last_there = get_or_read is (to - 1) last within last_is first in
      let there = rw (spans, ← from_is, ← to_is, ← first_is, ← last_there) at (spliced is 0 s e apart some) in
      sym there

  module _ (positive : 1 ≤ s) (small : e ≤ 2 ^ 63) (less : from < to) (first last : GnoInterval) (first_is : first ≡ get_or is from first) (last_is : last ≡ get_or is (to - 1) last)
      (new : List GnoInterval) (put : new ≡ take from is ++ interval (min s first.start) (max e last.end) ∷ drop to is) where
    pub held_joined : (n : ℕ) → is_held new n ≡ (is_within (interval s e) n || is_held is n)
    held_joined n = rw (put ∙ added_joined less first last first_is last_is) (held_added is 0 s e n apart some)

    pub apart_joined : AreApart 0 new
    apart_joined = rw (put ∙ added_joined less first last first_is last_is) (apart_added is 0 s e apart (omega arith) some small)

-- the list after the insertion, or after its failure
pub held_alone : {T E : Type 0} (r : Result T E) (is new : List GnoInterval) (s e from to : ℕ) → AreApart 0 is → s < e → from ≡ ending_below s is → to ≡ starting_up_to e is → from ≡ to
    → OnOk r (new ≡ insert is from (interval s e)) → OnOk r ((n : ℕ) → is_held new n ≡ (is_within (interval s e) n || is_held is n))
held_alone (Ok x) is new s e from to apart some from_is to_is same put = λ n.
    rw (put ∙ added_alone is s e from to apart some from_is to_is same) (held_added is 0 s e n apart some)
held_alone (Err x) is new s e from to apart some from_is to_is same put = tt

pub apart_alone : {T E : Type 0} (r : Result T E) (is new : List GnoInterval) (s e from to : ℕ) → AreApart 0 is → s < e → from ≡ ending_below s is → to ≡ starting_up_to e is → from ≡ to
    → 1 ≤ s → e ≤ 2 ^ 63 → OnOk r (new ≡ insert is from (interval s e)) → OnErr r (new ≡ is) → AreApart 0 new
apart_alone (Ok x) is new s e from to apart some from_is to_is same positive small put stays =
    rw (put ∙ added_alone is s e from to apart some from_is to_is same) (apart_added is 0 s e apart (omega arith) some small)
apart_alone (Err x) is new s e from to apart some from_is to_is same positive small put stays = rw stays apart

-- ---- the number of intervals before it, if the last one determines it

module _ (is : List GnoInterval) (low n : ℕ) (last : GnoInterval) (apart : AreApart low is) (within : 0 < length is) (last_is : last ≡ get_or is (length is - 1) last) where
  last_at : (d : GnoInterval) → last ≡ get_or is (length is - 1) d
  last_at d = get_or_read is (length is - 1) last (omega arith) last_is d

  pub all_end_below : last.end < n → length is ≡ ending_below n is
  all_end_below below =
      parted (λ i. ltb i.end n) is (length is) (omega arith)
      (λ k d from to. lt-ltb _ _ (omega (arith, ends_rise is low apart k (length is - 1) d (omega arith) (omega arith), ap (λ (i : GnoInterval). i.end) (last_at d))))
      (λ k d from to. absurd (omega arith))

  pub all_but_one_end_below : last.start ≤ n → n ≤ last.end → length is - 1 ≡ ending_below n is
  all_but_one_end_below starts ends =
      parted (λ i. ltb i.end n) is (length is - 1) (omega arith)
      (λ k d from to. lt-ltb _ _ (omega (arith, ends_below_start is low k (length is - 1) d apart (omega arith) (omega arith), ap (λ (i : GnoInterval). i.start) (last_at d))))
      (λ k d from to.
      let same : k ≡ length is - 1 = omega arith in
      rw (same, ← last_at d) (le-ltb _ _ ends))

  pub all_start_up_to : last.start ≤ n → length is ≡ starting_up_to n is
  all_start_up_to starts =
      parted (λ i. leb i.start n) is (length is) (omega arith)
      (λ k d from to. le-leb _ _ (omega (arith, starts_rise is low apart k (length is - 1) d (omega arith) (omega arith), ap (λ (i : GnoInterval). i.start) (last_at d))))
      (λ k d from to. absurd (omega arith))

-- ---- the numbers of the set

-- numbers below the intervals aren't in the set
pub held_above : (is : List GnoInterval) (low n : ℕ) → AreApart low is → n ≤ low → is_held is n ≡ false
held_above [] low n apart le = refl
held_above (i ∷ is) low n apart le =
    let above = apart.0 in
    let inner = apart.1 in
    let rest = held_above is i.end n apart.3 (omega arith) in
    rw rest (grind (arith, nat_tests))

-- if one starts at n or below it, the first does
first_up_to : (is : List GnoInterval) (low n k : ℕ) → AreApart low is → starting_up_to n is ≡ suc k → low < n
first_up_to [] low n k apart more = absurd (omega arith)
first_up_to (i ∷ is) low n k apart more = by_test (leb i.start n) refl more
  where
    by_test : (b : Bool) → leb i.start n ≡ b → cond b (suc (starting_up_to n is)) 0 ≡ suc k → low < n
    by_test true f more = omega (arith, apart.0, leb-true _ _ f)
    by_test false f more = absurd (omega arith)

module _ (i : GnoInterval) (is : List GnoInterval) (low n : ℕ) (apart : AreApart low (i ∷ is)) where
  none_by : (b : Bool) → leb i.start n ≡ b → cond b (suc (starting_up_to n is)) 0 ≡ 0 → (b && ltb n i.end || is_held is n) ≡ false
  none_by true f none = absurd (omega arith)
  none_by false f none =
      let inner = apart.1 in
      held_above is i.end n apart.3 (grind (arith, nat_tests))

  one_by : (b : Bool) → leb i.start n ≡ b → cond b (suc (starting_up_to n is)) 0 ≡ 1 → (starting_up_to n is ≡ 0 → is_held is n ≡ false)
      → (b && ltb n i.end || is_held is n) ≡ ltb n i.end
  one_by true f one rest = rw (rest (omega arith)) (or_false (ltb n i.end))
    where
      or_false : (b : Bool) → (b || false) ≡ b
      or_false true = refl
      or_false false = refl
  one_by false f one rest = absurd (omega arith)

  more_by : (k : ℕ) (z : GnoInterval) (b : Bool) → leb i.start n ≡ b → cond b (suc (starting_up_to n is)) 0 ≡ suc (suc k)
      → (starting_up_to n is ≡ suc k → is_held is n ≡ ltb n (get_or is k z).end)
      → (b && ltb n i.end || is_held is n) ≡ ltb n (get_or is k z).end
  more_by k z true f more rest =
      let there : starting_up_to n is ≡ suc k = omega arith in
      let behind : ltb n i.end ≡ false = le-ltb _ _ (omega (arith, first_up_to is i.end n k apart.3 there)) in
      rw behind (rest there)
  more_by k z false f more rest = absurd (omega arith)

pub held_nowhere : (is : List GnoInterval) (low n : ℕ) → AreApart low is → starting_up_to n is ≡ 0 → is_held is n ≡ false
held_nowhere [] low n apart none = refl
held_nowhere (i ∷ is) low n apart none = none_by i is low n apart (leb i.start n) refl none

-- the last interval that starts at n or below it decides
pub held_in_last : (is : List GnoInterval) (low n k : ℕ) (z : GnoInterval) → AreApart low is → starting_up_to n is ≡ suc k → is_held is n ≡ ltb n (get_or is k z).end
held_in_last [] low n k z apart more = absurd (omega arith)
held_in_last (i ∷ is) low n zero z apart more = one_by i is low n apart (leb i.start n) refl more (λ none. held_nowhere is i.end n apart.3 none)
held_in_last (i ∷ is) low n (suc k) z apart more = more_by i is low n apart k z (leb i.start n) refl more (λ more. held_in_last is i.end n k z apart.3 more)

-- ---- gaps

-- the gaps from a number on
abbrev pub gaps_in : ℕ → List GnoInterval → List GnoInterval
gaps_in next [] = []
gaps_in next (i ∷ is) = cond (ltb next i.start) (interval next i.start ∷ gaps_in i.end is) (gaps_in i.end is)

module _ (i : GnoInterval) (is : List GnoInterval) (low next n : ℕ) (apart : AreApart low (i ∷ is)) (near : next ≤ suc low) where
  missing_by : (b : Bool) → ltb next i.start ≡ b → is_held (gaps_in i.end is) n ≡ (leb i.end n && (is_up_to_last is n && not (is_held is n)))
      → is_held (cond b (interval next i.start ∷ gaps_in i.end is) (gaps_in i.end is)) n
      ≡ (leb next n && ((ltb n i.end || is_up_to_last is n) && not (leb i.start n && ltb n i.end || is_held is n)))
  missing_by true f rest =
      let above = apart.0 in
      let inner = apart.1 in
      let low_free = held_above is i.end n apart.3 in
      rw rest (grind (arith, nat_tests, low_free))
  missing_by false f rest =
      let above = apart.0 in
      let inner = apart.1 in
      let low_free = held_above is i.end n apart.3 in
      rw rest (grind (arith, nat_tests, low_free))

pub gaps_missing : (is : List GnoInterval) (low next n : ℕ) → AreApart low is → next ≤ suc low
    → is_held (gaps_in next is) n ≡ (leb next n && (is_up_to_last is n && not (is_held is n)))
gaps_missing [] low next n apart near = grind (arith, nat_tests)
gaps_missing (i ∷ is) low next n apart near = missing_by i is low next n apart near (ltb next i.start) refl (gaps_missing is i.end i.end n apart.3 (omega arith))

module _ (i : GnoInterval) (is : List GnoInterval) (low next floor : ℕ) (apart : AreApart low (i ∷ is)) (above : floor < next) where
  gaps_by : (b : Bool) → ltb next i.start ≡ b → ((floor : ℕ) → floor < i.end → AreApart floor (gaps_in i.end is))
      → next ≤ suc low → AreApart floor (cond b (interval next i.start ∷ gaps_in i.end is) (gaps_in i.end is))
  gaps_by true f rest near = (above, ltb-true _ _ f, omega (arith, apart.1, apart.2), rest i.start apart.1)
  gaps_by false f rest near = rest floor (omega (arith, apart.0, apart.1))

pub gaps_apart : (is : List GnoInterval) (low next floor : ℕ) → AreApart low is → next ≤ suc low → floor < next → AreApart floor (gaps_in next is)
gaps_apart [] low next floor apart near above = tt
gaps_apart (i ∷ is) low next floor apart near above =
    gaps_by i is low next floor apart above (ltb next i.start) refl (λ floor less. gaps_apart is i.end i.end floor apart.3 (omega arith) less) near

-- after all intervals
pub gaps_are : (is items : List GnoInterval) (gaps : List GnoInterval) (next at : ℕ) → items ≡ is → length items ≤ at
    → gaps ++ gaps_in next (drop at items) ≡ gaps_in 1 items → gaps ≡ gaps_in 1 is
gaps_are is items gaps next at same past are =
    let over : drop at items ≡ [] = grind (arith, common_steps) in
    sym (append-nil gaps) ∙ ap (λ (left : List GnoInterval). gaps ++ gaps_in next left) (sym over) ∙ are ∙ ap (gaps_in 1) same

-- ---- one list of intervals for a set of numbers

equal_by : (a b : ℕ) → (a < b → ⊥) → (b < a → ⊥) → a ≡ b
equal_by a b below above = elim (cases_lt a b) [ inl less ↦ absurd (below less) | inr least ↦ elim (cases_lt b a) [ inl less ↦ absurd (above less) | inr most ↦ omega arith ] ]

first_held : (i : GnoInterval) (is : List GnoInterval) → i.start < i.end → is_held (i ∷ is) i.start ≡ true
first_held i is inner = rw (le-leb i.start i.start (omega arith), lt-ltb i.start i.end inner) refl

not_before : (i j : GnoInterval) (is js : List GnoInterval) (low : ℕ) → i.start < i.end → AreApart low (j ∷ js) → ((n : ℕ) → is_held (i ∷ is) n ≡ is_held (j ∷ js) n) → i.start < j.start → ⊥
not_before i j is js low inner b same less =
    let raised : AreApart i.start (j ∷ js) = (less, b.1, b.2, b.3) in
    false≢true (sym (held_above (j ∷ js) i.start i.start raised (omega arith)) ∙ sym (same i.start) ∙ first_held i is inner)

not_shorter : (i j : GnoInterval) (is js : List GnoInterval) → AreApart i.end is → j.start ≤ i.end → ((n : ℕ) → is_held (i ∷ is) n ≡ is_held (j ∷ js) n) → i.end < j.end → ⊥
not_shorter i j is js behind starts same less =
    let free = held_above is i.end i.end behind (omega arith) in
    let held = same i.end in
    grind (arith, nat_tests, free, held)

same_tails : (i j : GnoInterval) (is js : List GnoInterval) → AreApart i.end is → AreApart j.end js → i.end ≡ j.end → ((n : ℕ) → is_held (i ∷ is) n ≡ is_held (j ∷ js) n) → (n : ℕ) → is_held is n ≡ is_held js n
same_tails i j is js behind after ends same n = elim (cases_lt n i.end) [
  | inl less ↦ held_above is i.end n behind (omega arith) ∙ sym (held_above js j.end n after (omega arith))
  | inr least ↦ (let held = same n in grind (arith, nat_tests, held))
]

pub one_list : (is js : List GnoInterval) (low floor : ℕ) → AreApart low is → AreApart floor js → ((n : ℕ) → is_held is n ≡ is_held js n) → is ≡ js
one_list [] [] low floor a b same = refl
one_list [] (j ∷ js) low floor a b same = absurd (false≢true (same j.start ∙ first_held j js b.1))
one_list (i ∷ is) [] low floor a b same = absurd (false≢true (sym (same i.start) ∙ first_held i is a.1))
one_list (i ∷ is) (j ∷ js) low floor a b same =
    let back : (n : ℕ) → is_held (j ∷ js) n ≡ is_held (i ∷ is) n = λ n. sym (same n) in
    let starts : i.start ≡ j.start = equal_by _ _ (not_before i j is js floor a.1 b same) (not_before j i js is low b.1 a back) in
    let inner_i = a.1 in
    let inner_j = b.1 in
    let ends : i.end ≡ j.end = equal_by _ _ (not_shorter i j is js a.3 (omega arith) same) (not_shorter j i js is b.3 (omega arith) back) in
    let tails : is ≡ js = one_list is js i.end j.end a.3 b.3 (same_tails i j is js a.3 b.3 ends same) in
    let first : i ≡ j = ap (λ (s : ℕ). interval s i.end) starts ∙ ap (λ (e : ℕ). interval j.start e) ends in
    ap (λ (x : GnoInterval). x ∷ is) first ∙ ap (λ (xs : List GnoInterval). j ∷ xs) tails

-- ---- the union of two sets

-- the bounds of an interval of a list
pub some_at : (is : List GnoInterval) (low k : ℕ) (d : GnoInterval) → AreApart low is → k < length is
    → (low < (get_or is k d).start) × ((get_or is k d).start < (get_or is k d).end) × ((get_or is k d).end ≤ 2 ^ 63)
some_at [] low k d apart within = absurd (omega arith)
some_at (i ∷ is) low zero d apart within = (apart.0, apart.1, apart.2)
some_at (i ∷ is) low (suc k) d apart within =
    let rest = some_at is i.end k d apart.3 (omega arith) in
    (omega (arith, apart.0, apart.1, rest.0), rest.1, rest.2)

-- after all intervals
pub union_done : (union items is others : List GnoInterval) (at n : ℕ) → items ≡ others → length items ≤ at
    → ((n : ℕ) → (is_held union n || is_held (drop at items) n) ≡ (is_held is n || is_held items n)) → is_held union n ≡ (is_held is n || is_held others n)
union_done union items is others at n same past whole =
    let over : drop at items ≡ [] = drop_all at items past in
    sym (or_false (is_held union n)) ∙ ap (λ (left : List GnoInterval). is_held union n || is_held left n) (sym over) ∙ whole n ∙ ap (λ (all : List GnoInterval). is_held is n || is_held all n) same
  where
    or_false : (b : Bool) → (b || false) ≡ b
    or_false true = refl
    or_false false = refl
