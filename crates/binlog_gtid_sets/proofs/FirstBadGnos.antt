-- The number that an event is refused for is the first one that no GTID can have.
use Rattle.std.proofs.Common.{◌≡◌, ◌⊎◌, inl, inr, ℕ, ◌^◌, Bool, true, false, ltb, leb, cond, ◌&&◌, ◌||◌, List, [], ◌∷◌, Option, Some, None, MatchOption, refl, arith}
use Rattle.std.specs.Option.{option_or}
use Rattle.std.proofs.lemmas.Bool.Decides.{nat_tests}
use Rattle.binlog_variable_fields.specs.declared.gno_interval.GnoInterval.{GnoInterval}
use Rattle.binlog_gtids.specs.declared.previous_gtids_sid.PreviousGtidsSid.{PreviousGtidsSid}
use Rattle.binlog_gtids.specs.GnoSets.{is_within, is_held}
use Rattle.binlog_gtid_sets.specs.AddedGtids.{bad_gno_in, bad_gno, bad_gno_listed}
use Rattle.binlog_gtid_sets.specs.FirstBadGnos.{AreGnos, AreListedGnos, IsFirstBad, IsFirstBadIn, IsFirstBadListed}

module _ (i : GnoInterval) where
  one_by : (a b c : Bool) → ltb i.start i.end ≡ a → (leb 1 i.start && ltb i.start (2 ^ 63)) ≡ b → ltb (2 ^ 63) i.end ≡ c
      → MatchOption (cond a (cond b (cond c (Some (2 ^ 63)) None) (Some i.start)) None) (AreGnos (i ∷ [])) (λ n. IsFirstBad i n)
  one_by false b c f g h = λ n held. absurd (grind (arith, nat_tests))
  one_by true true false f g h = λ n held. (grind (arith, nat_tests), grind (arith, nat_tests))
  one_by true true true f g h = record {
    within = grind (arith, nat_tests);
    bad = λ good. omega (arith, good.1);
    before = λ m inside less. (grind (arith, nat_tests), less);
  }
  one_by true false c f g h = record {
    within = grind (arith, nat_tests);
    bad = λ good. (let low = good.0 in let high = good.1 in absurd (grind (arith, nat_tests)));
    before = λ m inside less. absurd (grind (arith, nat_tests));
  }

  one_bad : MatchOption (bad_gno_in i) (AreGnos (i ∷ [])) (λ n. IsFirstBad i n)
  one_bad = one_by (ltb i.start i.end) (leb 1 i.start && ltb i.start (2 ^ 63)) (ltb (2 ^ 63) i.end) refl refl refl

or_cases : (a b : Bool) → (a || b) ≡ true → ((a || false) ≡ true) ⊎ (b ≡ true)
or_cases true b h = inl refl
or_cases false b h = inr h

all_gnos : (i : GnoInterval) (is : List GnoInterval) → AreGnos (i ∷ []) → AreGnos is → AreGnos (i ∷ is)
all_gnos i is first rest n held = elim (or_cases (is_within i n) (is_held is n) held) [ inl here ↦ first n here | inr there ↦ rest n there ]

more_by : (i : GnoInterval) (is : List GnoInterval) (a b : Option ℕ) → MatchOption a (AreGnos (i ∷ [])) (λ n. IsFirstBad i n) → MatchOption b (AreGnos is) (λ n. IsFirstBadIn is n)
    → MatchOption (option_or a b) (AreGnos (i ∷ is)) (λ n. IsFirstBadIn (i ∷ is) n)
more_by i is (Some n) b first rest = inl first
more_by i is None (Some n) first rest = inr (first, rest)
more_by i is None None first rest = all_gnos i is first rest

first_bad_in : (is : List GnoInterval) → MatchOption (bad_gno is) (AreGnos is) (λ n. IsFirstBadIn is n)
first_bad_in [] = λ n held. absurd cc
first_bad_in (i ∷ is) = more_by i is (bad_gno_in i) (bad_gno is) (one_bad i) (first_bad_in is)

listed_by : (e : PreviousGtidsSid) (es : List PreviousGtidsSid) (a b : Option ℕ) → MatchOption a (AreGnos e.intervals) (λ n. IsFirstBadIn e.intervals n)
    → MatchOption b (AreListedGnos es) (λ n. IsFirstBadListed es n) → MatchOption (option_or a b) (AreListedGnos (e ∷ es)) (λ n. IsFirstBadListed (e ∷ es) n)
listed_by e es (Some n) b first rest = inl first
listed_by e es None (Some n) first rest = inr (first, rest)
listed_by e es None None first rest = (first, rest)

pub first_bad_listed : (es : List PreviousGtidsSid) → MatchOption (bad_gno_listed es) (AreListedGnos es) (λ n. IsFirstBadListed es n)
first_bad_listed [] = tt
first_bad_listed (e ∷ es) = listed_by e es (bad_gno e.intervals) (bad_gno_listed es) (first_bad_in e.intervals) (first_bad_listed es)
