-- Intervals that are ascending and apart are determined by the numbers in them, and so are lines.
use Rattle.std.proofs.Common.{◌≡◌, ◌⊎◌, inl, inr, ℕ, ◌<◌, ◌≤◌, Bool, true, false, List, [], ◌∷◌, Option, Some, refl, sym, ap, ◌∙◌, arith}
use Rattle.std.proofs.lemmas.Bool.{cases_lt, lt-ltb, le-leb}
use Rattle.std.proofs.lemmas.Bool.Decides.{nat_tests}
use Rattle.binlog_variable_fields.specs.declared.gno_interval.GnoInterval.{GnoInterval}
use Rattle.binlog_gtids.specs.GnoSets.{is_within, is_held, is_missing, AreApart}
use Rattle.binlog_gtids.proofs.GnoSets.{interval, held_above}
use Rattle.binlog_gtid_listing.specs.GroupLines.{group_line, IsGroupLine}

pub within_first : (i : GnoInterval) (is : List GnoInterval) (n : ℕ) → i.start ≤ n → n < i.end → is_held (i ∷ is) n ≡ true
within_first i is n from to = rw (le-leb i.start n from, lt-ltb n i.end to) refl

end_out : (i : GnoInterval) (is : List GnoInterval) (low : ℕ) → AreApart low (i ∷ is) → is_held (i ∷ is) i.end ≡ false
end_out i is low apart = let free = held_above is i.end i.end apart.3 (omega arith) in rw free (grind (arith, nat_tests))

before_first : (i : GnoInterval) (is : List GnoInterval) (low n : ℕ) → AreApart low (i ∷ is) → n < i.start → is_held (i ∷ is) n ≡ false
before_first i is low n apart less = let free = held_above is i.end n apart.3 (omega (arith, apart.1)) in rw free (grind (arith, nat_tests))

no_both : (b : Bool) → b ≡ true → b ≡ false → ⊥
no_both true t f = cc
no_both false t f = cc

module _ (i j : GnoInterval) (is js : List GnoInterval) (low : ℕ) (a : AreApart low (i ∷ is)) (b : AreApart low (j ∷ js)) (same : (n : ℕ) → is_held (i ∷ is) n ≡ is_held (j ∷ js) n) where
  not_before : i.start < j.start → ⊥
  not_before less = no_both (is_held (i ∷ is) i.start) (within_first i is i.start (omega arith) a.1) (same i.start ∙ before_first j js low i.start b less)

  not_shorter : j.start ≤ i.end → i.end < j.end → ⊥
  not_shorter from less = no_both (is_held (j ∷ js) i.end) (within_first j js i.end from less) (sym (same i.end) ∙ end_out i is low a)

least_by : (m n : ℕ) → (m < n) ⊎ (n ≤ m) → (n < m) ⊎ (m ≤ n) → (m < n → ⊥) → (n < m → ⊥) → m ≡ n
least_by m n (inl less) back not_less not_more = absurd (not_less less)
least_by m n (inr more) (inl less) not_less not_more = absurd (not_more less)
least_by m n (inr more) (inr other) not_less not_more = omega (arith, more, other)

least : (m n : ℕ) → (m < n → ⊥) → (n < m → ⊥) → m ≡ n
least m n not_less not_more = least_by m n (cases_lt m n) (cases_lt n m) not_less not_more

interval_same : (i j : GnoInterval) → i.start ≡ j.start → i.end ≡ j.end → i ≡ j
interval_same i j s e = ap (λ (n : ℕ). interval n i.end) s ∙ ap (interval j.start) e

firsts_same : (i j : GnoInterval) (is js : List GnoInterval) (low : ℕ) → AreApart low (i ∷ is) → AreApart low (j ∷ js) → ((n : ℕ) → is_held (i ∷ is) n ≡ is_held (j ∷ js) n) → i ≡ j
firsts_same i j is js low a b same =
    let back : (n : ℕ) → is_held (j ∷ js) n ≡ is_held (i ∷ is) n = λ n. sym (same n) in
    let starts : i.start ≡ j.start = least i.start j.start (not_before i j is js low a b same) (not_before j i js is low b a back) in
    let ends : i.end ≡ j.end = least i.end j.end (not_shorter i j is js low a b same (omega (arith, a.1))) (not_shorter j i js is low b a back (omega (arith, b.1))) in
    interval_same i j starts ends

-- behind the first interval
rest_by : (i : GnoInterval) (is js : List GnoInterval) (n : ℕ) → AreApart i.end is → AreApart i.end js → (is_held (i ∷ is) n ≡ is_held (i ∷ js) n) → (n ≤ i.end) ⊎ (i.end < n) → is_held is n ≡ is_held js n
rest_by i is js n a b same (inl low) = held_above is i.end n a low ∙ sym (held_above js i.end n b low)
rest_by i is js n a b same (inr above) = let out : is_within i n ≡ false = grind (arith, nat_tests) in rw out at same

up_or_above : (m n : ℕ) → (n ≤ m) ⊎ (m < n)
up_or_above m n = elim (cases_lt m n) [ inl less ↦ inr less | inr more ↦ inl (omega arith) ]

-- two such lists with the same numbers are one
pub intervals_are_one : (is js : List GnoInterval) (low : ℕ) → AreApart low is → AreApart low js → ((n : ℕ) → is_held is n ≡ is_held js n) → is ≡ js
intervals_are_one [] [] low a b same = refl
intervals_are_one [] (j ∷ js) low a b same = absurd (no_both (is_held (j ∷ js) j.start) (within_first j js j.start (omega arith) b.1) (sym (same j.start)))
intervals_are_one (i ∷ is) [] low a b same = absurd (no_both (is_held (i ∷ is) i.start) (within_first i is i.start (omega arith) a.1) (same i.start))
intervals_are_one (i ∷ is) (j ∷ js) low a b same =
    let first : i ≡ j = firsts_same i j is js low a b same in
    let other : AreApart i.end js = rw first b.3 in
    let agree : (n : ℕ) → is_held (i ∷ is) n ≡ is_held (i ∷ js) n = λ n. same n ∙ ap (λ (k : GnoInterval). is_held (k ∷ js) n) (sym first) in
    let rest : is ≡ js = intervals_are_one is js i.end a.3 other (λ n. rest_by i is js n a.3 other (agree n) (up_or_above i.end n)) in
    ap (λ (k : GnoInterval). k ∷ is) first ∙ ap (λ (ks : List GnoInterval). j ∷ ks) rest

-- a source and a tag with the same numbers have the same line
pub lines_are_one : (sid : List ℕ) (tag : Option (List ℕ)) (is js : List GnoInterval) (line other : List ℕ) → IsGroupLine sid tag is line → IsGroupLine sid tag js other
    → ((n : ℕ) → is_held is n ≡ is_held js n) → line ≡ other
lines_are_one sid tag is js line other a b same =
    let numbers : is ≡ js = intervals_are_one is js 0 a.apart b.apart same in
    let gaps : a.gaps ≡ b.gaps = intervals_are_one a.gaps b.gaps 0 a.gaps_apart b.gaps_apart (λ n. a.missing n ∙ ap (λ (ks : List GnoInterval). is_missing ks n) numbers ∙ sym (b.missing n)) in
    a.text ∙ ap (λ (ks : List GnoInterval). group_line sid tag ks (Some a.gaps)) numbers ∙ ap (λ (ks : List GnoInterval). group_line sid tag js (Some ks)) gaps ∙ sym b.text
