-- Transactions that touch a table, with one fact more.
use Rattle.std.proofs.Common.{◌≡◌, ℕ, ◌+◌, Bool, true, false, cond, ◌&&◌, ◌||◌, not, List, [], ◌∷◌, ◌++◌, refl, sym, ap, ◌∙◌, arith}
use Rattle.std.specs.Prelude.{count_by}
use Rattle.std.specs.List.{list_any}
use Rattle.std.proofs.lemmas.List.Folds.{list_any-append}
use Rattle.std.proofs.lemmas.List.Sums.{sum_by-cons}
use Rattle.change_statistics.specs.Facts.{Name, Fact}
use Rattle.change_statistics.specs.WholeCounts.{is_of, begins, until_begin, transactions_in, touches}

abbrev has_begin : List Fact → Bool
has_begin facts = list_any begins facts

begin_more : (facts : List Fact) (fact : Fact) → has_begin (facts ++ fact ∷ []) ≡ has_begin facts || fact.begins
begin_more [] fact = or_false fact.begins
  where
    or_false : (b : Bool) → (b || false) ≡ b
    or_false true = refl
    or_false false = refl
begin_more (x ∷ facts) fact = ap (λ (b : Bool). x.begins || b) (begin_more facts fact) ∙ or_or x.begins (has_begin facts) fact.begins
  where
    or_or : (a b c : Bool) → (a || (b || c)) ≡ ((a || b) || c)
    or_or true b c = refl
    or_or false b c = refl

-- ---- the facts before the first transaction

until_kept : (facts more : List Fact) → has_begin facts ≡ true → until_begin (facts ++ more) ≡ until_begin facts
until_kept [] more has = absurd cc
until_kept (x ∷ facts) more has = by (λ h. until_kept facts more h) x.begins refl
  where
    by : (has_begin facts ≡ true → until_begin (facts ++ more) ≡ until_begin facts) → (b : Bool) → x.begins ≡ b → cond x.begins [] (x ∷ until_begin (facts ++ more)) ≡ cond x.begins [] (x ∷ until_begin facts)
    by kept true is = rw is refl
    by kept false is =
        let rest : has_begin facts ≡ true = sym (ap (λ (c : Bool). c || has_begin facts) is) ∙ has in
        ap (λ (c : Bool). cond c [] (x ∷ until_begin (facts ++ more))) is ∙ ap (λ (l : List Fact). x ∷ l) (kept rest)
        ∙ sym (ap (λ (c : Bool). cond c [] (x ∷ until_begin facts)) is)

until_all : (facts : List Fact) → has_begin facts ≡ false → until_begin facts ≡ facts
until_all [] none = refl
until_all (x ∷ facts) none = by (λ h. until_all facts h) x.begins refl
  where
    by : (has_begin facts ≡ false → until_begin facts ≡ facts) → (b : Bool) → x.begins ≡ b → cond x.begins [] (x ∷ until_begin facts) ≡ x ∷ facts
    by all true is = absurd (let same : true ≡ false = sym (ap (λ (c : Bool). c || has_begin facts) is) ∙ none in cc)
    by all false is =
        let rest : has_begin facts ≡ false = sym (ap (λ (c : Bool). c || has_begin facts) is) ∙ none in
        ap (λ (c : Bool). cond c [] (x ∷ until_begin facts)) is ∙ ap (λ (l : List Fact). x ∷ l) (all rest)

until_more : (facts : List Fact) (fact : Fact) → has_begin facts ≡ false → until_begin (facts ++ fact ∷ []) ≡ facts ++ cond fact.begins [] (fact ∷ [])
until_more [] fact none = refl
until_more (x ∷ facts) fact none = by (λ h. until_more facts fact h) x.begins refl
  where
    by : (has_begin facts ≡ false → until_begin (facts ++ fact ∷ []) ≡ facts ++ cond fact.begins [] (fact ∷ [])) → (b : Bool) → x.begins ≡ b → cond x.begins [] (x ∷ until_begin (facts ++ fact ∷ [])) ≡ x ∷ (facts ++ cond fact.begins [] (fact ∷ []))
    by all true is = absurd (let same : true ≡ false = sym (ap (λ (c : Bool). c || has_begin facts) is) ∙ none in cc)
    by all false is =
        let rest : has_begin facts ≡ false = sym (ap (λ (c : Bool). c || has_begin facts) is) ∙ none in
        ap (λ (c : Bool). cond c [] (x ∷ until_begin (facts ++ fact ∷ []))) is ∙ ap (λ (l : List Fact). x ∷ l) (all rest)

-- ---- transactions of a table

abbrev one_if : Bool → ℕ
one_if b = cond b 1 0

module _ (name : Name) where
  -- The number of transactions that touch the table.
  abbrev pub touching : List Fact → ℕ
  touching facts = count_by (touches name) (transactions_in facts)

  -- The facts end in a transaction, and none of its events so far has rows of the table.
  abbrev pub is_open : List Fact → Bool
  is_open [] = false
  is_open (fact ∷ facts) = cond (has_begin facts) (is_open facts) (fact.begins && not (is_of name fact || touches name facts))

  never_open : (facts : List Fact) → has_begin facts ≡ false → is_open facts ≡ false
  never_open [] none = refl
  never_open (x ∷ facts) none = by x.begins (has_begin facts) refl refl
    where
      by : (b h : Bool) → x.begins ≡ b → has_begin facts ≡ h → cond (has_begin facts) (is_open facts) (x.begins && not (is_of name x || touches name facts)) ≡ false
      by true h is rest = absurd (let same : true ≡ false = sym (ap (λ (c : Bool). c || has_begin facts) is) ∙ none in cc)
      by false true is rest = absurd (let same : true ≡ false = sym (ap (λ (c : Bool). x.begins || c) rest ∙ ap (λ (c : Bool). c || true) is) ∙ none in cc)
      by false false is rest = rw (is, rest) refl

  none_touching : (facts : List Fact) → has_begin facts ≡ false → transactions_in facts ≡ []
  none_touching [] none = refl
  none_touching (x ∷ facts) none = by (λ h. none_touching facts h) x.begins refl
    where
      by : (has_begin facts ≡ false → transactions_in facts ≡ []) → (b : Bool) → x.begins ≡ b → cond x.begins ((x ∷ until_begin facts) ∷ transactions_in facts) (transactions_in facts) ≡ []
      by all true is = absurd (let same : true ≡ false = sym (ap (λ (c : Bool). c || has_begin facts) is) ∙ none in cc)
      by all false is =
          let rest : has_begin facts ≡ false = sym (ap (λ (c : Bool). c || has_begin facts) is) ∙ none in
          rw is (all rest)

  -- The first transaction, if one begins with the first fact.
  front : (b : Bool) (first : List Fact) (others : List (List Fact)) → count_by (touches name) (cond b (first ∷ others) others) ≡ cond b (cond (touches name first) 1 0) 0 + count_by (touches name) others
  front true first others = sum_by-cons (λ (t : List Fact). cond (touches name t) 1 0) first others
  front false first others = omega arith

  abbrev Front : Fact → List Fact → ℕ
  Front x facts = cond x.begins (cond (touches name (x ∷ until_begin facts)) 1 0) 0

  touching_front : (x : Fact) (facts : List Fact) → touching (x ∷ facts) ≡ Front x facts + touching facts
  touching_front x facts = front x.begins (x ∷ until_begin facts) (transactions_in facts)

  -- One fact more in the transaction that the first fact begins, where no other begins one.
  in_first : (bx ox ax bf of : Bool) → cond bx (cond (ox || (ax || (not bf && of))) 1 0) 0 + cond (of && (bf || false)) 1 0
      ≡ cond bx (cond (ox || ax) 1 0) 0 + cond (of && (bf || (bx && not (ox || ax)))) 1 0
  in_first true true ax true true = refl
  in_first true true ax true false = refl
  in_first true true ax false true = refl
  in_first true true ax false false = refl
  in_first true false true true true = refl
  in_first true false true true false = refl
  in_first true false true false true = refl
  in_first true false true false false = refl
  in_first true false false true true = refl
  in_first true false false true false = refl
  in_first true false false false true = refl
  in_first true false false false false = refl
  in_first false ox ax true true = refl
  in_first false ox ax true false = refl
  in_first false ox ax false true = refl
  in_first false ox ax false false = refl

  touched_more : (facts : List Fact) (fact : Fact) (b : Bool) → touches name (facts ++ cond b [] (fact ∷ [])) ≡ touches name facts || (not b && is_of name fact)
  touched_more facts fact true = list_any-append (is_of name) facts []
  touched_more facts fact false = list_any-append (is_of name) facts (fact ∷ []) ∙ ap (λ (b : Bool). touches name facts || b) (or_false (is_of name fact))
    where
      or_false : (b : Bool) → (b || false) ≡ b
      or_false true = refl
      or_false false = refl

  alone : (b of : Bool) → cond b (cond (of || false) 1 0) 0 + 0 ≡ 0 + cond (of && (b || false)) 1 0
  alone true true = refl
  alone true false = refl
  alone false true = refl
  alone false false = refl

  pub touching_more : (facts : List Fact) (fact : Fact) → touching (facts ++ fact ∷ []) ≡ touching facts + cond (is_of name fact && (fact.begins || is_open facts)) 1 0
  touching_more [] fact = touching_front fact [] ∙ alone fact.begins (is_of name fact)
  touching_more (x ∷ facts) fact = by (touching_front x (facts ++ fact ∷ []) ∙ ap (λ (n : ℕ). Front x (facts ++ fact ∷ []) + n) (touching_more facts fact)) (has_begin facts) refl
    where
      by : touching (x ∷ (facts ++ fact ∷ [])) ≡ Front x (facts ++ fact ∷ []) + (touching facts + cond (is_of name fact && (fact.begins || is_open facts)) 1 0)
          → (h : Bool) → has_begin facts ≡ h → touching (x ∷ (facts ++ fact ∷ [])) ≡ touching (x ∷ facts) + cond (is_of name fact && (fact.begins || is_open (x ∷ facts))) 1 0
      by whole true has =
          let same : Front x (facts ++ fact ∷ []) ≡ Front x facts = ap (λ (l : List Fact). cond x.begins (one_if (touches name (x ∷ l))) 0) (until_kept facts (fact ∷ []) has) in
          let still : is_open (x ∷ facts) ≡ is_open facts = ap (λ (c : Bool). cond c (is_open facts) (x.begins && not (is_of name x || touches name facts))) has in
          let end : one_if (is_of name fact && (fact.begins || is_open (x ∷ facts))) ≡ one_if (is_of name fact && (fact.begins || is_open facts)) = ap (λ (c : Bool). one_if (is_of name fact && (fact.begins || c))) still in
          omega (arith, whole, same, touching_front x facts, end)
      by whole false has =
          let now : Front x (facts ++ fact ∷ []) ≡ cond x.begins (one_if (is_of name x || (touches name facts || (not fact.begins && is_of name fact)))) 0 =
          ap (λ (l : List Fact). cond x.begins (one_if (touches name (x ∷ l))) 0) (until_more facts fact has)
          ∙ ap (λ (c : Bool). cond x.begins (one_if (is_of name x || c)) 0) (touched_more facts fact fact.begins) in
          let was : Front x facts ≡ cond x.begins (one_if (is_of name x || touches name facts)) 0 = ap (λ (l : List Fact). cond x.begins (one_if (touches name (x ∷ l))) 0) (until_all facts has) in
          let shut : one_if (is_of name fact && (fact.begins || is_open facts)) ≡ one_if (is_of name fact && (fact.begins || false)) = ap (λ (c : Bool). one_if (is_of name fact && (fact.begins || c))) (never_open facts has) in
          let opened : one_if (is_of name fact && (fact.begins || is_open (x ∷ facts))) ≡ one_if (is_of name fact && (fact.begins || (x.begins && not (is_of name x || touches name facts)))) =
          ap (λ (h : Bool). one_if (is_of name fact && (fact.begins || cond h (is_open facts) (x.begins && not (is_of name x || touches name facts))))) has in
          omega (arith, whole, now, was, shut, opened, touching_front x facts, in_first x.begins (is_of name x) (touches name facts) fact.begins (is_of name fact))

  opens_alone : (b of : Bool) → (b && not (of || false)) ≡ ((b || false) && not of)
  opens_alone true true = refl
  opens_alone true false = refl
  opens_alone false of = refl

  stays_open : (bx ox ax of : Bool) → (bx && not (ox || (ax || of))) ≡ ((bx && not (ox || ax)) && not of)
  stays_open true true ax of = refl
  stays_open true false true of = refl
  stays_open true false false of = refl
  stays_open false ox ax of = refl

  pub open_more : (facts : List Fact) (fact : Fact) → is_open (facts ++ fact ∷ []) ≡ (fact.begins || is_open facts) && not (is_of name fact)
  open_more [] fact = opens_alone fact.begins (is_of name fact)
  open_more (x ∷ facts) fact = by (open_more facts fact) (has_begin facts) fact.begins refl refl
    where
      by : is_open (facts ++ fact ∷ []) ≡ (fact.begins || is_open facts) && not (is_of name fact) → (h b : Bool) → has_begin facts ≡ h → fact.begins ≡ b → is_open (x ∷ (facts ++ fact ∷ [])) ≡ (fact.begins || is_open (x ∷ facts)) && not (is_of name fact)
      by more_open true b has is =
          let more : has_begin (facts ++ fact ∷ []) ≡ true = begin_more facts fact ∙ ap (λ (c : Bool). c || fact.begins) has in
          let now : is_open (x ∷ (facts ++ fact ∷ [])) ≡ is_open (facts ++ fact ∷ []) = ap (λ (c : Bool). cond c (is_open (facts ++ fact ∷ [])) (x.begins && not (is_of name x || touches name (facts ++ fact ∷ [])))) more in
          let was : is_open (x ∷ facts) ≡ is_open facts = ap (λ (c : Bool). cond c (is_open facts) (x.begins && not (is_of name x || touches name facts))) has in
          now ∙ more_open ∙ ap (λ (c : Bool). (fact.begins || c) && not (is_of name fact)) (sym was)
      by more_open false true has is =
          let more : has_begin (facts ++ fact ∷ []) ≡ true = begin_more facts fact ∙ ap (λ (c : Bool). c || fact.begins) has ∙ is in
          let now : is_open (x ∷ (facts ++ fact ∷ [])) ≡ is_open (facts ++ fact ∷ []) = ap (λ (c : Bool). cond c (is_open (facts ++ fact ∷ [])) (x.begins && not (is_of name x || touches name (facts ++ fact ∷ [])))) more in
          now ∙ more_open ∙ ap (λ (c : Bool). (c || is_open facts) && not (is_of name fact)) is
          ∙ sym (ap (λ (c : Bool). (c || is_open (x ∷ facts)) && not (is_of name fact)) is)
      by more_open false false has is =
          let more : has_begin (facts ++ fact ∷ []) ≡ false = begin_more facts fact ∙ ap (λ (c : Bool). c || fact.begins) has ∙ is in
          let now : is_open (x ∷ (facts ++ fact ∷ [])) ≡ x.begins && not (is_of name x || touches name (facts ++ fact ∷ [])) =
          ap (λ (c : Bool). cond c (is_open (facts ++ fact ∷ [])) (x.begins && not (is_of name x || touches name (facts ++ fact ∷ [])))) more in
          let any : touches name (facts ++ fact ∷ []) ≡ touches name facts || is_of name fact = touched_more facts fact false in
          let was : is_open (x ∷ facts) ≡ x.begins && not (is_of name x || touches name facts) = ap (λ (c : Bool). cond c (is_open facts) (x.begins && not (is_of name x || touches name facts))) has in
          now ∙ ap (λ (c : Bool). x.begins && not (is_of name x || c)) any ∙ stays_open x.begins (is_of name x) (touches name facts) (is_of name fact)
          ∙ ap (λ (c : Bool). c && not (is_of name fact)) (sym was) ∙ sym (ap (λ (c : Bool). (c || is_open (x ∷ facts)) && not (is_of name fact)) is)
