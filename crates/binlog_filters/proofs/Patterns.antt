-- How the ends of a name match a pattern, and which names do.
use Rattle.std.proofs.Common.{◌≡◌, inl, inr, ℕ, suc, zero, ◌+◌, ◌<◌, Bool, true, false, ◌||◌, List, [], ◌∷◌, ◌++◌, length, take, drop, Some, None, refl, sym, ap, subst, ◌∙◌, arith}
use Rattle.std.specs.Prelude.{◌==◌, ◌↔◌, if◌then◌else◌}
use Rattle.std.proofs.lemmas.Bool.{eqb-true, eq-eqb}
use Rattle.std.proofs.lemmas.List.{take-append-drop, drop-drop, length-drop}
use Rattle.std.proofs.Math.Seq.{drop-append_seam}
use Rattle.binlog_filters.specs.Patterns.{StandsFor, Matches, is_any_end, stands_for, is_one_and, is_empty, is_match, some_end, Rest, front_behind, front}

-- ---- ends of a list

-- An end that is so.
record End (is : List ℕ → Bool) (xs : List ℕ) : Type 0 where
  at : ℕ
  so : is (drop at xs) ≡ true

end_later : (is : List ℕ → Bool) (x : ℕ) (xs : List ℕ) → End is xs → End is (x ∷ xs)
end_later is x xs end = record { at = suc end.at; so = end.so }

end_by : (is : List ℕ → Bool) (x : ℕ) (xs : List ℕ) (b : Bool) → is (x ∷ xs) ≡ b → (is_any_end is xs ≡ true → End is xs) → (b || is_any_end is xs) ≡ true → End is (x ∷ xs)
end_by is x xs true now later any = record { at = 0; so = now }
end_by is x xs false now later any = end_later is x xs (later any)

end_of : (is : List ℕ → Bool) (xs : List ℕ) → is_any_end is xs ≡ true → End is xs
end_of is [] any = record { at = 0; so = any }
end_of is (x ∷ xs) any = end_by is x xs (is (x ∷ xs)) refl (end_of is xs) any

or_right : (a b : Bool) → b ≡ true → (a || b) ≡ true
or_right true b is = refl
or_right false b is = is

or_left : (a b : Bool) → a ≡ true → (a || b) ≡ true
or_left true b is = refl
or_left false b is = absurd cc

any_first : (is : List ℕ → Bool) (xs : List ℕ) → is xs ≡ true → is_any_end is xs ≡ true
any_first is [] so = so
any_first is (x ∷ xs) so = or_left (is (x ∷ xs)) (is_any_end is xs) so

any_of : (is : List ℕ → Bool) (at : ℕ) (xs : List ℕ) → is (drop at xs) ≡ true → is_any_end is xs ≡ true
any_of is zero xs so = any_first is xs so
any_of is (suc at) [] so = so
any_of is (suc at) (x ∷ xs) so = or_right (is (x ∷ xs)) (is_any_end is xs) (any_of is at xs so)

-- ---- the front of a pattern

-- What a pattern's front tells of the name.
abbrev told : Rest → Bool
told None = false
told (Some None) = true
told (Some (Some rest)) = some_end rest.0 rest.1

tells_one : (pattern : List ℕ) (wanted byte : ℕ) (name : List ℕ) (b : Bool) → is_match pattern name ≡ told (front pattern name)
    → (if b then is_match pattern name else false) ≡ told (if b then front pattern name else None)
tells_one pattern wanted byte name true same = same
tells_one pattern wanted byte name false same = refl

tells_behind : (pattern : List ℕ) (wanted : ℕ) (name : List ℕ) (b : Bool) → ((left : List ℕ) → is_match pattern left ≡ told (front pattern left))
    → (if b then is_any_end (is_match pattern) name else is_one_and (is_match pattern) wanted name) ≡ told (if b then Some (Some (pattern, name)) else front_behind (front pattern) wanted name)
tells_behind pattern wanted name true same = refl
tells_behind pattern wanted [] false same = refl
tells_behind pattern wanted (byte ∷ name) false same = tells_one pattern wanted byte name (stands_for wanted byte) (same name)

tells_end : (name : List ℕ) → is_empty name ≡ told (if is_empty name then Some None else None)
tells_end [] = refl
tells_end (byte ∷ name) = refl

tells : (pattern name : List ℕ) → is_match pattern name ≡ told (front pattern name)
tells [] name = tells_end name
tells (wanted ∷ pattern) name = tells_behind pattern wanted name (wanted == 42) (λ left. tells pattern left)

-- Behind the first `*`: this much of the name is taken, and any other name that matches has an end behind as much of it that matches
-- what is behind the `*`.
record Greedy (pattern : List ℕ) (is : List ℕ → Bool) (name behind left : List ℕ) : Type 0 where
  at : ℕ
  is_left : left ≡ drop at name
  fewer : length behind < length pattern
  every : (other : List ℕ) → is other ≡ true → some_end behind (drop at other) ≡ true

abbrev IsGreedy : List ℕ → Type 0
IsGreedy pattern = (name behind left : List ℕ) → front pattern name ≡ Some (Some (behind, left)) → Greedy pattern (is_match pattern) name behind left

every_one : (pattern behind : List ℕ) (wanted at : ℕ) → ((other : List ℕ) → is_match pattern other ≡ true → some_end behind (drop at other) ≡ true)
    → (byte : ℕ) (other : List ℕ) (b : Bool) → (if b then is_match pattern other else false) ≡ true → some_end behind (drop at other) ≡ true
every_one pattern behind wanted at every byte other true is = every other is
every_one pattern behind wanted at every byte other false is = absurd cc

every_behind : (pattern behind : List ℕ) (wanted at : ℕ) → ((other : List ℕ) → is_match pattern other ≡ true → some_end behind (drop at other) ≡ true)
    → (other : List ℕ) → is_one_and (is_match pattern) wanted other ≡ true → some_end behind (drop (suc at) other) ≡ true
every_behind pattern behind wanted at every [] is = absurd cc
every_behind pattern behind wanted at every (byte ∷ other) is = every_one pattern behind wanted at every byte other (stands_for wanted byte) is

greedy_one : (pattern : List ℕ) (wanted byte : ℕ) (name behind left : List ℕ) (b : Bool) → IsGreedy pattern → (if b then front pattern name else None) ≡ Some (Some (behind, left))
    → Greedy (wanted ∷ pattern) (is_one_and (is_match pattern) wanted) (byte ∷ name) behind left
greedy_one pattern wanted byte name behind left true greedy found =
    let one = greedy name behind left found in
    record {
      at = suc one.at;
      is_left = one.is_left;
      fewer = omega (arith, one.fewer);
      every = every_behind pattern behind wanted one.at one.every;
    }
greedy_one pattern wanted byte name behind left false greedy found = absurd cc

rest_of : (rest other : List ℕ × List ℕ) → Some (Some rest) ≡ Some (Some other) → rest ≡ other
rest_of rest other same = cc

greedy_behind : (pattern : List ℕ) (wanted : ℕ) (name behind left : List ℕ) (b : Bool) → IsGreedy pattern
    → (if b then Some (Some (pattern, name)) else front_behind (front pattern) wanted name) ≡ Some (Some (behind, left))
    → Greedy (wanted ∷ pattern) (λ other. if b then is_any_end (is_match pattern) other else is_one_and (is_match pattern) wanted other) name behind left
greedy_behind pattern wanted name behind left true greedy found =
    let same = rest_of (pattern, name) (behind, left) found in
    let is_behind : pattern ≡ behind = ap (λ (x : List ℕ × List ℕ). x.0) same in
    record {
      at = 0;
      is_left = sym (ap (λ (x : List ℕ × List ℕ). x.1) same);
      fewer = subst (λ (x : List ℕ). length x < length (wanted ∷ pattern)) is_behind (omega arith);
      every = λ other is. subst (λ (x : List ℕ). some_end x other ≡ true) is_behind is;
    }
greedy_behind pattern wanted [] behind left false greedy found = absurd cc
greedy_behind pattern wanted (byte ∷ name) behind left false greedy found = greedy_one pattern wanted byte name behind left (stands_for wanted byte) greedy found

greedy_end : (name behind left : List ℕ) → front [] name ≡ Some (Some (behind, left)) → Greedy [] is_empty name behind left
greedy_end [] behind left found = absurd cc
greedy_end (byte ∷ name) behind left found = absurd cc

greedy : (pattern name behind left : List ℕ) → front pattern name ≡ Some (Some (behind, left)) → Greedy pattern (is_match pattern) name behind left
greedy [] name behind left found = greedy_end name behind left found
greedy (wanted ∷ pattern) name behind left found = greedy_behind pattern wanted name behind left (wanted == 42) (λ n b l f. greedy pattern n b l f) found

-- ---- the ends of a name

both_true : (a b : Bool) → (a ≡ true → b ≡ true) → (b ≡ true → a ≡ true) → a ≡ b
both_true true b to from = sym (to refl)
both_true false true to from = from refl
both_true false false to from = refl

pub whole_found : (pattern name : List ℕ) → front pattern name ≡ Some None → some_end pattern name ≡ true
whole_found pattern name found = any_first (is_match pattern) name (tells pattern name ∙ ap told found)

pub none_found : (pattern name : List ℕ) → length name ≡ 0 → front pattern name ≡ None → some_end pattern name ≡ false
none_found pattern [] none found = tells pattern [] ∙ ap told found
none_found pattern (byte ∷ name) none found = absurd (omega (arith, none))

pub later_found : (pattern : List ℕ) (byte : ℕ) (name : List ℕ) → front pattern (byte ∷ name) ≡ None → some_end pattern (byte ∷ name) ≡ some_end pattern name
later_found pattern byte name found = ap (λ (b : Bool). b || some_end pattern name) (tells pattern (byte ∷ name) ∙ ap told found)

pub star_found : (pattern name behind left : List ℕ) → front pattern name ≡ Some (Some (behind, left)) → some_end pattern name ≡ some_end behind left
star_found pattern name behind left found =
    let one = greedy pattern name behind left found in
    both_true (some_end pattern name) (some_end behind left)
    (λ any.
    let here = end_of (is_match pattern) name any in
    let there = end_of (is_match behind) (drop one.at (drop here.at name)) (one.every (drop here.at name) here.so) in
    let same : drop there.at (drop one.at (drop here.at name)) ≡ drop (here.at + there.at) left =
    ap (drop there.at) (drop-drop one.at here.at name)
    ∙ drop-drop there.at (here.at + one.at) name
    ∙ ap (λ (n : ℕ). drop n name) (omega arith)
    ∙ sym (drop-drop (here.at + there.at) one.at name)
    ∙ ap (drop (here.at + there.at)) (sym one.is_left) in
    any_of (is_match behind) (here.at + there.at) left (ap (is_match behind) (sym same) ∙ there.so))
    (λ any. any_first (is_match pattern) name (tells pattern name ∙ ap told found ∙ any))

pub star_shorter : (pattern name behind left : List ℕ) → front pattern name ≡ Some (Some (behind, left)) → length behind + length left < length pattern + length name
star_shorter pattern name behind left found =
    let one = greedy pattern name behind left found in
    omega (arith, one.fewer, ap length one.is_left, length-drop one.at name)

pub told_by_front : (pattern name : List ℕ) (answer : Bool) → told (front pattern name) ≡ answer → is_match pattern name ≡ answer
told_by_front pattern name answer is = tells pattern name ∙ is

-- ---- which names match

matched_part : (wanted byte : ℕ) (b : Bool) → (wanted == 63) ≡ b → (b || (byte == wanted)) ≡ true → StandsFor wanted (byte ∷ [])
matched_part wanted byte true any is = inr (inl (eqb-true wanted 63 any, refl))
matched_part wanted byte false any is = inr (inr (ap (λ (b : ℕ). b ∷ []) (eqb-true byte wanted is)))

matched_one : (pattern : List ℕ) (wanted byte : ℕ) (name : List ℕ) (b : Bool) → stands_for wanted byte ≡ b → (is_match pattern name ≡ true → Matches pattern name)
    → (if b then is_match pattern name else false) ≡ true → Matches (wanted ∷ pattern) (byte ∷ name)
matched_one pattern wanted byte name true stands matched is = (byte ∷ [], name, refl, matched_part wanted byte (wanted == 63) refl stands, matched is)
matched_one pattern wanted byte name false stands matched is = absurd cc

matched_behind : (pattern : List ℕ) (wanted : ℕ) (name : List ℕ) (b : Bool) → (wanted == 42) ≡ b → ((left : List ℕ) → is_match pattern left ≡ true → Matches pattern left)
    → (if b then is_any_end (is_match pattern) name else is_one_and (is_match pattern) wanted name) ≡ true → Matches (wanted ∷ pattern) name
matched_behind pattern wanted name true star matched is =
    let end = end_of (is_match pattern) name is in
    (take end.at name, drop end.at name, sym (take-append-drop end.at name), inl (eqb-true wanted 42 star), matched (drop end.at name) end.so)
matched_behind pattern wanted [] false star matched is = absurd cc
matched_behind pattern wanted (byte ∷ name) false star matched is = matched_one pattern wanted byte name (stands_for wanted byte) refl (matched name) is

matched_end : (name : List ℕ) → is_empty name ≡ true → name ≡ []
matched_end [] is = refl
matched_end (byte ∷ name) is = absurd cc

matched : (pattern name : List ℕ) → is_match pattern name ≡ true → Matches pattern name
matched [] name is = matched_end name is
matched (wanted ∷ pattern) name is = matched_behind pattern wanted name (wanted == 42) refl (λ left. matched pattern left) is

star_matches : (pattern part rest : List ℕ) → is_match pattern rest ≡ true → is_any_end (is_match pattern) (part ++ rest) ≡ true
star_matches pattern part rest is =
    any_of (is_match pattern) (length part) (part ++ rest) (ap (is_match pattern) (drop-append_seam part rest) ∙ is)

one_matches : (pattern : List ℕ) (wanted byte : ℕ) (rest : List ℕ) (b : Bool) → b ≡ true → is_match pattern rest ≡ true → (if b then is_match pattern rest else false) ≡ true
one_matches pattern wanted byte rest true stands is = is
one_matches pattern wanted byte rest false stands is = absurd cc

any_matches : (pattern : List ℕ) (wanted : ℕ) (part rest : List ℕ) → wanted ≡ 63 → length part ≡ 1 → is_match pattern rest ≡ true → is_one_and (is_match pattern) wanted (part ++ rest) ≡ true
any_matches pattern wanted [] rest any one is = absurd (omega (arith, one))
any_matches pattern wanted (byte ∷ []) rest any one is =
    one_matches pattern wanted byte rest (stands_for wanted byte) (or_left (wanted == 63) (byte == wanted) (eq-eqb wanted 63 any)) is
any_matches pattern wanted (byte ∷ next ∷ part) rest any one is = absurd (omega (arith, one))

part_matches : (pattern : List ℕ) (wanted : ℕ) (part rest : List ℕ) (b : Bool) → (wanted == 42) ≡ b → StandsFor wanted part → is_match pattern rest ≡ true
    → (if b then is_any_end (is_match pattern) (part ++ rest) else is_one_and (is_match pattern) wanted (part ++ rest)) ≡ true
part_matches pattern wanted part rest true star stands is = star_matches pattern part rest is
part_matches pattern wanted part rest false star (inl same) is = absurd (let not : true ≡ false = sym (eq-eqb wanted 42 same) ∙ star in cc)
part_matches pattern wanted part rest false star (inr (inl any)) is = any_matches pattern wanted part rest any.0 any.1 is
part_matches pattern wanted part rest false star (inr (inr same)) is =
    subst (λ (p : List ℕ). is_one_and (is_match pattern) wanted (p ++ rest) ≡ true) (sym same)
    (one_matches pattern wanted wanted rest (stands_for wanted wanted) (or_right (wanted == 63) (wanted == wanted) (eq-eqb wanted wanted refl)) is)

matches : (pattern name : List ℕ) → Matches pattern name → is_match pattern name ≡ true
matches [] name none = ap is_empty none
matches (wanted ∷ pattern) name parts =
    subst (λ (n : List ℕ). is_match (wanted ∷ pattern) n ≡ true) (sym parts.2)
    (part_matches pattern wanted parts.0 parts.1 (wanted == 42) refl parts.3 (matches pattern parts.1 parts.4))

pub matches_exactly : (pattern name : List ℕ) → (is_match pattern name ≡ true ↔ Matches pattern name)
matches_exactly pattern name = (matched pattern name, matches pattern name)
