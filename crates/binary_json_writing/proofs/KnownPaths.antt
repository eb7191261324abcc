-- The legs of a path, by a function, are those that it spells.
use Rattle.std.proofs.Common.{◌≡◌, ℕ, zero, suc, ◌<◌, ◌≤◌, eqb, cond, Bool, true, false, List, [], ◌∷◌, length, take, drop, Option, Some, None, Ok, Err, refl, sym, ap, subst, ◌∙◌, inl, inr, arith}
use Rattle.std.specs.Prelude.{option_map, ◌||◌, nat_lt}
use Rattle.std.specs.Char.{is_ascii_digit}
use Rattle.std.specs.List.{prefix_len}
use Rattle.std.specs.Str.Parse.{digits_value}
use Rattle.std.proofs.lemmas.List.{length-drop}
use Rattle.binary_json_writing.specs.Paths.{Leg, member, element, from_end, Read, behind, is_name_byte, begins_with_digit, bare_in, hex_of, escape_of, ascii_of, unicode_in, escape_by, escape_in, unit_in, Spells, small_number, number_in, closed_by, closed, and_next, last_in, from_last, place_by, place_in, IsQuoted, named, IsNamed, IsPlaced, IsLegBy, IsLegIn, AreLegs, IsPath, IsRefusedPath, if_read, name_in, named_in, placed_in, leg_by, leg_in, legs_in, path_legs}
use Rattle.binary_json_writing.specs.declared.paths.JsonPathError.{JsonPathError}
use Rattle.binary_json_writing.proofs.OnePath.{no_leg}

abbrev ok : {A : Type 0} → A → Read A
ok x = Ok x

abbrev err : {A : Type 0} → JsonPathError → Read A
err e = Err e

abbrev some : {A : Type 0} → A → Option A
some x = Some x

abbrev none : {A : Type 0} → Option A
none = None

abbrev Name : Type 0
Name = List ℕ × List ℕ

abbrev First : Type 0
First = Leg × List ℕ

-- ---- what is left is shorter

behind_if : (c b : ℕ) (s rest : List ℕ) (same : Bool) → cond same (some s) none ≡ some rest → length rest ≡ length s
behind_if c b s rest true e = let same : s ≡ rest = cc in ap length (sym same)
behind_if c b s rest false e = absurd cc

behind_less : (b : ℕ) (s rest : List ℕ) → behind b s ≡ some rest → length rest < length s
behind_less b [] rest e = absurd cc
behind_less b (c ∷ s) rest e = omega (arith, behind_if c b s rest (eqb c b) e)

-- What is read leaves no more than there is.
abbrev Leaves : {A : Type 0} → Read (A × List ℕ) → ℕ → Type 0
Leaves {A} r n = (p : A × List ℕ) → r ≡ ok p → length p.1 ≤ n

leaves_ok : {A : Type 0} (q : A × List ℕ) (n : ℕ) → length q.1 ≤ n → Leaves (ok q) n
leaves_ok {A} q n few p e = let same : q ≡ p = cc in subst (λ (t : A × List ℕ). length t.1 ≤ n) same few

leaves_err : {A : Type 0} (e : JsonPathError) (n : ℕ) → Leaves {A = A} (err e) n
leaves_err e n p is = absurd cc

leaves_if : {A : Type 0} (b : Bool) (x y : Read (A × List ℕ)) (n : ℕ) → Leaves x n → Leaves y n → Leaves (cond b x y) n
leaves_if true x y n left right = left
leaves_if false x y n left right = right

ascii_leaves : (a b : Option ℕ) (s : List ℕ) → Leaves (ascii_of a b s) (length s)
ascii_leaves (Some high) (Some low) s = leaves_if (nat_lt high 8) _ _ (length s) (leaves_ok _ (length s) (omega arith)) (leaves_err _ (length s))
ascii_leaves (Some high) None s = leaves_err _ (length s)
ascii_leaves None b s = leaves_err _ (length s)

leaves_more : {A : Type 0} (r : Read (A × List ℕ)) (m n : ℕ) → m ≤ n → Leaves r m → Leaves r n
leaves_more r m n less leaves p e = omega (arith, less, leaves p e)

unicode_leaves : (s : List ℕ) → Leaves (unicode_in s) (length s)
unicode_leaves [] = leaves_err _ _
unicode_leaves (a ∷ []) = leaves_err _ _
unicode_leaves (a ∷ b ∷ []) = leaves_err _ _
unicode_leaves (a ∷ b ∷ c ∷ []) = leaves_err _ _
unicode_leaves (a ∷ b ∷ c ∷ d ∷ s) = leaves_if _ _ _ _ (leaves_more _ (length s) _ (omega arith) (ascii_leaves (hex_of c) (hex_of d) s)) (leaves_err _ _)

escape_by_leaves : (o : Option ℕ) (s : List ℕ) → Leaves (escape_by o s) (length s)
escape_by_leaves None s = leaves_err _ _
escape_by_leaves (Some c) s = leaves_ok (c, s) _ (omega arith)

escape_leaves : (s : List ℕ) → Leaves (escape_in s) (length s)
escape_leaves [] = leaves_err _ _
escape_leaves (e ∷ s) = leaves_if _ _ _ _ (leaves_more _ (length s) _ (omega arith) (unicode_leaves s)) (leaves_more _ (length s) _ (omega arith) (escape_by_leaves (escape_of e) s))

unit_less : (s : List ℕ) (p : ℕ × List ℕ) → unit_in s ≡ ok p → length p.1 < length s
unfolding unit_in
unit_less [] p e = absurd cc
unit_less (b ∷ s) p e = omega (arith, leaves_if (eqb b 92) (escape_in s) (ok (b, s)) (length s) (escape_leaves s) (leaves_ok (b, s) (length s) (omega arith)) p e)

spells_less : (name s rest : List ℕ) → Spells name s rest → length rest ≤ length s
spells_less [] s rest is = omega (arith, ap length is)
spells_less (c ∷ name) s rest is = omega (arith, unit_less s (c, is.1) is.2, spells_less name is.1 rest is.3)

named_leaves : (r : Read Name) (n : ℕ) → Leaves r n → Leaves (named r) n
named_leaves (Ok q) n leaves = leaves_ok (member q.0, q.1) n (leaves q refl)
named_leaves (Err e) n leaves = leaves_err e n

bare_leaves : (s : List ℕ) → Leaves (bare_in s) (length s)
unfolding bare_in
bare_leaves s =
    let k = prefix_len is_name_byte s in
    leaves_if (eqb k 0 || begins_with_digit s) _ (ok (take k s, drop k s)) (length s) (leaves_err _ _) (leaves_ok (take k s, drop k s) (length s) (omega (arith, length-drop k s)))

abbrev LeavesIf : {A : Type 0} → Option (A × List ℕ) → ℕ → Type 0
LeavesIf {A} o n = (p : A × List ℕ) → o ≡ some p → length p.1 ≤ n

small_leaves : (v : ℕ) (s : List ℕ) (n : ℕ) → length s ≤ n → LeavesIf (small_number v s) n
small_leaves v s n few p e = small (nat_lt v _) e where
  small : (b : Bool) → cond b (some (v, s)) none ≡ some p → length p.1 ≤ n
  small true is = let same : ◌≡◌ {A = ℕ × List ℕ} (v, s) p = cc in subst (λ (t : ℕ × List ℕ). length t.1 ≤ n) same few
  small false is = absurd cc

number_leaves : (s : List ℕ) → LeavesIf (number_in s) (length s)
unfolding number_in
number_leaves s p e = number (eqb k 0) e where
  k : ℕ
  k = prefix_len is_ascii_digit s

  number : (b : Bool) → cond b none (small_number (digits_value 10 (take k s)) (drop k s)) ≡ some p → length p.1 ≤ length s
  number true is = absurd cc
  number false is = small_leaves (digits_value 10 (take k s)) (drop k s) (length s) (omega (arith, length-drop k s)) p is

closed_by_leaves : (leg : ℕ → Leg) (n : ℕ) (o : Option (List ℕ)) (most : ℕ) → ((rest : List ℕ) → o ≡ some rest → length rest ≤ most) → Leaves (closed_by leg n o) most
closed_by_leaves leg n None most few = leaves_err _ most
closed_by_leaves leg n (Some rest) most few = leaves_ok (leg n, rest) most (few rest refl)

closed_leaves : (leg : ℕ → Leg) (o : Option (ℕ × List ℕ)) (most : ℕ) → LeavesIf o most → Leaves (closed leg o) most
closed_leaves leg None most few = leaves_err _ most
closed_leaves leg (Some q) most few = closed_by_leaves leg q.0 (behind 93 q.1) most (λ rest e. omega (arith, behind_less 93 q.1 rest e, few q refl))

from_last_leaves : (o : Option (List ℕ)) (s : List ℕ) (most : ℕ) → length s ≤ most → ((rest : List ℕ) → o ≡ some rest → length rest ≤ most) → Leaves (from_last o s) most
from_last_leaves None s most few fewer = closed_by_leaves from_end 0 (behind 93 s) most (λ rest e. omega (arith, behind_less 93 s rest e, few))
from_last_leaves (Some t) s most few fewer = closed_leaves from_end (number_in t) most (λ p e. omega (arith, number_leaves t p e, fewer t refl))

next_less : (b : ℕ) (o : Option (List ℕ)) (most : ℕ) → ((rest : List ℕ) → o ≡ some rest → length rest ≤ most) → (rest : List ℕ) → and_next o (λ s. behind b s) ≡ some rest → length rest ≤ most
next_less b None most few rest e = absurd cc
next_less b (Some s) most few rest e = omega (arith, few s refl, behind_less b s rest e)

and_next_less : (o : Option (List ℕ)) (f : List ℕ → Option (List ℕ)) (most : ℕ) → ((rest : List ℕ) → o ≡ some rest → length rest ≤ most)
    → ((s rest : List ℕ) → f s ≡ some rest → length rest ≤ length s) → (rest : List ℕ) → and_next o f ≡ some rest → length rest ≤ most
and_next_less None f most few fewer rest e = absurd cc
and_next_less (Some s) f most few fewer rest e = omega (arith, few s refl, fewer s rest e)

no_more : (b : ℕ) (s rest : List ℕ) → behind b s ≡ some rest → length rest ≤ length s
no_more b s rest e = let less = behind_less b s rest e in omega (arith, less)

last_less : (s rest : List ℕ) → last_in s ≡ some rest → length rest ≤ length s
last_less s rest e =
    and_next_less (behind 108 s) (λ t. and_next (behind 97 t) (λ u. and_next (behind 115 u) (λ v. behind 116 v))) (length s) (no_more 108 s)
    (λ t. and_next_less (behind 97 t) (λ u. and_next (behind 115 u) (λ v. behind 116 v)) (length t) (no_more 97 t)
    (λ u. and_next_less (behind 115 u) (λ v. behind 116 v) (length u) (no_more 115 u) (no_more 116)))
    rest e

place_by_leaves : (o : Option (List ℕ)) (s : List ℕ) → ((rest : List ℕ) → o ≡ some rest → length rest ≤ length s) → Leaves (place_by o s) (length s)
place_by_leaves None s few = closed_leaves element (number_in s) (length s) (number_leaves s)
place_by_leaves (Some t) s few = from_last_leaves (behind 45 t) t (length s) (few t refl) (λ rest e. omega (arith, behind_less 45 t rest e, few t refl))

place_leaves : (s : List ℕ) → Leaves (place_in s) (length s)
unfolding place_in
place_leaves s = place_by_leaves (last_in s) s (last_less s)

quoted_leaves : (q : Read Name) (s : List ℕ) → IsQuoted q s → Leaves q (length s)
quoted_leaves (Ok t) s is = leaves_ok t (length s) (omega (arith, spells_less t.0 s is.0 is.1, behind_less 34 is.0 t.1 is.2))
quoted_leaves (Err e) s is = leaves_err e (length s)

leaves_as : {A : Type 0} (r q : Read (A × List ℕ)) (n : ℕ) → r ≡ q → Leaves q n → Leaves r n
leaves_as r q n same leaves p e = leaves p (sym same ∙ e)

is_named_leaves : (r : Read First) (o : Option (List ℕ)) (s : List ℕ) → ((rest : List ℕ) → o ≡ some rest → length rest ≤ length s) → IsNamed r o s → Leaves r (length s)
is_named_leaves r (Some t) s few is =
    leaves_as r (named is.0) (length s) is.2 (leaves_more (named is.0) (length t) (length s) (few t refl) (named_leaves is.0 (length t) (quoted_leaves is.0 t is.1)))
is_named_leaves r None s few is = leaves_as r (named (bare_in s)) (length s) is (named_leaves (bare_in s) (length s) (bare_leaves s))

is_placed_leaves : (r : Read First) (o : Option (List ℕ)) (most : ℕ) → ((rest : List ℕ) → o ≡ some rest → length rest ≤ most) → IsPlaced r o → Leaves r most
is_placed_leaves r (Some t) most few is = leaves_as r (place_in t) most is (leaves_more (place_in t) (length t) most (few t refl) (place_leaves t))
is_placed_leaves r None most few is = leaves_as r (err _) most is (leaves_err _ most)

leg_by_less : (p : First) (o : Option (List ℕ)) (s : List ℕ) → ((rest : List ℕ) → o ≡ some rest → length rest < length s) → IsLegBy (ok p) o s → length p.1 < length s
leg_by_less p (Some t) s few is =
    let here = is_named_leaves (ok p) (behind 34 t) t (λ rest e. let less = behind_less 34 t rest e in omega (arith, less)) is p refl in
    omega (arith, here, few t refl)
leg_by_less p None s few is = placed s is where
  placed : (s : List ℕ) → IsPlaced (ok p) (behind 91 s) → length p.1 < length s
  placed [] h = absurd (let no : ok p ≡ err _ = h in cc)
  placed (b ∷ t) h = omega (arith, is_placed_leaves (ok p) (behind 91 (b ∷ t)) (length t) (λ rest e. let less = behind_less 91 (b ∷ t) rest e in omega (arith, less)) h p refl)

leg_less : (p : First) (s : List ℕ) → IsLegIn (ok p) s → length p.1 < length s
unfolding IsLegIn
leg_less p s is = leg_by_less p (behind 46 s) s (behind_less 46 s) is

-- ---- names in quotes

name_found : (most : ℕ) (name s others rest : List ℕ) → length s ≤ most → Spells name s others → behind 34 others ≡ some rest → name_in most s ≡ some (name, rest)
unfolding name_in
name_found zero [] s others rest few is end = absurd (let less = behind_less 34 others rest end in omega (arith, few, ap length is, less))
name_found zero (c ∷ name) s others rest few is end = absurd (let less = unit_less s (c, is.1) is.2 in omega (arith, few, less))
name_found (suc most) [] s others rest few is end = rw (ap (behind 34) is ∙ end) refl
name_found (suc most) (c ∷ name) s others rest few is end =
    let less = unit_less s (c, is.1) is.2 in
    let next : name_in most is.1 ≡ some (name, rest) = name_found most name is.1 others rest (omega (arith, few, less)) is.3 end in
    rw (is.0, is.2, next) refl

name_refused : (most : ℕ) (name s others : List ℕ) (e : JsonPathError) → Spells name s others → behind 34 others ≡ none → unit_in others ≡ err e → name_in most s ≡ none
unfolding name_in
name_refused zero name s others e is ends why = refl
name_refused (suc most) [] s others e is ends why = rw (ap (behind 34) is ∙ ends, ap unit_in is ∙ why) refl
name_refused (suc most) (c ∷ name) s others e is ends why =
    let next : name_in most is.1 ≡ none = name_refused most name is.1 others e is.3 ends why in
    rw (is.0, is.2, next) refl

quoted_known : (q : Read Name) (s : List ℕ) → IsQuoted q s → name_in (length s) s ≡ if_read q
quoted_known (Ok p) s is = name_found (length s) p.0 s is.0 p.1 (omega arith) is.1 is.2
quoted_known (Err e) s is = name_refused (length s) is.0 s is.1 e is.2 is.3 is.4

-- ---- legs

named_read : (q : Read Name) → option_map (λ (p : Name). (member p.0, p.1)) (if_read q) ≡ if_read (named q)
named_read (Ok p) = refl
named_read (Err e) = refl

named_known : (r : Read First) (o : Option (List ℕ)) (s : List ℕ) → IsNamed r o s → named_in o s ≡ if_read r
named_known r (Some t) s is =
    ap (λ (o : Option Name). option_map (λ (p : Name). (member p.0, p.1)) o) (quoted_known is.0 t is.1) ∙ named_read is.0 ∙ ap (λ (x : Read First). if_read x) (sym is.2)
named_known r None s is = ap (λ (x : Read First). if_read x) (sym is)

placed_known : (r : Read First) (o : Option (List ℕ)) → IsPlaced r o → placed_in o ≡ if_read r
placed_known r (Some t) is = ap (λ (x : Read First). if_read x) (sym is)
placed_known r None is = ap (λ (x : Read First). if_read x) (sym is)

leg_by_known : (r : Read First) (o : Option (List ℕ)) (s : List ℕ) → IsLegBy r o s → leg_by o s ≡ if_read r
leg_by_known r (Some t) s is = named_known r (behind 34 t) t is
leg_by_known r None s is = placed_known r (behind 91 s) is

leg_known : (r : Read First) (s : List ℕ) → IsLegIn r s → leg_in s ≡ if_read r
unfolding IsLegIn leg_in
leg_known r s is = leg_by_known r (behind 46 s) s is

-- ---- paths

legs_known : (most : ℕ) (ls : List Leg) (s : List ℕ) → length s ≤ most → AreLegs ls s [] → legs_in most s ≡ some ls
unfolding legs_in
legs_known most [] s few is = subst (λ (t : List ℕ). legs_in most t ≡ some []) (sym is) refl
legs_known most (l ∷ ls) [] few is = absurd (no_leg (l, is.0) is.1)
legs_known zero (l ∷ ls) (b ∷ s) few is = absurd (omega (arith, few))
legs_known (suc most) (l ∷ ls) (b ∷ s) few is =
    let less = leg_less (l, is.0) (b ∷ s) is.1 in
    let next : legs_in most is.0 ≡ some ls = legs_known most ls is.0 (omega (arith, few, less)) is.2 in
    rw (leg_known (ok (l, is.0)) (b ∷ s) is.1, next) refl

legs_unknown : (most : ℕ) (ls : List Leg) (s : List ℕ) (b : ℕ) (others : List ℕ) (e : JsonPathError) → AreLegs ls s (b ∷ others) → IsLegIn (err e) (b ∷ others) → legs_in most s ≡ none
unfolding legs_in
legs_unknown most [] [] b others e is why = absurd cc
legs_unknown most (l ∷ ls) [] b others e is why = absurd (no_leg (l, is.0) is.1)
legs_unknown zero ls (c ∷ s) b others e is why = refl
legs_unknown (suc most) [] (c ∷ s) b others e is why =
    let no : leg_in (c ∷ s) ≡ none = ap leg_in is ∙ leg_known (err e) (b ∷ others) why in
    rw no refl
legs_unknown (suc most) (l ∷ ls) (c ∷ s) b others e is why =
    let next : legs_in most is.0 ≡ none = legs_unknown most ls is.0 b others e is.2 why in
    rw (leg_known (ok (l, is.0)) (c ∷ s) is.1, next) refl

pub path_known : (s : List ℕ) (ls : List Leg) → IsPath ls s → path_legs s ≡ some ls
unfolding path_legs
path_known s ls is = rw is.1 (legs_known (length is.0) ls is.0 (omega arith) is.2)

pub path_unknown : (s : List ℕ) (e : JsonPathError) → IsRefusedPath e s → path_legs s ≡ none
unfolding path_legs
path_unknown s e (inl root) = rw root.1 refl
path_unknown s e (inr why) = rw why.1 (legs_unknown (length why.0) why.2.0 why.0 why.2.1 why.2.2 e why.2.3 why.2.4)
