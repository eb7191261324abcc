-- Entries of arrays and objects, as lists.
use Rattle.std.proofs.Common.{◌≡◌, true, false, ℕ, zero, suc, ◌+◌, ◌-◌, ◌<◌, ◌≤◌, List, [], ◌∷◌, ◌++◌, length, map, take, drop, Option, Some, None, refl, sym, ap, ◌∙◌, arith}
use Rattle.std.specs.Prelude.{option_map, slice_get, slice_range}
use Rattle.binary_json.specs.Values.{Json, scalar, array, object, Entries, no_entries, entry, nesting, entries_nesting, values, members as members_in}
use Rattle.binary_json.proofs.Left.{some, none, some_is, none_some}
use Rattle.binary_json_writing.specs.Changes.{keyless, entries_of, is_object}

pub keyless_count : (vs : List Json) → length (map keyless vs) ≡ length vs
keyless_count [] = refl
keyless_count (v ∷ vs) = omega (arith, keyless_count vs)

pub keyless_some : (vs : List Json) (i : ℕ) (v : Json) → some v ≡ slice_get vs i → some (keyless v) ≡ slice_get (map keyless vs) i
keyless_some [] i v e = absurd (none_some v (sym e))
keyless_some (w ∷ vs) zero v e = ap (λ (o : Option Json). option_map keyless o) e
keyless_some (w ∷ vs) (suc i) v e = keyless_some vs i v e

pub keyless_none : (vs : List Json) (i : ℕ) → none {A = Json} ≡ slice_get vs i → none {A = List ℕ × Json} ≡ slice_get (map keyless vs) i
keyless_none [] i e = refl
keyless_none (w ∷ vs) zero e = absurd (none_some w e)
keyless_none (w ∷ vs) (suc i) e = keyless_none vs i e

-- ---- ranges

pub first_left : {A : Type 0} (xs : List A) (i : ℕ) (x : A) → slice_get xs i ≡ some x → drop i xs ≡ x ∷ drop (suc i) xs
first_left [] i x e = absurd (none_some x e)
first_left (y ∷ xs) zero x e = ap (λ z. z ∷ xs) (some_is y x e)
first_left (y ∷ xs) (suc i) x e = first_left xs i x e

pub there : {A : Type 0} (xs : List A) (i : ℕ) → i < length xs → (x : A) × (slice_get xs i ≡ some x)
there [] i less = absurd (omega arith)
there (x ∷ xs) zero less = (x, refl)
there (x ∷ xs) (suc i) less = there xs i (omega arith)

pub range_one : {A : Type 0} (xs : List A) (i : ℕ) (x : A) → slice_get xs i ≡ some x → slice_range xs i (i + 1) ≡ x ∷ []
range_one xs i x e =
    let one : (i + 1) - i ≡ 1 = omega arith in
    ap (λ (n : ℕ). take n (drop i xs)) one ∙ ap (λ l. take 1 l) (first_left xs i x e)

abbrev nil : {A : Type 0} → List A
nil = []

drop_none : {A : Type 0} (n : ℕ) → drop n (nil {A = A}) ≡ []
drop_none zero = refl
drop_none (suc n) = refl

take_none : {A : Type 0} (n : ℕ) → take n (nil {A = A}) ≡ []
take_none zero = refl
take_none (suc n) = refl

take_sum : {A : Type 0} (xs : List A) (m n : ℕ) → take (m + n) xs ≡ take m xs ++ take n (drop m xs)
take_sum xs zero n = ap (λ (k : ℕ). take k xs) (let e : 0 + n ≡ n = omega arith in e)
take_sum [] (suc m) n = take_none (suc m + n) ∙ sym (take_none n)
take_sum (x ∷ xs) (suc m) n = let e : suc m + n ≡ suc (m + n) = omega arith in ap (λ (k : ℕ). take k (x ∷ xs)) e ∙ ap (λ l. x ∷ l) (take_sum xs m n)

drop_sum : {A : Type 0} (xs : List A) (m n : ℕ) → drop n (drop m xs) ≡ drop (m + n) xs
drop_sum xs zero n = ap (λ (k : ℕ). drop k xs) (let e : n ≡ 0 + n = omega arith in e)
drop_sum [] (suc m) n = drop_none n ∙ sym (drop_none (suc m + n))
drop_sum (x ∷ xs) (suc m) n = let e : suc (m + n) ≡ suc m + n = omega arith in drop_sum xs m n ∙ ap (λ (k : ℕ). drop k (x ∷ xs)) e

pub range_split : {A : Type 0} (xs : List A) (a b c : ℕ) → a ≤ b → b ≤ c → slice_range xs a c ≡ slice_range xs a b ++ slice_range xs b c
range_split xs a b c low high =
    let sum : c - a ≡ (b - a) + (c - b) = omega arith in
    let place : a + (b - a) ≡ b = omega arith in
    ap (λ (n : ℕ). take n (drop a xs)) sum ∙ take_sum (drop a xs) (b - a) (c - b)
    ∙ ap (λ l. take (b - a) (drop a xs) ++ take (c - b) l) (drop_sum xs a (b - a) ∙ ap (λ (n : ℕ). drop n xs) place)

pub range_none : {A : Type 0} (xs : List A) (a b : ℕ) → b ≤ a → slice_range xs a b ≡ []
range_none xs a b past = let e : b - a ≡ 0 = omega arith in ap (λ (n : ℕ). take n (drop a xs)) e

pub range_front : {A : Type 0} (xs : List A) (i : ℕ) → slice_range xs 0 i ≡ take i xs
range_front xs i = let e : i - 0 ≡ i = omega arith in ap (λ (n : ℕ). take n xs) e

take_all : {A : Type 0} (xs : List A) (n : ℕ) → length xs ≤ n → take n xs ≡ xs
take_all [] zero all = refl
take_all [] (suc n) all = refl
take_all (x ∷ xs) zero all = absurd (omega arith)
take_all (x ∷ xs) (suc n) all = ap (λ l. x ∷ l) (take_all xs n (omega arith))

drop_length : {A : Type 0} (xs : List A) (n : ℕ) → length (drop n xs) ≤ length xs - n
drop_length xs zero = omega arith
drop_length [] (suc n) = omega arith
drop_length (x ∷ xs) (suc n) = omega (arith, drop_length xs n)

pub range_back : {A : Type 0} (xs : List A) (i : ℕ) → slice_range xs i (length xs) ≡ drop i xs
range_back xs i = take_all (drop i xs) (length xs - i) (drop_length xs i)

-- ---- depth

value_deep : (es : Entries) (i : ℕ) (v : Json) → slice_get (values es) i ≡ some v → nesting v ≤ entries_nesting es
value_deep no_entries i v e = absurd (none_some v e)
value_deep (entry key w es) zero v e = omega (arith, ap nesting (some_is w v e))
value_deep (entry key w es) (suc i) v e = omega (arith, value_deep es i v e)

member_deep : (es : Entries) (i : ℕ) (p : List ℕ × Json) → slice_get (members_in es) i ≡ some p → nesting p.1 ≤ entries_nesting es
member_deep no_entries i p e = absurd (none_some p e)
member_deep (entry None w es) i p e = omega (arith, member_deep es i p e)
member_deep (entry (Some key) w es) zero p e = omega (arith, ap (λ (q : List ℕ × Json). nesting q.1) (some_is (key, w) p e))
member_deep (entry (Some key) w es) (suc i) p e = omega (arith, member_deep es i p e)

keyless_at : (vs : List Json) (i : ℕ) (p : List ℕ × Json) → slice_get (map keyless vs) i ≡ some p → (p.0 ≡ []) × (slice_get vs i ≡ some p.1)
keyless_at [] i p e = absurd (none_some p e)
keyless_at (v ∷ vs) zero p e = let is = some_is (keyless v) p e in (sym (ap (λ (q : List ℕ × Json). q.0) is), ap (λ (q : List ℕ × Json). some q.1) is)
keyless_at (v ∷ vs) (suc i) p e = keyless_at vs i p e

pub keyless_key : (v : Json) (i : ℕ) (p : List ℕ × Json) → is_object v ≡ false → slice_get (entries_of v) i ≡ some p → p.0 ≡ []
keyless_key (scalar x) i p is e = absurd (none_some p e)
keyless_key (array es) i p is e = (keyless_at (values es) i p e).0
keyless_key (object es) i p is e = let wrong : true ≡ false = is in absurd cc

pub entry_deep : (v : Json) (i : ℕ) (p : List ℕ × Json) → slice_get (entries_of v) i ≡ some p → nesting p.1 < nesting v
entry_deep (scalar x) i p e = absurd (none_some p e)
entry_deep (array es) i p e = let at = keyless_at (values es) i p e in omega (arith, value_deep es i p.1 at.1)
entry_deep (object es) i p e = omega (arith, member_deep es i p e)
