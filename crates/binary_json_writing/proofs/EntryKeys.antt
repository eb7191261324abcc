-- Entries by their keys.
use Rattle.std.proofs.Common.{◌≡◌, ℕ, zero, suc, ◌+◌, ◌<◌, ◌≤◌, Bool, true, false, cond, List, [], ◌∷◌, length, drop, Option, Some, None, refl, ap, ◌∙◌, arith}
use Rattle.std.specs.Prelude.{option_map, slice_get, bytes_eq}
use Rattle.binary_json.specs.Values.{Json}
use Rattle.binary_json.proofs.Left.{some, none, some_is, none_some, nothing_left}
use Rattle.binary_json_writing.specs.Keys.{is_before}
use Rattle.binary_json_writing.specs.Changes.{key_index, key_rank}
use Rattle.binary_json_writing.proofs.EntryLists.{there}

abbrev Pairs : Type 0
Pairs = List (List ℕ × Json)

abbrev pub moved : ℕ → Option ℕ → Option ℕ
moved i o = option_map (λ k. i + k) o

-- The key at an index, and what is left there.
pub key_here : (ps : Pairs) (i : ℕ) (k : List ℕ) → option_map (λ (p : List ℕ × Json). p.0) (slice_get ps i) ≡ some k → (p : List ℕ × Json) × (drop i ps ≡ p ∷ drop (i + 1) ps) × (p.0 ≡ k)
key_here [] i k e = absurd (none_some k e)
key_here (p ∷ ps) zero k e = (p, refl, some_is p.0 k e)
key_here (p ∷ ps) (suc i) k e =
    let rest = key_here ps i k e in
    let next : suc (i + 1) ≡ suc i + 1 = omega arith in
    (rest.0, rest.1 ∙ ap (λ (n : ℕ). rest.0 ∷ drop n (p ∷ ps)) next, rest.2)

pub no_key : (ps : Pairs) (i : ℕ) → none {A = List ℕ × Json} ≡ slice_get ps i → i < length ps → ⊥
no_key ps i e less = let x = there ps i less in none_some x.0 (e ∙ x.1)

moved_none : (o : Option ℕ) → o ≡ moved 0 o
moved_none None = refl
moved_none (Some k) = let e : k ≡ 0 + k = omega arith in ap (λ (n : ℕ). some n) e

pub index_begun : (key : List ℕ) (ps : Pairs) → key_index key ps ≡ moved 0 (key_index key (drop 0 ps))
index_begun key ps = moved_none (key_index key ps)

moved_more : (i : ℕ) (o : Option ℕ) → moved i (option_map suc o) ≡ moved (i + 1) o
moved_more i None = refl
moved_more i (Some k) = let e : i + suc k ≡ (i + 1) + k = omega arith in ap (λ (n : ℕ). some n) e

index_at : (key : List ℕ) (ps : Pairs) (i : ℕ) (k : List ℕ) (b : Bool) → option_map (λ (p : List ℕ × Json). p.0) (slice_get ps i) ≡ some k → bytes_eq k key ≡ b
    → key_index key (drop i ps) ≡ cond b (some 0) (option_map suc (key_index key (drop (i + 1) ps)))
index_at key ps i k b e test =
    let p = key_here ps i k e in
    ap (key_index key) p.1 ∙ ap (λ (t : Bool). cond t (some 0) (option_map suc (key_index key (drop (i + 1) ps)))) (ap (λ (s : List ℕ). bytes_eq s key) p.2 ∙ test)

pub index_more : (key : List ℕ) (ps : Pairs) (i : ℕ) (k : List ℕ) → key_index key ps ≡ moved i (key_index key (drop i ps)) → option_map (λ (p : List ℕ × Json). p.0) (slice_get ps i) ≡ some k → bytes_eq k key ≡ false
    → key_index key ps ≡ moved (i + 1) (key_index key (drop (i + 1) ps))
index_more key ps i k so_far e other = so_far ∙ ap (moved i) (index_at key ps i k false e other) ∙ moved_more i (key_index key (drop (i + 1) ps))

pub index_here : (key : List ℕ) (ps : Pairs) (i : ℕ) (k : List ℕ) → key_index key ps ≡ moved i (key_index key (drop i ps)) → option_map (λ (p : List ℕ × Json). p.0) (slice_get ps i) ≡ some k → bytes_eq k key ≡ true
    → key_index key ps ≡ some i
index_here key ps i k so_far e same = let here : i + 0 ≡ i = omega arith in so_far ∙ ap (moved i) (index_at key ps i k true e same) ∙ ap (λ (n : ℕ). some n) here

pub index_none : (key : List ℕ) (ps : Pairs) (i : ℕ) → key_index key ps ≡ moved i (key_index key (drop i ps)) → length ps ≤ i → key_index key ps ≡ none
index_none key ps i so_far past = so_far ∙ ap (λ (l : Pairs). moved i (key_index key l)) (nothing_left ps i past)

rank_at : (key : List ℕ) (ps : Pairs) (i : ℕ) (k : List ℕ) (b : Bool) → option_map (λ (p : List ℕ × Json). p.0) (slice_get ps i) ≡ some k → is_before k key ≡ b
    → key_rank key (drop i ps) ≡ cond b (suc (key_rank key (drop (i + 1) ps))) 0
rank_at key ps i k b e test =
    let p = key_here ps i k e in
    ap (key_rank key) p.1 ∙ ap (λ (t : Bool). cond t (suc (key_rank key (drop (i + 1) ps))) 0) (ap (λ (s : List ℕ). is_before s key) p.2 ∙ test)

pub rank_more : (key : List ℕ) (ps : Pairs) (i : ℕ) (k : List ℕ) → key_rank key ps ≡ i + key_rank key (drop i ps) → option_map (λ (p : List ℕ × Json). p.0) (slice_get ps i) ≡ some k → is_before k key ≡ true
    → key_rank key ps ≡ (i + 1) + key_rank key (drop (i + 1) ps)
rank_more key ps i k so_far e before = omega (arith, so_far, rank_at key ps i k true e before)

pub rank_here : (key : List ℕ) (ps : Pairs) (i : ℕ) (k : List ℕ) → key_rank key ps ≡ i + key_rank key (drop i ps) → option_map (λ (p : List ℕ × Json). p.0) (slice_get ps i) ≡ some k → is_before k key ≡ false
    → key_rank key ps ≡ i
rank_here key ps i k so_far e behind = omega (arith, so_far, rank_at key ps i k false e behind)

pub rank_none : (key : List ℕ) (ps : Pairs) (i : ℕ) → key_rank key ps ≡ i + key_rank key (drop i ps) → i ≡ length ps → key_rank key ps ≡ i
rank_none key ps i so_far all =
    let none_left : key_rank key (drop i ps) ≡ 0 = ap (key_rank key) (nothing_left ps i (omega arith)) in
    omega (arith, so_far, none_left)
