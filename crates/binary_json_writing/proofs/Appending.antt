-- Steps of loops that append one part after the other: what is appended and what is left stay the whole.
use Rattle.std.specs.Prelude.{Result, Ok, Err, OnOk}
use Rattle.std.proofs.lemmas.Bool.{le-ltb}
use Rattle.std.proofs.Common.{◌≤◌, ◌/◌, ◌%◌, Bool, cond, ◌≡◌, ℕ, zero, suc, ◌+◌, ◌-◌, ◌<◌, List, [], ◌∷◌, ◌++◌, length, drop, map, replicate, get_or, sym, ap, ◌∙◌, append_assoc, length-append, arith}
use Rattle.std.proofs.Math.Seq.{drop-cons}
use Rattle.binary_json_writing.specs.Written.{variable_bytes, Item, key_entry, key_entries, value_entry, value_entries, placed, keys, all_placed, entry_size, entries_size}
use Rattle.binary_json_writing.specs.Views.{item}
use Rattle.binary_json_writing.specs.declared.entry.Entry.{Entry}

pub appended : (out h t new whole : List ℕ) → out ++ (h ++ t) ≡ whole → new ≡ out ++ h → new ++ t ≡ whole
appended out h t new whole e is = rw is (append_assoc out h t ∙ e)

pub filled_more : (out new whole : List ℕ) (x n i : ℕ) → i < n → out ++ replicate (n - i) x ≡ whole → new ≡ out ++ x ∷ [] → new ++ replicate (n - (i + 1)) x ≡ whole
filled_more out new whole x n i less e is =
    let k : n - i ≡ suc (n - (i + 1)) = omega arith in
    appended out (x ∷ []) (replicate (n - (i + 1)) x) new whole (ap (λ (m : ℕ). out ++ replicate m x) (sym k) ∙ e) is

pub items_left : (xs : List Entry) (i : ℕ) (x : Entry) → i < length xs → x ≡ get_or xs i x → map item (drop i xs) ≡ item x ∷ map item (drop (i + 1) xs)
items_left xs i x less is =
    let j : i + 1 ≡ suc i = omega arith in
    ap (λ (l : List Entry). map item l) (drop-cons xs i x less) ∙ ap (λ (y : Entry). item y ∷ map item (drop (suc i) xs)) (sym is) ∙ ap (λ (k : ℕ). item x ∷ map item (drop k xs)) (sym j)

module _ (xs : List Entry) (i : ℕ) (x : Entry) (less : i < length xs) (is : x ≡ get_or xs i x) where
  pub key_entry_more : (t at : ℕ) (out new whole : List ℕ) → out ++ key_entries t at (map item (drop i xs)) ≡ whole → new ≡ out ++ key_entry t at (item x)
      → new ++ key_entries t (at + length (item x).key) (map item (drop (i + 1) xs)) ≡ whole
  key_entry_more t at out new whole e done =
      appended out (key_entry t at (item x)) (key_entries t (at + length (item x).key) (map item (drop (i + 1) xs))) new whole (ap (λ (l : List Item). out ++ key_entries t at l) (sym (items_left xs i x less is)) ∙ e) done

  pub keys_more : (at n : ℕ) → at + length (keys (map item (drop i xs))) ≡ n → at + length (item x).key + length (keys (map item (drop (i + 1) xs))) ≡ n
  keys_more at n e =
      let same = ap (λ (l : List Item). length (keys l)) (items_left xs i x less is) in
      omega (arith, same, length-append (item x).key (keys (map item (drop (i + 1) xs))))

  pub value_entry_more : (t at : ℕ) (out new whole : List ℕ) → out ++ value_entries t at (map item (drop i xs)) ≡ whole → new ≡ out ++ value_entry t at (item x)
      → new ++ value_entries t (at + length (placed t (item x))) (map item (drop (i + 1) xs)) ≡ whole
  value_entry_more t at out new whole e done =
      appended out (value_entry t at (item x)) (value_entries t (at + length (placed t (item x))) (map item (drop (i + 1) xs))) new whole (ap (λ (l : List Item). out ++ value_entries t at l) (sym (items_left xs i x less is)) ∙ e) done

  pub placed_more : (t at n : ℕ) → at + length (all_placed t (map item (drop i xs))) ≡ n → at + length (placed t (item x)) + length (all_placed t (map item (drop (i + 1) xs))) ≡ n
  placed_more t at n e =
      let same = ap (λ (l : List Item). length (all_placed t l)) (items_left xs i x less is) in
      omega (arith, same, length-append (placed t (item x)) (all_placed t (map item (drop (i + 1) xs))))

  pub key_more : (out new whole : List ℕ) → out ++ keys (map item (drop i xs)) ≡ whole → new ≡ out ++ (item x).key → new ++ keys (map item (drop (i + 1) xs)) ≡ whole
  key_more out new whole e done = appended out (item x).key (keys (map item (drop (i + 1) xs))) new whole (ap (λ (l : List Item). out ++ keys l) (sym (items_left xs i x less is)) ∙ e) done

  pub value_more : (t : ℕ) (out new whole : List ℕ) → out ++ all_placed t (map item (drop i xs)) ≡ whole → new ≡ out ++ placed t (item x) → new ++ all_placed t (map item (drop (i + 1) xs)) ≡ whole
  value_more t out new whole e done = appended out (placed t (item x)) (all_placed t (map item (drop (i + 1) xs))) new whole (ap (λ (l : List Item). out ++ all_placed t l) (sym (items_left xs i x less is)) ∙ e) done

  pub size_more : (t total n : ℕ) → total + entries_size t (map item (drop i xs)) ≡ n → total + entry_size t (item x) + entries_size t (map item (drop (i + 1) xs)) ≡ n
  size_more t total n e =
      let same = ap (λ (l : List Item). entries_size t l) (items_left xs i x less is) in
      omega (arith, same)

-- A length of more than seven bits.
variable_more : (most n : ℕ) (old mid new : List ℕ) → 0 < most → 128 ≤ n → mid ≡ old ++ (n % 128 + 128) ∷ [] → new ≡ mid ++ variable_bytes (most - 1) (n / 128) → new ≡ old ++ variable_bytes most n
unfolding variable_bytes
variable_more zero n old mid new some big e is = absurd (omega arith)
variable_more (suc most) n old mid new some big e is =
    let one : suc most - 1 ≡ most = omega arith in
    let tail : List ℕ = (n % 128 + 128) ∷ variable_bytes most (n / 128) in
    let whole : variable_bytes (suc most) n ≡ tail = ap (λ (b : Bool). cond b (n ∷ []) tail) (le-ltb n 128 big) in
    let new_is : new ≡ mid ++ variable_bytes most (n / 128) = is ∙ ap (λ (m : ℕ). mid ++ variable_bytes m (n / 128)) one in
    new_is ∙ ap (λ (l : List ℕ). l ++ variable_bytes most (n / 128)) e ∙ append_assoc old ((n % 128 + 128) ∷ []) (variable_bytes most (n / 128)) ∙ ap (λ (l : List ℕ). old ++ l) (sym whole)

pub variable_pushed : {A E : Type 0} (r : Result A E) (most n : ℕ) (old mid new : List ℕ) → 0 < most → 128 ≤ n → mid ≡ old ++ (n % 128 + 128) ∷ [] → OnOk r (new ≡ mid ++ variable_bytes (most - 1) (n / 128)) → OnOk r (new ≡ old ++ variable_bytes most n)
variable_pushed (Ok x) most n old mid new some big e is = variable_more most n old mid new some big e is
variable_pushed (Err x) most n old mid new some big e is = tt
