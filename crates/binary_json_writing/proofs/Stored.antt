-- One entry more.
use Rattle.std.proofs.Common.{◌≡◌, ℕ, ◌+◌, ◌<◌, max, Bool, true, false, List, [], ◌∷◌, ◌++◌, map, refl, sym, ap, ◌∙◌, arith}
use Rattle.std.specs.Prelude.{◌&&◌}
use Rattle.binary_json.specs.Values.{Json, array, object, nesting, entries_nesting}
use Rattle.binary_json.specs.Decoding.{document_value}
use Rattle.binary_json_writing.specs.Written.{Item, written_container, written, items}
use Rattle.binary_json_writing.specs.Writable.{fits as fits_in, is_writable_key, is_writable, are_writable}
use Rattle.binary_json_writing.specs.Views.{item}
use Rattle.binary_json_writing.specs.Stored.{stored_key, stored_value, small_type, held, stored}
use Rattle.binary_json_writing.proofs.Kept.{kept}
use Rattle.binary_json_writing.specs.declared.entry.Entry.{Entry}
use Rattle.binary_json_writing.proofs.Seams.{both_true}

pub record IsList (keyed : Bool) (es : List Entry) (n : ℕ) : Type 0 where
  pub exact : items (stored keyed es) ≡ map item es
  pub possible : are_writable keyed (stored keyed es) ≡ true
  pub deep : n ≡ entries_nesting (stored keyed es)

cons_same : (x y : Item) (xs ys : List Item) → x ∷ xs ≡ y ∷ ys → (x ≡ y) × (xs ≡ ys)
cons_same x y xs ys e = (cc, cc)

both : (a b : Bool) → a ≡ true → b ≡ true → (a && b) ≡ true
both a b p q = rw (p, q) refl

pub one : (keyed : Bool) (e : Entry) (n : ℕ) → written (document_value e.value.items) ≡ e.value.items → is_writable (document_value e.value.items) ≡ true → n ≡ nesting (document_value e.value.items)
    → is_writable_key keyed (stored_key keyed e.key.items) ≡ true → held keyed e.key.items ≡ e.key.items → IsList keyed (e ∷ []) n
one keyed e n exact possible deep key is = record {
  exact = ap (λ (x : Item). x ∷ []) (ap (λ (k : List ℕ). let x : Item = record { key = k; value = written (document_value e.value.items) } in x) is ∙ ap (λ (v : List ℕ). let x : Item = record { key = e.key.items; value = v } in x) exact);
  possible = both _ _ key (both _ _ possible refl);
  deep = omega (arith, deep);
}

pub one_more : (keyed : Bool) (es : List Entry) (e : Entry) (n m : ℕ) → IsList keyed es n → IsList keyed (e ∷ []) m → IsList keyed (es ++ e ∷ []) (max n m)
one_more keyed [] e n m are is = record { exact = is.exact; possible = is.possible; deep = omega (arith, is.deep, are.deep) }
one_more keyed (x ∷ es) e n m are is =
    let split = cons_same _ _ _ _ are.exact in
    let first = both_true (is_writable_key keyed (stored_key keyed x.key.items)) _ are.possible in
    let second = both_true (is_writable (document_value x.value.items)) _ first.1 in
    let rest : IsList keyed (es ++ e ∷ []) (max (entries_nesting (stored keyed es)) m) = one_more keyed es e (entries_nesting (stored keyed es)) m (record { exact = split.1; possible = second.1; deep = refl }) is in
    record {
      exact = ap (λ (y : Item). y ∷ items (stored keyed (es ++ e ∷ []))) split.0 ∙ ap (λ (ys : List Item). item x ∷ ys) rest.exact;
      possible = both _ _ first.0 (both _ _ second.0 rest.possible);
      deep = omega (arith, are.deep, rest.deep);
    }

pub record IsFinished (s : List ℕ) (v : Json) (n : ℕ) : Type 0 where
  pub value : document_value s ≡ v
  pub exact : written (document_value s) ≡ s
  pub possible : is_writable (document_value s) ≡ true
  pub deep : n ≡ nesting (document_value s)

-- The array or the object of these entries.
pub finished : (keyed : Bool) (es : List Entry) (n : ℕ) (s : List ℕ) → IsList keyed es n → n < 100 → s ≡ written_container (small_type keyed) (map item es) → fits_in (small_type keyed) (map item es) ≡ true
    → IsFinished s (stored_value keyed (stored keyed es)) (n + 1)
finished true es n s are few e fits =
    let same : s ≡ written_container 0 (items (stored true es)) = e ∙ ap (λ (xs : List Item). written_container 0 xs) (sym are.exact) in
    let fit : fits_in 0 (items (stored true es)) ≡ true = ap (λ (xs : List Item). fits_in 0 xs) are.exact ∙ fits in
    let k = kept (object (stored true es)) s same (both _ _ fit are.possible) (omega (arith, are.deep)) in
    record { value = k.value; exact = k.exact; possible = k.possible; deep = omega (arith, are.deep, k.deep) }
finished false es n s are few e fits =
    let same : s ≡ written_container 2 (items (stored false es)) = e ∙ ap (λ (xs : List Item). written_container 2 xs) (sym are.exact) in
    let fit : fits_in 2 (items (stored false es)) ≡ true = ap (λ (xs : List Item). fits_in 2 xs) are.exact ∙ fits in
    let k = kept (array (stored false es)) s same (both _ _ fit are.possible) (omega (arith, are.deep)) in
    record { value = k.value; exact = k.exact; possible = k.possible; deep = omega (arith, are.deep, k.deep) }

pub finished_of : (keyed : Bool) (es slice : List Entry) (n : ℕ) (s : List ℕ) (t : ℕ) → IsList keyed es n → n < 100 → t ≡ small_type keyed → slice ≡ es → s ≡ written_container t (map item slice) → fits_in t (map item slice) ≡ true
    → IsFinished s (stored_value keyed (stored keyed es)) (n + 1)
finished_of keyed es slice n s t are few kind same e fits =
    let made : s ≡ written_container (small_type keyed) (map item es) = e ∙ ap (λ (k : ℕ). written_container k (map item slice)) kind ∙ ap (λ (l : List Entry). written_container (small_type keyed) (map item l)) same in
    let fit : fits_in (small_type keyed) (map item es) ≡ true = sym (ap (λ (k : ℕ). fits_in k (map item slice)) kind ∙ ap (λ (l : List Entry). fits_in (small_type keyed) (map item l)) same) ∙ fits in
    finished keyed es n s are few made fit
