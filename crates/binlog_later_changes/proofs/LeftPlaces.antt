-- The row events that are left.
use Rattle.std.proofs.Common.{◌≡◌, ℕ, ◌≤◌, ◌<◌, Bool, true, false, ltb, min, List, [], ◌∷◌, ◌++◌, map, length, take, drop, refl, sym, ap, ◌∙◌, arith, ltb-true, ltb-false, drop_of_length-le}
use Rattle.std.proofs.Math.Nat.{min-eq_left}
use Rattle.std.proofs.lemmas.List.{take_min}
use Rattle.binlog_undo_index.specs.declared.places.ChangePlace.{ChangePlace}
use Rattle.binlog_undo_index.specs.declared.places.TransactionPlace.{TransactionPlace}
use Rattle.binlog_later_changes.specs.Places.{rows_place, places_in}
use Rattle.binlog_later_changes.specs.declared.undone_events.RowsPlace.{RowsPlace}

drop_min : {X : Type 0} (n : ℕ) (xs : List X) → drop (min n (length xs)) xs ≡ drop n xs
drop_min n xs = by (ltb n (length xs)) refl
  where
    least : length xs ≤ n → min n (length xs) ≡ length xs
    least le = omega arith

    by : (b : Bool) → ltb n (length xs) ≡ b → drop (min n (length xs)) xs ≡ drop n xs
    by true lt = ap (λ (k : ℕ). drop k xs) (min-eq_left (omega (arith, ltb-true n (length xs) lt)))
    by false ge =
        let le : length xs ≤ n = ltb-false n (length xs) ge in
        drop_of_length-le xs {i = min n (length xs)} (omega (arith, least le)) ∙ sym (drop_of_length-le xs {i = n} le)

-- The first transaction has its row events, as far as they are there.
pub places_first : (transaction : TransactionPlace) (transactions : List TransactionPlace) (is_inside : Bool) (are_inside : List Bool) (changes own behind : List ChangePlace) (count : ℕ)
    → count ≡ min transaction.changes (length changes) → own ≡ take count changes → behind ≡ drop count changes
    → map (rows_place transaction.last is_inside) own ++ places_in transactions are_inside behind ≡ places_in (transaction ∷ transactions) (is_inside ∷ are_inside) changes
places_first transaction transactions is_inside are_inside changes own behind count is owns leaves =
    let taken : own ≡ take transaction.changes changes = owns ∙ ap (λ (k : ℕ). take k changes) is ∙ take_min transaction.changes changes in
    let left : behind ≡ drop transaction.changes changes = leaves ∙ ap (λ (k : ℕ). drop k changes) is ∙ drop_min transaction.changes changes in
    ap (λ (l : List ChangePlace). map (rows_place transaction.last is_inside) l ++ places_in transactions are_inside behind) taken
    ∙ ap (λ (l : List ChangePlace). map (rows_place transaction.last is_inside) (take transaction.changes changes) ++ places_in transactions are_inside l) left
