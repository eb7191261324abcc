-- Inverses of changes.
use Rattle.std.proofs.Common.{◌≡◌, List, [], ◌∷◌, ◌++◌, map, reverse, refl, sym, ◌∙◌, ap, ap₂, subst}
use Rattle.std.proofs.lemmas.List.{map-append, reverse-append}
use Rattle.table_changes.specs.Changes.{State, Change, insert, delete, update, Applies, AppliesAll, inverse_of, inverse}
use Rattle.table_changes.proofs.Applied.{applied_joined}

reverse_one : {A : Type 0} (x : A) → reverse (x ∷ []) ≡ x ∷ []
reverse_one x = refl

module _ {Table Row : Type 0} where
  pub applied_back : (change : Change Table Row) (old new : State Table Row) → Applies change old new → Applies (inverse_of change) new old
  applied_back (insert table new_row) old new a = record { others = a.others; was = a.is; is = a.was }
  applied_back (delete table old_row) old new a = record { others = a.others; was = a.is; is = a.was }
  applied_back (update table old_row new_row) old new a = record { others = a.others; was = a.is; is = a.was }

  pub inverse_twice : (change : Change Table Row) → inverse_of (inverse_of change) ≡ change
  inverse_twice (insert table new) = refl
  inverse_twice (delete table old) = refl
  inverse_twice (update table old new) = refl

  pub inverse-append : (before after : List (Change Table Row)) → inverse (before ++ after) ≡ inverse after ++ inverse before
  inverse-append before after = ap reverse (map-append inverse_of before after) ∙ reverse-append (map inverse_of before) (map inverse_of after)

  pub inverse-first : (change : Change Table Row) (changes : List (Change Table Row)) → inverse (change ∷ changes) ≡ inverse changes ++ inverse_of change ∷ []
  inverse-first change changes = inverse-append (change ∷ []) changes ∙ ap (λ xs. inverse changes ++ xs) (reverse_one (inverse_of change))

  pub all_applied_back : (changes : List (Change Table Row)) (old new : State Table Row) → AppliesAll changes old new → AppliesAll (inverse changes) new old
  all_applied_back [] old new e = sym e
  all_applied_back (change ∷ changes) old new a =
      subst (λ changes. AppliesAll changes new old) (sym (inverse-first change changes))
      (applied_joined (inverse changes) (inverse_of change ∷ []) new a.0 old (all_applied_back changes a.0 new a.2) (old, applied_back change old a.0 a.1, refl))

  pub inverses_twice : (changes : List (Change Table Row)) → inverse (inverse changes) ≡ changes
  inverses_twice [] = refl
  inverses_twice (change ∷ changes) =
      ap inverse (inverse-first change changes) ∙ inverse-append (inverse changes) (inverse_of change ∷ [])
      ∙ ap₂ (λ xs ys. xs ++ ys) (reverse_one (inverse_of (inverse_of change)) ∙ ap (λ x. x ∷ []) (inverse_twice change)) (inverses_twice changes)
