-- Lists of members, one at a time.
use Rattle.std.proofs.Common.{◌≡◌, ℕ, List, ◌∷◌, drop, Some, refl}
use Rattle.std.specs.Prelude.{slice_get}

-- The first list, and the others.
pub first_list : (lists others : List (List (List ℕ))) (list : List (List ℕ)) → lists ≡ list ∷ others → Some list ≡ slice_get lists 0
first_list lists others list split = rw split refl

pub other_lists : (lists others : List (List (List ℕ))) (list : List (List ℕ)) → lists ≡ list ∷ others → others ≡ drop 1 lists
other_lists lists others list split = rw split refl
