-- The names over which a loop has gone.
use Rattle.std.proofs.Common.{◌≡◌, ℕ, ◌+◌, ◌<◌, ◌≤◌, List, length, take, get_or, subst}
use Rattle.std.proofs.lemmas.List.{get_or_default, take_all}
use Rattle.std.proofs.lemmas.List.Elements.{All-more}
use Rattle.std.specs.List.{All, Any}

module _ {X : Type 0} (P : X → Type 0) where
  -- One more name is such a name.
  pub all_next : (names : List X) (i : ℕ) (none : X) → i < length names → All P (take i names) → P (get_or names i none) → All P (take (i + 1) names)
  all_next names i none within so_far here = All-more P names i none within so_far here

  -- All names are, if those so far are all of them.
  pub all_end : (names : List X) (i : ℕ) → length names ≤ i → All P (take i names) → All P names
  all_end names i behind are = subst (λ (them : List X). All P them) (take_all i names behind) are

  -- One of the names is.
  pub any_here : (names : List X) (i : ℕ) (none : X) → i < length names → P (get_or names i none) → Any P names
  any_here names i none within here = (i, get_or names i none, within, get_or_default names i (get_or names i none) none within, here)
