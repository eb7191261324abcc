-- Values that are written token by token.
use Rattle.std.proofs.Common.{◌≡◌, flat_map, List, [], ◌∷◌, ◌++◌, ap, sym, ◌∙◌, append_assoc, append-nil}
use Rattle.json.specs.Token.{Token}

-- ---- arrays: the written values and those that are left

-- The next value.
pub value_added : {X : Type 0} (f : X → List Token) (line new all : List Token) (left after : List X) (x : X) → line ++ flat_map f left ≡ all → left ≡ x ∷ after
    → new ≡ line ++ f x → new ++ flat_map f after ≡ all
value_added {X = X} f line new all left after x so_far is e =
    ap (λ (t : List Token). t ++ flat_map f after) e ∙ append_assoc line (f x) (flat_map f after) ∙ ap (λ (l : List X). line ++ flat_map f l) (sym is) ∙ so_far

-- No value is left.
pub all_added : {X : Type 0} (f : X → List Token) (line all : List Token) (left : List X) → line ++ flat_map f left ≡ all → left ≡ [] → line ≡ all
all_added {X = X} f line all left so_far none = sym (append-nil line) ∙ ap (λ (l : List X). line ++ flat_map f l) (sym none) ∙ so_far
