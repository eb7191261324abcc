-- The members of a SET that are appended one by one.
use Rattle.std.proofs.Common.{◌≡◌, ℕ, ◌+◌, ◌/◌, ◌%◌, ◌^◌, ◌<◌, ◌≤◌, Bool, true, false, cond, eqb, leb, List, [], ◌∷◌, ◌++◌, length, get_or, drop, refl, sym, ap, ◌∙◌, append_assoc, append-nil, add-one, drop-cons, arith}
use Rattle.std.proofs.Math.Nat.{pow-le-pow_right}
use Rattle.std.proofs.lemmas.Bool.{lt-leb}
use Rattle.std.proofs.lemmas.List.{drop_all}
use Rattle.std.specs.Borrow.{Bor}
use Rattle.binlog_optional_metadata.specs.Facts.{texts_of}
use Rattle.binlog_json_values.specs.Members.{chosen, after_commas, joined}

-- Texts that are appended: each behind a comma, except the first of all.
abbrev pub appended : List ℕ → Bool → List (List ℕ) → List ℕ
appended comma true texts = joined comma texts
appended comma false texts = after_commas comma texts

first_appended : (comma : List ℕ) (is_first : Bool) (text : List ℕ) (texts : List (List ℕ)) → appended comma is_first (text ∷ texts) ≡ cond is_first text (comma ++ text) ++ after_commas comma texts
first_appended comma true text texts = refl
first_appended comma false text texts = refl

nothing_appended : (comma : List ℕ) (is_first : Bool) → appended comma is_first [] ≡ []
nothing_appended comma true = refl
nothing_appended comma false = refl

none_chosen : (members : List (List ℕ)) → chosen members 0 ≡ []
none_chosen [] = refl
none_chosen (member ∷ members) = none_chosen members

chosen_by : (member : List ℕ) (members : List (List ℕ)) (bits : ℕ) (is_set : Bool) → eqb (bits % 2) 1 ≡ is_set
    → chosen (member ∷ members) bits ≡ cond is_set (member ∷ chosen members (bits / 2)) (chosen members (bits / 2))
chosen_by member members bits is_set is = ap (λ (b : Bool). cond b (member ∷ chosen members (bits / 2)) (chosen members (bits / 2))) is

-- The members from this index on.
abbrev pub chosen_from : ℕ → List (Bor (List ℕ)) → ℕ → List (List ℕ)
chosen_from index members bits = chosen (texts_of (drop index members)) bits

chosen_next : (members : List (Bor (List ℕ))) (index bits : ℕ) (none : Bor (List ℕ)) (is_set : Bool) → index < length members → eqb (bits % 2) 1 ≡ is_set
    → chosen_from index members bits ≡ cond is_set ((get_or members index none).now ∷ chosen_from (index + 1) members (bits / 2)) (chosen_from (index + 1) members (bits / 2))
chosen_next members index bits none is_set below is =
    let split : drop index members ≡ get_or members index none ∷ drop (index + 1) members =
    drop-cons members index none below ∙ ap (λ (n : ℕ). get_or members index none ∷ drop n members) (sym (add-one index)) in
    ap (λ (l : List (Bor (List ℕ))). chosen (texts_of l) bits) split ∙ chosen_by (get_or members index none).now (texts_of (drop (index + 1) members)) bits is_set is

-- A member whose bit is set.
pub member_pushed : (comma : List ℕ) (old new start : List ℕ) (members : List (Bor (List ℕ))) (index bits : ℕ) (none : Bor (List ℕ)) (is_first : Bool) → index < length members → ¬ (bits % 2 ≡ 0)
    → old ++ appended comma is_first (chosen_from index members bits) ≡ start → new ≡ old ++ cond is_first (get_or members index none).now (comma ++ (get_or members index none).now)
    → new ++ appended comma false (chosen_from (index + 1) members (bits / 2)) ≡ start
member_pushed comma old new start members index bits none is_first below odd whole pushed =
    let one : bits % 2 ≡ 1 = omega (arith, odd) in
    let is_set : eqb (bits % 2) 1 ≡ true = ap (λ (n : ℕ). eqb n 1) one in
    let text : List ℕ = (get_or members index none).now in
    let rest : List (List ℕ) = chosen_from (index + 1) members (bits / 2) in
    let step : appended comma is_first (chosen_from index members bits) ≡ cond is_first text (comma ++ text) ++ after_commas comma rest =
    ap (λ (texts : List (List ℕ)). appended comma is_first texts) (chosen_next members index bits none true below is_set) ∙ first_appended comma is_first text rest in
    ap (λ (l : List ℕ). l ++ after_commas comma rest) pushed ∙ append_assoc old (cond is_first text (comma ++ text)) (after_commas comma rest) ∙ ap (λ (l : List ℕ). old ++ l) (sym step) ∙ whole

passed_by : (comma : List ℕ) (text start : List ℕ) (members : List (Bor (List ℕ))) (index bits : ℕ) (none : Bor (List ℕ)) (is_first : Bool) → index < length members → bits % 2 ≡ 0
    → text ++ appended comma is_first (chosen_from index members bits) ≡ start → text ++ appended comma is_first (chosen_from (index + 1) members (bits / 2)) ≡ start
passed_by comma text start members index bits none is_first below even whole =
    let is_clear : eqb (bits % 2) 1 ≡ false = ap (λ (n : ℕ). eqb n 1) even in
    ap (λ (texts : List (List ℕ)). text ++ appended comma is_first texts) (sym (chosen_next members index bits none false below is_clear)) ∙ whole

-- A member whose bit isn't set.
pub member_passed : (comma : List ℕ) (text start : List ℕ) (members : List (Bor (List ℕ))) (index bits : ℕ) (is_first : Bool) → index < length members → bits % 2 ≡ 0
    → text ++ appended comma is_first (chosen_from index members bits) ≡ start → text ++ appended comma is_first (chosen_from (index + 1) members (bits / 2)) ≡ start
member_passed comma text start [] index bits is_first below even whole = absurd (omega (arith, below))
member_passed comma text start (member ∷ members) index bits is_first below even whole = passed_by comma text start (member ∷ members) index bits member is_first below even whole

-- More bits than a mask has are never set.
pub never_beyond : (mask count : ℕ) → 64 ≤ count → mask < 2 ^ 64 → leb (2 ^ count) mask ≡ false
never_beyond mask count many small =
    let more : 2 ^ 64 ≤ 2 ^ count = pow-le-pow_right (omega arith) many in
    lt-leb (2 ^ count) mask (omega (arith, more, small))

-- No bits are left.
pub no_bits : (comma : List ℕ) (text start : List ℕ) (members : List (Bor (List ℕ))) (index bits : ℕ) (is_first : Bool) → bits ≡ 0
    → text ++ appended comma is_first (chosen_from index members bits) ≡ start → text ≡ start
no_bits comma text start members index bits is_first zero whole =
    let none : chosen_from index members bits ≡ [] = ap (λ (n : ℕ). chosen_from index members n) zero ∙ none_chosen (texts_of (drop index members)) in
    sym (append-nil text) ∙ ap (λ (l : List ℕ). text ++ l) (sym (ap (λ (texts : List (List ℕ)). appended comma is_first texts) none ∙ nothing_appended comma is_first)) ∙ whole

-- No members are left.
pub no_members : (comma : List ℕ) (text start : List ℕ) (members : List (Bor (List ℕ))) (index bits : ℕ) (is_first : Bool) → length members ≤ index
    → text ++ appended comma is_first (chosen_from index members bits) ≡ start → text ≡ start
no_members comma text start members index bits is_first over whole =
    let none : chosen_from index members bits ≡ [] = ap (λ (l : List (Bor (List ℕ))). chosen (texts_of l) bits) (drop_all index members over) in
    sym (append-nil text) ∙ ap (λ (l : List ℕ). text ++ l) (sym (ap (λ (texts : List (List ℕ)). appended comma is_first texts) none ∙ nothing_appended comma is_first)) ∙ whole
