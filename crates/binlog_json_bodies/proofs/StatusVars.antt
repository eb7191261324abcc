-- The values of status variables, by their bytes.
use Rattle.std.proofs.Common.{◌≡◌, ◌≢◌, ◌↔◌, ℕ, zero, suc, ◌+◌, ◌≤◌, Bool, true, false, List, [], ◌∷◌, ◌++◌, length, inl, inr, refl, sym, ap, ◌∙◌, arith, append_assoc, append-nil, length-append, flat_map, IsTrue, nat_eq}
use Rattle.std.specs.List.{All}
use Rattle.std.proofs.lemmas.Bool.{false≢true}
use Rattle.std.proofs.lemmas.Bool.Decides.{eqb_tells}
use Rattle.std.proofs.lemmas.List.Elements.{All-head, All-tail}
use Rattle.binlog_file.specs.Fields.{HasNoZero}
use Rattle.binlog_file.specs.Layouts.{AreNames, ended}
use Rattle.binlog_file.specs.StatusVariables.{Variable, variable_bytes, variables}
use Rattle.binlog_file.proofs.VariableLaws.{variables_begin}
use Rattle.binlog_json_bodies.specs.StatusVars.{is_set_in, names_from, names_in}

-- ---- flags

pub set_is : (b : Bool) (v : List ℕ) → (IsTrue b ↔ (v ≢ 0 ∷ [])) → b ≡ is_set_in v
set_is true (zero ∷ []) same = absurd (same.0 refl refl)
set_is false (zero ∷ []) same = refl
set_is true [] same = refl
set_is false [] same = absurd (false≢true (same.1 (λ e. cc)))
set_is true (zero ∷ y ∷ ys) same = refl
set_is false (zero ∷ y ∷ ys) same = absurd (false≢true (same.1 (λ e. cc)))
set_is true (suc x ∷ ys) same = refl
set_is false (suc x ∷ ys) same = absurd (false≢true (same.1 (λ e. cc)))

-- ---- names

-- A name, and those after its terminating zero byte.
one_name : (front name rest : List ℕ) → HasNoZero name → names_from front ((name ++ 0 ∷ []) ++ rest) ≡ (front ++ name) ∷ names_from [] rest
one_name front [] rest none = ap (λ (n : List ℕ). n ∷ names_from [] rest) (sym (append-nil front))
one_name front (zero ∷ name) rest none = absurd none
one_name front (suc b ∷ name) rest none =
    one_name (front ++ suc b ∷ []) name rest none ∙ ap (λ (n : List ℕ). n ∷ names_from [] rest) (append_assoc front (suc b ∷ []) name)

all_names : (names : List (List ℕ)) → All HasNoZero names → names_from [] (flat_map ended names) ≡ names
all_names [] none = refl
all_names (name ∷ names) none =
    one_name [] name (flat_map ended names) (All-head HasNoZero name names none) ∙ ap (λ (more : List (List ℕ)). name ∷ more) (all_names names (All-tail HasNoZero name names none))

differs : (a b : ℕ) → a ≢ b → nat_eq a b ≡ false
differs a b unlike = elim (eqb_tells a b) [ inl same ↦ absurd (unlike same.1) | inr other ↦ other.0 ]

pub names_are : (value : List ℕ) (names : List (List ℕ)) → AreNames value names → names ≡ names_in value
names_are value names (inl (is, none)) = rw is none
names_are value names (inr (few, is, zeros)) = rw (is, differs (length names) 254 few) (sym (all_names names zeros))

-- ---- lengths

-- The number of bytes of the variables.
abbrev pub variables_len : List Variable → ℕ
variables_len vars = length (flat_map variable_bytes vars)

-- The variables have at most as many bytes as the text.
pub variables_fit : (text : List ℕ) → variables_len (variables text) ≤ length text
variables_fit text =
    let begins = variables_begin text in
    omega (arith, ap length begins.1.is, length-append (flat_map variable_bytes (variables text)) begins.0)

-- The variables up to and including one have at most as many bytes as the text.
pub one_more_fits : (text : List ℕ) (len : ℕ) (left after : List Variable) (v : Variable)
    → len + variables_len left ≡ variables_len (variables text) → left ≡ v ∷ after → len + (1 + length v.value) ≤ length text
one_more_fits text len left after v so_far is =
    omega (arith, so_far, ap variables_len is, length-append (variable_bytes v) (flat_map variable_bytes after), variables_fit text)
