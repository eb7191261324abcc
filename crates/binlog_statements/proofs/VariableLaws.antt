-- Each text has exactly one list of status variables, and reading them one after the other gives it.
use Rattle.std.proofs.Common.{◌≡◌, ◌≢◌, ℕ, zero, suc, ◌+◌, ◌≤◌, ◌<◌, List, [], ◌∷◌, ◌++◌, length, take, drop, Option, Some, None, Result, Ok, Err, All, refl, sym, ap, subst, ◌∙◌, append_assoc, arith, length-append}
use Rattle.std.specs.List.{flat_map}
use Rattle.std.proofs.lemmas.List.{take-append-drop, append-nil}
use Rattle.std.proofs.lemmas.List.Concat.{flat_map-append}
use Rattle.std.proofs.lemmas.List.Elements.{All-nil, All-cons, All-head, All-tail}
use Rattle.binlog_consts.specs.declared.status_var_key.StatusVarKey.{StatusVarKey}
use Rattle.binlog_consts.specs.declared.status_var_key.UnknownStatusVarKey.{UnknownStatusVarKey}
use Rattle.binlog_consts.specs.StatusVarKeys.{status_var_key_number, status_var_key_of, status_var_key_is_code}
use Rattle.binlog_statements.specs.Layouts.{layout_of, value_len}
use Rattle.binlog_statements.specs.StatusVariables.{Variable, variable_bytes, IsWhole, BeginsWith, AreVariablesOf, variable_at, keyed, first_variable, with_others, variables_within, variables, HasNoKey, IsFirstOfKey}
use Rattle.binlog_statements.proofs.LayoutLaws.{measures, drop-length, take-length}

-- ---- the first variable

at_some : (key : StatusVarKey) (s : List ℕ) (o : Option ℕ) (x : Variable × List ℕ) → variable_at key s o ≡ Some x
    → (n : ℕ) × (o ≡ Some n) × (x.0 ≡ record { key = key; value = take n s }) × (x.1 ≡ drop n s)
at_some key s None x e = absurd cc
at_some key s (Some n) x e =
    let v : Variable = record { key = key; value = take n s } in
    let same : ◌≡◌ {A = Variable × List ℕ} (v, drop n s) x = cc in
    (n, refl, sym (ap (λ (y : Variable × List ℕ). y.0) same), sym (ap (λ (y : Variable × List ℕ). y.1) same))

-- the first variable and the bytes after it are the text
pub record IsFirst (text : List ℕ) (x : Variable × List ℕ) : Type 0 where
  pub is : text ≡ variable_bytes x.0 ++ x.1
  pub whole : IsWhole x.0

keyed_sound : (number : ℕ) (s : List ℕ) (k : Result StatusVarKey UnknownStatusVarKey) (x : Variable × List ℕ) → status_var_key_of number ≡ k
    → keyed k s ≡ Some x → IsFirst (number ∷ s) x
keyed_sound number s (Err why) x is e = absurd cc
keyed_sound number s (Ok key) x is e =
    let a = at_some key s (value_len (layout_of key) s) x e in
    let sound = (measures (layout_of key)).sound s a.0 a.1 in
    let known : number ≡ status_var_key_number key = status_var_key_is_code.only number key is in
    let v : Variable = record { key = key; value = take a.0 s } in
    let first : IsFirst (number ∷ s) (v, drop a.0 s) = record {
      is = ap (λ (n : ℕ). n ∷ s) known ∙ ap (λ (t : List ℕ). status_var_key_number key ∷ t) (sym (take-append-drop a.0 s));
      whole = sound.1;
    } in
    let same : ◌≡◌ {A = Variable × List ℕ} (v, drop a.0 s) x = ap (λ (w : Variable). (w, drop a.0 s)) (sym a.2) ∙ ap (λ (t : List ℕ). (x.0, t)) (sym a.3) in
    subst (λ (y : Variable × List ℕ). IsFirst (number ∷ s) y) same first

pub first_sound : (text : List ℕ) (x : Variable × List ℕ) → first_variable text ≡ Some x → IsFirst text x
first_sound [] x e = absurd cc
first_sound (number ∷ s) x e = keyed_sound number s (status_var_key_of number) x refl e

pub first_complete : (v : Variable) (r : List ℕ) → IsWhole v → first_variable (variable_bytes v ++ r) ≡ Some (v, r)
first_complete v r whole =
    let counted = (measures (layout_of v.key)).complete v.value r whole in
    ap (λ (k : Result StatusVarKey UnknownStatusVarKey). keyed k (v.value ++ r)) (status_var_key_is_code.again v.key)
    ∙ ap (variable_at v.key (v.value ++ r)) counted
    ∙ ap (λ (t : List ℕ). Some (record { key = v.key; value = t }, drop (length v.value) (v.value ++ r))) (take-length v.value r)
    ∙ ap (λ (t : List ℕ). Some (v, t)) (drop-length v.value r)

-- the bytes after a first variable are shorter than the text
first_shorter : (text : List ℕ) (x : Variable × List ℕ) → first_variable text ≡ Some x → suc (length x.1) ≤ length text
first_shorter text x e =
    let first = first_sound text x e in
    omega (arith, ap length first.is, length-append (variable_bytes x.0) x.1)

-- ---- the bound on their number

abbrev Enough : ℕ → List ℕ → Type 0
Enough n text = length text ≤ n

same_behind : (n m : ℕ) (text : List ℕ) (o : Option (Variable × List ℕ)) → first_variable text ≡ o → Enough (suc n) text → Enough (suc m) text
    → ((r : List ℕ) → Enough n r → Enough m r → variables_within n r ≡ variables_within m r)
    → with_others o (variables_within n) ≡ with_others o (variables_within m)
same_behind n m text None e a b same = refl
same_behind n m text (Some x) e a b same =
    let short = first_shorter text x e in
    ap (λ (vs : List Variable). x.0 ∷ vs) (same x.1 (omega (arith, a, short)) (omega (arith, b, short)))

-- with a bound of at least the text's length, the bound makes no difference
same_within : (n m : ℕ) (text : List ℕ) → Enough n text → Enough m text → variables_within n text ≡ variables_within m text
same_within zero zero text a b = refl
same_within zero (suc m) [] a b = refl
same_within zero (suc m) (c ∷ s) a b = absurd (omega (arith, a))
same_within (suc n) zero [] a b = refl
same_within (suc n) zero (c ∷ s) a b = absurd (omega (arith, b))
same_within (suc n) (suc m) text a b = same_behind n m text (first_variable text) refl a b (same_within n m)

-- a text that doesn't begin with a whole variable has none
pub variables-none : (text : List ℕ) → first_variable text ≡ None → variables text ≡ []
unfolding variables
variables-none text e = none (length text)
  where
    none : (n : ℕ) → variables_within n text ≡ []
    none zero = refl
    none (suc n) = ap (λ (o : Option (Variable × List ℕ)). with_others o (variables_within n)) e

-- otherwise they are the first and those of the bytes after it
pub variables-some : (text : List ℕ) (x : Variable × List ℕ) → first_variable text ≡ Some x → variables text ≡ x.0 ∷ variables x.1
unfolding variables
variables-some text x e = within (length text) (first_shorter text x e)
  where
    within : (n : ℕ) → suc (length x.1) ≤ n → variables_within n text ≡ x.0 ∷ variables_within (length x.1) x.1
    within zero short = absurd (omega (arith, short))
    within (suc n) short =
        ap (λ (o : Option (Variable × List ℕ)). with_others o (variables_within n)) e
        ∙ ap (λ (vs : List Variable). x.0 ∷ vs) (same_within n (length x.1) x.1 (omega (arith, short)) (omega arith))

pub variables-nil : variables [] ≡ []
unfolding variables
variables-nil = refl

-- ---- all of them

abbrev pub bytes_of : List Variable → List ℕ
bytes_of vars = flat_map variable_bytes vars

-- whole variables at the start of a text come first
pub variables-front : (vars : List Variable) (r : List ℕ) → All IsWhole vars → variables (bytes_of vars ++ r) ≡ vars ++ variables r
variables-front [] r whole = refl
variables-front (v ∷ vars) r whole =
    let behind : List ℕ = bytes_of vars ++ r in
    let moved : bytes_of (v ∷ vars) ++ r ≡ variable_bytes v ++ behind = append_assoc (variable_bytes v) (bytes_of vars) r in
    let first : first_variable (variable_bytes v ++ behind) ≡ Some (v, behind) = first_complete v behind (All-head IsWhole v vars whole) in
    ap variables moved
    ∙ variables-some (variable_bytes v ++ behind) (v, behind) first
    ∙ ap (λ (vs : List Variable). v ∷ vs) (variables-front vars r (All-tail IsWhole v vars whole))

abbrev Begins : List ℕ → List Variable → Type 0
Begins text vars = (rest : List ℕ) × BeginsWith text vars rest

begins_behind : (n : ℕ) (text : List ℕ) (o : Option (Variable × List ℕ)) → first_variable text ≡ o → ((r : List ℕ) → Begins r (variables_within n r))
    → Begins text (with_others o (variables_within n))
begins_behind n text None e begins = (text, record { is = refl; whole = All-nil IsWhole })
begins_behind n text (Some x) e begins =
    let first = first_sound text x e in
    let others = begins x.1 in
    let vars : List Variable = variables_within n x.1 in (
      others.0,
      record {
        is = first.is ∙ ap (λ (t : List ℕ). variable_bytes x.0 ++ t) others.1.is ∙ sym (append_assoc (variable_bytes x.0) (bytes_of vars) others.0);
        whole = All-cons IsWhole x.0 vars first.whole others.1.whole;
      },
    )

-- a text begins with its variables
begins_within : (n : ℕ) (text : List ℕ) → Begins text (variables_within n text)
begins_within zero text = (text, record { is = refl; whole = All-nil IsWhole })
begins_within (suc n) text = begins_behind n text (first_variable text) refl (begins_within n)

-- followed by a rest
pub variables_begin : (text : List ℕ) → (rest : List ℕ) × BeginsWith text (variables text) rest
unfolding variables
variables_begin text = begins_within (length text) text

-- no other list of whole variables at its start has more bytes
pub variables_longest : (text : List ℕ) (others : List Variable) (left : List ℕ) → BeginsWith text others left
    → length (bytes_of others) ≤ length (bytes_of (variables text))
variables_longest text others left other =
    let all : variables text ≡ others ++ variables left = ap variables other.is ∙ variables-front others left other.whole in
    let bytes : bytes_of (variables text) ≡ bytes_of others ++ bytes_of (variables left)
    = ap bytes_of all ∙ flat_map-append variable_bytes others (variables left) in
    let long : length (bytes_of (variables text)) ≡ length (bytes_of others) + length (bytes_of (variables left))
    = ap length bytes ∙ length-append (bytes_of others) (bytes_of (variables left)) in
    omega (arith, long)

pub variables_are : (text : List ℕ) → AreVariablesOf text (variables text)
variables_are text = record {
  rest = (variables_begin text).0;
  front = (variables_begin text).1;
  longest = variables_longest text;
}

-- variables of no bytes are no variables
no_bytes : (vars : List Variable) → length (bytes_of vars) ≤ 0 → vars ≡ []
no_bytes [] h = refl
no_bytes (v ∷ vars) h = absurd (omega (arith, h, length-append (variable_bytes v) (bytes_of vars)))

pub variables_only : (text : List ℕ) (vars : List Variable) → AreVariablesOf text vars → vars ≡ variables text
variables_only text vars are =
    let all : variables text ≡ vars ++ variables are.rest = ap variables are.front.is ∙ variables-front vars are.rest are.front.whole in
    let mine = variables_are text in
    let longer = are.longest (variables text) mine.rest mine.front in
    let bytes : bytes_of (variables text) ≡ bytes_of vars ++ bytes_of (variables are.rest)
    = ap bytes_of all ∙ flat_map-append variable_bytes vars (variables are.rest) in
    let few : length (bytes_of (variables are.rest)) ≤ 0 = omega (arith, longer, ap length bytes, length-append (bytes_of vars) (bytes_of (variables are.rest))) in
    let none : variables are.rest ≡ [] = no_bytes (variables are.rest) few in
    sym (all ∙ ap (λ (vs : List Variable). vars ++ vs) none ∙ append-nil vars)

-- ---- the first of a key

pub first_here : (key : StatusVarKey) (vars : List Variable) (v : Variable) (others : List Variable) → vars ≡ v ∷ others → v.key ≡ key → IsFirstOfKey key vars v
first_here key vars v others is has = record { before = []; after = others; is = is; has = has; first = All-nil (λ (w : Variable). w.key ≢ key) }

pub first_later : (key : StatusVarKey) (vars : List Variable) (w : Variable) (others : List Variable) (v : Variable) → vars ≡ w ∷ others → w.key ≢ key
    → IsFirstOfKey key others v → IsFirstOfKey key vars v
first_later key vars w others v is other h = record {
  before = w ∷ h.before;
  after = h.after;
  is = is ∙ ap (λ (vs : List Variable). w ∷ vs) h.is;
  has = h.has;
  first = All-cons (λ (u : Variable). u.key ≢ key) w h.before other h.first;
}

pub none_later : (key : StatusVarKey) (vars : List Variable) (w : Variable) (others : List Variable) → vars ≡ w ∷ others → w.key ≢ key
    → HasNoKey key others → HasNoKey key vars
none_later key vars w others is other h =
    subst (λ (vs : List Variable). HasNoKey key vs) (sym is) (All-cons (λ (u : Variable). u.key ≢ key) w others other h)

pub none_here : (key : StatusVarKey) (vars : List Variable) → vars ≡ [] → HasNoKey key vars
none_here key vars is = subst (λ (vs : List Variable). HasNoKey key vs) (sym is) (All-nil (λ (u : Variable). u.key ≢ key))

-- after the first variable there are fewer
pub fewer_behind : (s t : List ℕ) (v : Variable) → variables s ≡ v ∷ variables t → length (variables t) < length (variables s)
fewer_behind s t v e = omega (arith, ap length e)
