-- Each text has exactly one list of status variables, listed or not, and reading them one after the other gives it.
use Rattle.std.proofs.Common.{◌≡◌, ℕ, zero, suc, ◌+◌, ◌==◌, ◌≤◌, inl, inr, Bool, true, false, if◌then◌else◌, List, [], ◌∷◌, ◌++◌, length, take, drop, flat_map, Option, None, Some, Result, All, refl, sym, ap, subst, ◌∙◌, append_assoc, append-nil, arith, eqb-true, length-append, take-append-drop}
use Rattle.std.proofs.lemmas.List.Concat.{flat_map-append}
use Rattle.std.proofs.lemmas.List.Elements.{All-nil, All-cons, All-head, All-tail}
use Rattle.binlog_consts.specs.declared.status_var_key.StatusVarKey.{StatusVarKey}
use Rattle.binlog_consts.specs.declared.status_var_key.UnknownStatusVarKey.{UnknownStatusVarKey}
use Rattle.binlog_consts.specs.StatusVarKeys.{status_var_key_past}
use Rattle.binlog_file.specs.Layouts.{fixed_len, plus}
use Rattle.binlog_file.specs.StatusVariables.{Variable, variable_bytes, keyed, first_variable}
use Rattle.binlog_file.proofs.VariableLaws.{first_sound, first_complete}
use Rattle.binlog_statements.proofs.LayoutLaws.{measures_fixed, take-length, drop-length}
use Rattle.binlog_json_bodies.specs.KnownVariables.{Known, listed, unlisted, behind_flags, behind_count, announced_len, unlisted_len, unlisted_at, first_by, first_known, with_others, known_within, known_variables, known_bytes, IsAnnounced, IsUnlisted, IsWholeKnown, BeginsWithKnown, AreKnownOf}
use Rattle.binlog_json_bodies.proofs.KnownVariables.{known-some}

-- ---- one byte, and as many as it announces

plus_some : (n : ℕ) (o : Option ℕ) (k : ℕ) → plus n o ≡ Some k → (m : ℕ) × (o ≡ Some m) × (n + m ≡ k)
plus_some n None k e = absurd cc
plus_some n (Some m) k e = (m, refl, cc)

announced_sound : (count : ℕ → ℕ) (s : List ℕ) (n : ℕ) → announced_len count s ≡ Some n → (n ≤ length s) × IsAnnounced count (take n s)
announced_sound count [] n e = absurd cc
announced_sound count (first ∷ s) n e =
    let p = plus_some 1 (fixed_len (count first) s) n e in
    let fixed = (measures_fixed (count first)).sound s p.0 p.1 in
    let is : suc p.0 ≡ n = omega (arith, p.2) in
    subst (λ (m : ℕ). (m ≤ suc (length s)) × IsAnnounced count (take m (first ∷ s))) is
    (omega (arith, fixed.0), (first, take p.0 s, refl, fixed.1))

announced_complete : (count : ℕ → ℕ) (v r : List ℕ) → IsAnnounced count v → announced_len count (v ++ r) ≡ Some (length v)
announced_complete count v r h =
    let fixed : fixed_len (count h.0) (h.1 ++ r) ≡ Some (length h.1) = (measures_fixed (count h.0)).complete h.1 r h.3 in
    let all : plus 1 (fixed_len (count h.0) (h.1 ++ r)) ≡ Some (suc (length h.1)) = ap (plus 1) fixed ∙ ap (λ (k : ℕ). Some k) (omega arith) in
    subst (λ (w : List ℕ). announced_len count (w ++ r) ≡ Some (length w)) (sym h.2) all

-- ---- the values of unlisted variables

abbrev Counted : ℕ → List ℕ → ℕ → Type 0
Counted number s n = (n ≤ length s) × IsUnlisted number (take n s)

sound_by : (a b c d e : Bool) (number : ℕ) (s : List ℕ) (n : ℕ) → (number == 21) ≡ a → (number == 128) ≡ b → (number == 129) ≡ c → (number == 130) ≡ d → (number == 131) ≡ e
    → (if a then fixed_len 1 s else if b then fixed_len 3 s else if c then fixed_len 8 s else if d then announced_len behind_flags s else if e then announced_len behind_count s else None) ≡ Some n
    → Counted number s n
sound_by true b c d e number s n p q t u w is = let whole = (measures_fixed 1).sound s n is in (whole.0, inl (eqb-true number 21 p, whole.1))
sound_by false true c d e number s n p q t u w is = let whole = (measures_fixed 3).sound s n is in (whole.0, inr (inl (eqb-true number 128 q, whole.1)))
sound_by false false true d e number s n p q t u w is = let whole = (measures_fixed 8).sound s n is in (whole.0, inr (inr (inl (eqb-true number 129 t, whole.1))))
sound_by false false false true e number s n p q t u w is =
    let whole = announced_sound behind_flags s n is in
    (whole.0, inr (inr (inr (inl (eqb-true number 130 u, whole.1)))))
sound_by false false false false true number s n p q t u w is =
    let whole = announced_sound behind_count s n is in
    (whole.0, inr (inr (inr (inr (eqb-true number 131 w, whole.1)))))
sound_by false false false false false number s n p q t u w is = absurd cc

-- A counted prefix is there, and is a whole value.
unlisted_sound : (number : ℕ) (s : List ℕ) (n : ℕ) → unlisted_len number s ≡ Some n → Counted number s n
unfolding unlisted_len
unlisted_sound number s n is = sound_by (number == 21) (number == 128) (number == 129) (number == 130) (number == 131) number s n refl refl refl refl refl is

-- A whole value is counted, whatever follows it.
unlisted_complete : (number : ℕ) (v r : List ℕ) → IsUnlisted number v → unlisted_len number (v ++ r) ≡ Some (length v)
unfolding unlisted_len
unlisted_complete number v r (inl h) = subst (λ (k : ℕ). unlisted_len k (v ++ r) ≡ Some (length v)) (sym h.0) ((measures_fixed 1).complete v r h.1)
unlisted_complete number v r (inr (inl h)) = subst (λ (k : ℕ). unlisted_len k (v ++ r) ≡ Some (length v)) (sym h.0) ((measures_fixed 3).complete v r h.1)
unlisted_complete number v r (inr (inr (inl h))) = subst (λ (k : ℕ). unlisted_len k (v ++ r) ≡ Some (length v)) (sym h.0) ((measures_fixed 8).complete v r h.1)
unlisted_complete number v r (inr (inr (inr (inl h)))) = subst (λ (k : ℕ). unlisted_len k (v ++ r) ≡ Some (length v)) (sym h.0) (announced_complete behind_flags v r h.1)
unlisted_complete number v r (inr (inr (inr (inr h)))) = subst (λ (k : ℕ). unlisted_len k (v ++ r) ≡ Some (length v)) (sym h.0) (announced_complete behind_count v r h.1)

-- Their numbers are above those of the keys.
unlisted_past : (number : ℕ) (v : List ℕ) → IsUnlisted number v → 21 ≤ number
unlisted_past number v (inl h) = omega (arith, h.0)
unlisted_past number v (inr (inl h)) = omega (arith, h.0)
unlisted_past number v (inr (inr (inl h))) = omega (arith, h.0)
unlisted_past number v (inr (inr (inr (inl h)))) = omega (arith, h.0)
unlisted_past number v (inr (inr (inr (inr h)))) = omega (arith, h.0)

not_listed : (number : ℕ) (s : List ℕ) → 21 ≤ number → first_variable (number ∷ s) ≡ None
not_listed number s past = ap (λ (k : Result StatusVarKey UnknownStatusVarKey). keyed k s) (status_var_key_past number past)

-- ---- the first variable

-- The first variable and the bytes after it are the text.
pub record IsFirst (text : List ℕ) (x : Known × List ℕ) : Type 0 where
  pub is : text ≡ known_bytes x.0 ++ x.1
  pub whole : IsWholeKnown x.0

at_sound : (number : ℕ) (s : List ℕ) (o : Option ℕ) (x : Known × List ℕ) → unlisted_len number s ≡ o → unlisted_at number s o ≡ Some x → IsFirst (number ∷ s) x
at_sound number s None x is e = absurd cc
at_sound number s (Some n) x is e =
    let sound = unlisted_sound number s n is in
    let first : IsFirst (number ∷ s) (unlisted number (take n s), drop n s) = record {
      is = ap (λ (t : List ℕ). number ∷ t) (sym (take-append-drop n s));
      whole = sound.1;
    } in
    let same : ◌≡◌ {A = Known × List ℕ} (unlisted number (take n s), drop n s) x = cc in
    subst (λ (y : Known × List ℕ). IsFirst (number ∷ s) y) same first

by_sound : (text : List ℕ) (o : Option (Variable × List ℕ)) (x : Known × List ℕ) → first_variable text ≡ o → first_by o text ≡ Some x → IsFirst text x
by_sound text (Some y) x is e =
    let sound = first_sound text y is in
    let first : IsFirst text (listed y.0, y.1) = record { is = sound.is; whole = sound.whole } in
    let same : ◌≡◌ {A = Known × List ℕ} (listed y.0, y.1) x = cc in
    subst (λ (z : Known × List ℕ). IsFirst text z) same first
by_sound [] None x is e = absurd cc
by_sound (number ∷ s) None x is e = at_sound number s (unlisted_len number s) x refl e

known_sound : (text : List ℕ) (x : Known × List ℕ) → first_known text ≡ Some x → IsFirst text x
known_sound text x e = by_sound text (first_variable text) x refl e

known_complete : (v : Known) (r : List ℕ) → IsWholeKnown v → first_known (known_bytes v ++ r) ≡ Some (v, r)
known_complete (listed v) r whole = ap (λ (o : Option (Variable × List ℕ)). first_by o (variable_bytes v ++ r)) (first_complete v r whole)
known_complete (unlisted number value) r whole =
    let none : first_variable (number ∷ (value ++ r)) ≡ None = not_listed number (value ++ r) (unlisted_past number value whole) in
    ap (λ (o : Option (Variable × List ℕ)). first_by o (number ∷ (value ++ r))) none
    ∙ ap (unlisted_at number (value ++ r)) (unlisted_complete number value r whole)
    ∙ ap (λ (t : List ℕ). Some (unlisted number t, drop (length value) (value ++ r))) (take-length value r)
    ∙ ap (λ (t : List ℕ). Some (unlisted number value, t)) (drop-length value r)

-- ---- all of them

abbrev bytes_of : List Known → List ℕ
bytes_of vars = flat_map known_bytes vars

-- Whole variables at the start of a text come first.
known-front : (vars : List Known) (r : List ℕ) → All IsWholeKnown vars → known_variables (bytes_of vars ++ r) ≡ vars ++ known_variables r
known-front [] r whole = refl
known-front (v ∷ vars) r whole =
    let behind : List ℕ = bytes_of vars ++ r in
    let moved : bytes_of (v ∷ vars) ++ r ≡ known_bytes v ++ behind = append_assoc (known_bytes v) (bytes_of vars) r in
    let first : first_known (known_bytes v ++ behind) ≡ Some (v, behind) = known_complete v behind (All-head IsWholeKnown v vars whole) in
    ap known_variables moved
    ∙ known-some (known_bytes v ++ behind) (v, behind) first
    ∙ ap (λ (vs : List Known). v ∷ vs) (known-front vars r (All-tail IsWholeKnown v vars whole))

abbrev Begins : List ℕ → List Known → Type 0
Begins text vars = (rest : List ℕ) × BeginsWithKnown text vars rest

begins_behind : (n : ℕ) (text : List ℕ) (o : Option (Known × List ℕ)) → first_known text ≡ o → ((r : List ℕ) → Begins r (known_within n r))
    → Begins text (with_others o (known_within n))
begins_behind n text None e begins = (text, record { is = refl; whole = All-nil IsWholeKnown })
begins_behind n text (Some x) e begins =
    let first = known_sound text x e in
    let others = begins x.1 in
    let vars : List Known = known_within n x.1 in (
      others.0,
      record {
        is = first.is ∙ ap (λ (t : List ℕ). known_bytes x.0 ++ t) others.1.is ∙ sym (append_assoc (known_bytes x.0) (bytes_of vars) others.0);
        whole = All-cons IsWholeKnown x.0 vars first.whole others.1.whole;
      },
    )

begins_within : (n : ℕ) (text : List ℕ) → Begins text (known_within n text)
begins_within zero text = (text, record { is = refl; whole = All-nil IsWholeKnown })
begins_within (suc n) text = begins_behind n text (first_known text) refl (begins_within n)

-- A text begins with its variables, followed by a rest.
known_begin : (text : List ℕ) → (rest : List ℕ) × BeginsWithKnown text (known_variables text) rest
unfolding known_variables
known_begin text = begins_within (length text) text

-- No other list of whole variables at its start has more bytes.
known_longest : (text : List ℕ) (others : List Known) (left : List ℕ) → BeginsWithKnown text others left → length (bytes_of others) ≤ length (bytes_of (known_variables text))
known_longest text others left other =
    let all : known_variables text ≡ others ++ known_variables left = ap known_variables other.is ∙ known-front others left other.whole in
    let bytes : bytes_of (known_variables text) ≡ bytes_of others ++ bytes_of (known_variables left)
    = ap bytes_of all ∙ flat_map-append known_bytes others (known_variables left) in
    let long : length (bytes_of (known_variables text)) ≡ length (bytes_of others) + length (bytes_of (known_variables left))
    = ap length bytes ∙ length-append (bytes_of others) (bytes_of (known_variables left)) in
    omega (arith, long)

pub known_are : (text : List ℕ) → AreKnownOf text (known_variables text)
known_are text = record {
  rest = (known_begin text).0;
  front = (known_begin text).1;
  longest = known_longest text;
}

-- Variables of no bytes are no variables.
no_bytes : (vars : List Known) → length (bytes_of vars) ≤ 0 → vars ≡ []
no_bytes [] h = refl
no_bytes (listed v ∷ vars) h = absurd (omega (arith, h, length-append (variable_bytes v) (bytes_of vars)))
no_bytes (unlisted number value ∷ vars) h = absurd (omega (arith, h, length-append (number ∷ value) (bytes_of vars)))

pub known_only : (text : List ℕ) (vars : List Known) → AreKnownOf text vars → vars ≡ known_variables text
known_only text vars are =
    let all : known_variables text ≡ vars ++ known_variables are.rest = ap known_variables are.front.is ∙ known-front vars are.rest are.front.whole in
    let mine = known_are text in
    let longer = are.longest (known_variables text) mine.rest mine.front in
    let bytes : bytes_of (known_variables text) ≡ bytes_of vars ++ bytes_of (known_variables are.rest)
    = ap bytes_of all ∙ flat_map-append known_bytes vars (known_variables are.rest) in
    let few : length (bytes_of (known_variables are.rest)) ≤ 0 = omega (arith, longer, ap length bytes, length-append (bytes_of vars) (bytes_of (known_variables are.rest))) in
    let none : known_variables are.rest ≡ [] = no_bytes (known_variables are.rest) few in
    sym (all ∙ ap (λ (vs : List Known). vars ++ vs) none ∙ append-nil vars)
