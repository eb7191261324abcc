-- Status variables, listed or not, one after the other, and the client's collation that they state.
use Rattle.std.proofs.Common.{◌≡◌, ℕ, zero, suc, ◌+◌, ◌-◌, ◌≤◌, ◌<◌, List, [], ◌∷◌, ◌++◌, length, take, drop, flat_map, option_map, Option, None, Some, All, refl, sym, ap, subst, ◌∙◌, append_assoc, arith, length-append, length-drop}
use Rattle.std.specs.Option.{option_or}
use Rattle.std.proofs.lemmas.List.{take_all}
use Rattle.std.proofs.lemmas.List.Elements.{All-head, All-tail}
use Rattle.binlog_file.specs.StatusVariables.{Variable, variable_bytes, IsWhole, first_variable, variables}
use Rattle.binlog_file.proofs.VariableLaws.{first_sound, first_complete, variables-some, variables_begin}
use Rattle.binlog_json_bodies.specs.KnownVariables.{Known, listed, unlisted, unlisted_len, unlisted_at, first_unlisted, first_by, first_known, with_others, known_within, known_variables}
use Rattle.binlog_json_bodies.specs.ClientSets.{collation_in, last_collation, last_stated, client_collation, stated_first, first_stated, unlisted_stated}
use Rattle.binlog_json_bodies.specs.StatusVars.{behind_variables}
use Rattle.binlog_json_bodies.proofs.ClientSets.{option_or_again, option_or_none}

-- ---- the bytes after a first variable

unlisted_shorter : (number : ℕ) (s : List ℕ) (o : Option ℕ) (x : Known × List ℕ) → unlisted_at number s o ≡ Some x → length x.1 ≤ length s
unlisted_shorter number s None x e = absurd cc
unlisted_shorter number s (Some n) x e =
    let same : ◌≡◌ {A = Known × List ℕ} (unlisted number (take n s), drop n s) x = cc in
    omega (arith, ap (λ (y : Known × List ℕ). length y.1) same, length-drop n s)

shorter_by : (text : List ℕ) (o : Option (Variable × List ℕ)) (x : Known × List ℕ) → first_variable text ≡ o → first_by o text ≡ Some x → suc (length x.1) ≤ length text
shorter_by text (Some y) x is e =
    let same : ◌≡◌ {A = Known × List ℕ} (listed y.0, y.1) x = cc in
    let first = first_sound text y is in
    omega (arith, ap (λ (z : Known × List ℕ). length z.1) same, ap length first.is, length-append (variable_bytes y.0) y.1)
shorter_by [] None x is e = absurd cc
shorter_by (number ∷ s) None x is e = let less = unlisted_shorter number s (unlisted_len number s) x e in omega (arith, less)

-- They are shorter than the text.
pub first_shorter : (text : List ℕ) (x : Known × List ℕ) → first_known text ≡ Some x → suc (length x.1) ≤ length text
first_shorter text x e = shorter_by text (first_variable text) x refl e

-- ---- the bound on the number of variables

abbrev Enough : ℕ → List ℕ → Type 0
Enough n text = length text ≤ n

same_behind : (n m : ℕ) (text : List ℕ) (o : Option (Known × List ℕ)) → first_known text ≡ o → Enough (suc n) text → Enough (suc m) text
    → ((r : List ℕ) → Enough n r → Enough m r → known_within n r ≡ known_within m r)
    → with_others o (known_within n) ≡ with_others o (known_within m)
same_behind n m text None e a b same = refl
same_behind n m text (Some x) e a b same =
    let short = first_shorter text x e in
    ap (λ (vs : List Known). x.0 ∷ vs) (same x.1 (omega (arith, a, short)) (omega (arith, b, short)))

-- With a bound of at least the text's length, the bound makes no difference.
same_within : (n m : ℕ) (text : List ℕ) → Enough n text → Enough m text → known_within n text ≡ known_within m text
same_within zero zero text a b = refl
same_within zero (suc m) [] a b = refl
same_within zero (suc m) (c ∷ s) a b = absurd (omega (arith, a))
same_within (suc n) zero [] a b = refl
same_within (suc n) zero (c ∷ s) a b = absurd (omega (arith, b))
same_within (suc n) (suc m) text a b = same_behind n m text (first_known text) refl a b (same_within n m)

-- A text that doesn't begin with a whole variable has none.
pub known-none : (text : List ℕ) → first_known text ≡ None → known_variables text ≡ []
unfolding known_variables
known-none text e = none (length text)
  where
    none : (n : ℕ) → known_within n text ≡ []
    none zero = refl
    none (suc n) = ap (λ (o : Option (Known × List ℕ)). with_others o (known_within n)) e

-- Otherwise they are the first and those of the bytes after it.
pub known-some : (text : List ℕ) (x : Known × List ℕ) → first_known text ≡ Some x → known_variables text ≡ x.0 ∷ known_variables x.1
unfolding known_variables
known-some text x e = within (length text) (first_shorter text x e)
  where
    within : (n : ℕ) → suc (length x.1) ≤ n → known_within n text ≡ x.0 ∷ known_within (length x.1) x.1
    within zero short = absurd (omega (arith, short))
    within (suc n) short =
        ap (λ (o : Option (Known × List ℕ)). with_others o (known_within n)) e
        ∙ ap (λ (vs : List Known). x.0 ∷ vs) (same_within n (length x.1) x.1 (omega (arith, short)) (omega arith))

-- ---- what the variables state, one after the other

none_by : (text : List ℕ) (o : Option (Known × List ℕ)) → first_known text ≡ o → option_map stated_first o ≡ None → client_collation text ≡ None
unfolding client_collation
none_by text None is none = ap last_stated (known-none text is)
none_by text (Some x) is none = absurd cc

stated_by : (text : List ℕ) (o : Option (Known × List ℕ)) (collation : Option ℕ) (rest : List ℕ) → first_known text ≡ o → option_map stated_first o ≡ Some (collation, rest)
    → (client_collation text ≡ option_or (client_collation rest) collation) × (length rest < length text)
unfolding client_collation
stated_by text None collation rest is first = absurd cc
stated_by text (Some x) collation rest is first =
    let same : ◌≡◌ {A = Option ℕ × List ℕ} (stated_first x) (collation, rest) = cc in
    let shorter = first_shorter text x is in (
      ap last_stated (known-some text x is) ∙ ap (λ (y : Option ℕ × List ℕ). option_or (client_collation y.1) y.0) same,
      omega (arith, shorter, ap (λ (y : Option ℕ × List ℕ). length y.1) same),
    )

-- The client's collation is that of the bytes after a first variable, or else what it states.
pub stated_step : (text rest : List ℕ) (collation : Option ℕ) → first_stated text ≡ Some (collation, rest) → client_collation text ≡ option_or (client_collation rest) collation
unfolding first_stated
stated_step text rest collation is = (stated_by text (first_known text) collation rest refl is).0

pub stated_shorter : (text rest : List ℕ) (collation : Option ℕ) → first_stated text ≡ Some (collation, rest) → length rest < length text
unfolding first_stated
stated_shorter text rest collation is = (stated_by text (first_known text) collation rest refl is).1

-- The next variable states a collation, or the one so far stays.
pub one_more_stated : (text rest : List ℕ) (collation so_far new whole : Option ℕ) → first_stated text ≡ Some (collation, rest) → option_or (client_collation text) so_far ≡ whole
    → new ≡ option_or collation so_far → option_or (client_collation rest) new ≡ whole
one_more_stated text rest collation so_far new whole is found next =
    ap (λ (o : Option ℕ). option_or (client_collation rest) o) next
    ∙ sym (option_or_again (client_collation rest) collation so_far)
    ∙ sym (ap (λ (o : Option ℕ). option_or o so_far) (stated_step text rest collation is))
    ∙ found

-- No variable is left.
pub all_stated : (text : List ℕ) (so_far whole : Option ℕ) → first_stated text ≡ None → option_or (client_collation text) so_far ≡ whole → so_far ≡ whole
unfolding first_stated
all_stated text so_far whole none found =
    sym (ap (λ (o : Option ℕ). option_or o so_far) (none_by text (first_known text) refl none)) ∙ found

-- ---- the first variable, as it is found

abbrev bytes_of : List Variable → List ℕ
bytes_of vars = flat_map variable_bytes vars

-- A text begins with the first of its listed variables.
front_is : (text : List ℕ) (vars : List Variable) (v : Variable) → variables text ≡ v ∷ vars → (behind : List ℕ) × (text ≡ variable_bytes v ++ behind) × IsWhole v
front_is text vars v is =
    let begins = variables_begin text in
    let all : text ≡ bytes_of (v ∷ vars) ++ begins.0 = begins.1.is ∙ ap (λ (vs : List Variable). bytes_of vs ++ begins.0) is in
    let whole : All IsWhole (v ∷ vars) = subst (λ (vs : List Variable). All IsWhole vs) is begins.1.whole in
    (bytes_of vars ++ begins.0, all ∙ append_assoc (variable_bytes v) (bytes_of vars) begins.0, All-head IsWhole v vars whole)

after_front : (a r : List ℕ) → drop (length a) (a ++ r) ≡ r
after_front [] r = refl
after_front (x ∷ a) r = after_front a r

-- The first of the listed variables is no longer than the text.
pub listed_fits : (text start : List ℕ) (vars : List Variable) (v : Variable) → variables start ≡ v ∷ vars → start ≡ text → 1 + length v.value ≤ length text
listed_fits text start vars v is same =
    let front = front_is text vars v (sym (ap variables same) ∙ is) in
    omega (arith, ap length front.1, length-append (variable_bytes v) front.0)

-- A text that begins with a listed variable.
pub listed_stated : (text start : List ℕ) (vars : List Variable) (v : Variable) (collation : Option ℕ) (rest : List ℕ) → variables start ≡ v ∷ vars → start ≡ text
    → collation ≡ collation_in v → rest ≡ drop (1 + length v.value) text → first_stated text ≡ Some (collation, rest)
unfolding first_stated
listed_stated text start vars v collation rest is same states behind =
    let front = front_is text vars v (sym (ap variables same) ∙ is) in
    let first : first_variable text ≡ Some (v, front.0) = ap first_variable front.1 ∙ first_complete v front.0 front.2 in
    let one : 1 + length v.value ≡ suc (length v.value) = omega arith in
    let gone : drop (1 + length v.value) text ≡ front.0 =
    ap (λ (n : ℕ). drop n text) one ∙ ap (λ (t : List ℕ). drop (suc (length v.value)) t) front.1 ∙ after_front (variable_bytes v) front.0 in
    ap (λ (o : Option (Variable × List ℕ)). option_map stated_first (first_by o text)) first
    ∙ ap (λ (c : Option ℕ). Some (c, front.0)) (sym states)
    ∙ ap (λ (t : List ℕ). Some (collation, t)) (sym (behind ∙ gone))

no_first : (text : List ℕ) (o : Option (Variable × List ℕ)) → first_variable text ≡ o → variables text ≡ [] → o ≡ None
no_first text None is none = refl
no_first text (Some x) is none = absurd (omega (arith, ap length (sym none ∙ variables-some text x is)))

-- A text that begins with no listed variable.
pub none_listed : (text start : List ℕ) → variables start ≡ [] → start ≡ text → unlisted_stated text ≡ first_stated text
unfolding first_stated unlisted_stated
none_listed text start none same =
    let first : first_variable text ≡ None = no_first text (first_variable text) refl (sym (ap variables same) ∙ none) in
    sym (ap (λ (o : Option (Variable × List ℕ)). option_map stated_first (first_by o text)) first)

-- A text that begins with an unlisted variable.
pub unlisted_here : (text s rest : List ℕ) (number len : ℕ) → text ≡ number ∷ s → Some len ≡ unlisted_len number s → rest ≡ take (length s - len) (drop len s)
    → unlisted_stated text ≡ Some (None, rest)
unfolding unlisted_stated
unlisted_here text s rest number len is found behind =
    let whole : take (length s - len) (drop len s) ≡ drop len s = take_all (length s - len) (drop len s) (omega (arith, length-drop len s)) in
    ap (λ (t : List ℕ). option_map stated_first (first_unlisted t)) is
    ∙ ap (λ (o : Option ℕ). option_map stated_first (unlisted_at number s o)) (sym found)
    ∙ ap (λ (t : List ℕ). Some (stated_first (unlisted number (take len s), t))) (sym (behind ∙ whole))

-- A text that begins with none.
pub unlisted_short : (text s : List ℕ) (number : ℕ) → text ≡ number ∷ s → None ≡ unlisted_len number s → unlisted_stated text ≡ None
unfolding unlisted_stated
unlisted_short text s number is none =
    ap (λ (t : List ℕ). option_map stated_first (first_unlisted t)) is ∙ ap (λ (o : Option ℕ). option_map stated_first (unlisted_at number s o)) (sym none)

-- No bytes.
pub none_unlisted : (text : List ℕ) → length text ≡ 0 → unlisted_stated text ≡ None
unfolding unlisted_stated
none_unlisted [] none = refl
none_unlisted (number ∷ s) none = absurd (omega (arith, none))

-- ---- the listed variables at the start, and those behind them

listed_step : (text : List ℕ) (v : Variable) (rest : List ℕ) → first_variable text ≡ Some (v, rest) → client_collation text ≡ option_or (client_collation rest) (collation_in v)
listed_step text v rest is =
    let first : option_map stated_first (first_known text) ≡ Some (collation_in v, rest) =
    ap (λ (o : Option (Variable × List ℕ)). option_map stated_first (first_by o text)) is in
    (stated_by text (first_known text) (collation_in v) rest refl first).0

listed-front : (vars : List Variable) (r : List ℕ) → All IsWhole vars → client_collation (bytes_of vars ++ r) ≡ option_or (client_collation r) (last_collation vars)
listed-front [] r whole = sym (option_or_none (client_collation r))
listed-front (v ∷ vars) r whole =
    let behind : List ℕ = bytes_of vars ++ r in
    let moved : bytes_of (v ∷ vars) ++ r ≡ variable_bytes v ++ behind = append_assoc (variable_bytes v) (bytes_of vars) r in
    let first : first_variable (variable_bytes v ++ behind) ≡ Some (v, behind) = first_complete v behind (All-head IsWhole v vars whole) in
    ap client_collation moved
    ∙ listed_step (variable_bytes v ++ behind) v behind first
    ∙ ap (λ (o : Option ℕ). option_or o (collation_in v)) (listed-front vars r (All-tail IsWhole v vars whole))
    ∙ option_or_again (client_collation r) (last_collation vars) (collation_in v)

-- The client's collation is that of the bytes after the listed variables at the start, or else what the last of these states.
pub behind_listed : (text : List ℕ) → client_collation text ≡ option_or (client_collation (behind_variables text)) (last_collation (variables text))
behind_listed text =
    let begins = variables_begin text in
    let vars : List Variable = variables text in
    let is : text ≡ bytes_of vars ++ begins.0 = begins.1.is in
    let rest : behind_variables text ≡ begins.0 = ap (λ (t : List ℕ). drop (length (bytes_of vars)) t) is ∙ after_front (bytes_of vars) begins.0 in
    ap client_collation is
    ∙ listed-front vars begins.0 begins.1.whole
    ∙ ap (λ (t : List ℕ). option_or (client_collation t) (last_collation vars)) (sym rest)

-- What is found behind the variables at the start, and in these.
pub found_in_all : (text : List ℕ) (len : ℕ) (later so_far : Option ℕ) → len ≡ length (flat_map variable_bytes (variables text)) → so_far ≡ last_collation (variables text)
    → later ≡ client_collation (take (length text - len) (drop len text)) → option_or later so_far ≡ client_collation text
found_in_all text len later so_far is found behind =
    let whole : take (length text - len) (drop len text) ≡ drop len text = take_all (length text - len) (drop len text) (omega (arith, length-drop len text)) in
    let rest : take (length text - len) (drop len text) ≡ behind_variables text = whole ∙ ap (λ (n : ℕ). drop n text) is in
    ap (λ (o : Option ℕ). option_or o so_far) (behind ∙ ap client_collation rest)
    ∙ ap (λ (o : Option ℕ). option_or (client_collation (behind_variables text)) o) found
    ∙ sym (behind_listed text)
