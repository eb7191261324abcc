-- Bytes are at most one path.
use Rattle.std.proofs.Common.{◌≡◌, ℕ, List, [], ◌∷◌, Option, Some, None, Ok, Err, refl, sym, ap, subst, ◌∙◌, inl, inr}
use Rattle.binary_json.specs.Values.{Json}
use Rattle.binary_json.specs.Diffs.{Diff, Read as Items}
use Rattle.binary_json_writing.specs.Paths.{Leg, Read, behind, unit_in, Spells, IsQuoted, named, IsNamed, IsPlaced, IsLegBy, IsLegIn, AreLegs, IsPath, IsRefusedPath}
use Rattle.binary_json_writing.specs.Changes.{Changed, changed}
use Rattle.binary_json_writing.specs.Applied.{Makes, AllMake}
use Rattle.binary_json_writing.specs.declared.paths.JsonPathError.{JsonPathError}

abbrev ok : {A : Type 0} → A → Read A
ok x = Ok x

abbrev err : {A : Type 0} → JsonPathError → Read A
err e = Err e

abbrev some : List ℕ → Option (List ℕ)
some s = Some s

abbrev none : Option (List ℕ)
none = None

ok_is : {A : Type 0} (x y : A) → ok x ≡ ok y → x ≡ y
ok_is x y e = cc

err_is : {A : Type 0} (d e : JsonPathError) → err {A = A} d ≡ err e → d ≡ e
err_is d e same = cc

ok_err : {A : Type 0} (x : A) (e : JsonPathError) → ok x ≡ err e → ⊥
ok_err x e same = cc

pub none_some : (s : List ℕ) → none ≡ some s → ⊥
none_some s e = cc

some_is : (s r : List ℕ) → some s ≡ some r → s ≡ r
some_is s r e = cc

abbrev Name : Type 0
Name = List ℕ × List ℕ

-- ---- names in quotes

one_end : (n1 n2 s o1 o2 : List ℕ) (r1 r2 : List ℕ) → Spells n1 s o1 → behind 34 o1 ≡ some r1 → Spells n2 s o2 → behind 34 o2 ≡ some r2 → (n1 ≡ n2) × (r1 ≡ r2)
one_end [] [] s o1 o2 r1 r2 a e b f = (refl, some_is r1 r2 (sym e ∙ ap (behind 34) (sym a ∙ b) ∙ f))
one_end [] (d ∷ m) s o1 o2 r1 r2 a e b f = absurd (none_some r1 (sym b.0 ∙ ap (behind 34) a ∙ e))
one_end (c ∷ n) [] s o1 o2 r1 r2 a e b f = absurd (none_some r2 (sym a.0 ∙ ap (behind 34) b ∙ f))
one_end (c ∷ n) (d ∷ m) s o1 o2 r1 r2 a e b f =
    let same = ok_is (c, a.1) (d, b.1) (sym a.2 ∙ b.2) in
    let first : c ≡ d = ap (λ (p : ℕ × List ℕ). p.0) same in
    let next : a.1 ≡ b.1 = ap (λ (p : ℕ × List ℕ). p.1) same in
    let rest = one_end n m a.1 o1 o2 r1 r2 a.3 e (subst (λ (t : List ℕ). Spells m t o2) (sym next) b.3) f in
    (ap (λ (k : ℕ). k ∷ n) first ∙ ap (λ (l : List ℕ). d ∷ l) rest.0, rest.1)

no_end : (n1 n2 s o1 o2 : List ℕ) (r1 : List ℕ) (e2 : JsonPathError) → Spells n1 s o1 → behind 34 o1 ≡ some r1 → Spells n2 s o2 → behind 34 o2 ≡ none → unit_in o2 ≡ err e2 → ⊥
no_end [] [] s o1 o2 r1 e2 a e b f g = none_some r1 (sym f ∙ ap (behind 34) (sym b ∙ a) ∙ e)
no_end [] (d ∷ m) s o1 o2 r1 e2 a e b f g = none_some r1 (sym b.0 ∙ ap (behind 34) a ∙ e)
no_end (c ∷ n) [] s o1 o2 r1 e2 a e b f g = ok_err (c, a.1) e2 (sym a.2 ∙ ap unit_in b ∙ g)
no_end (c ∷ n) (d ∷ m) s o1 o2 r1 e2 a e b f g =
    let same = ok_is (c, a.1) (d, b.1) (sym a.2 ∙ b.2) in
    let next : a.1 ≡ b.1 = ap (λ (p : ℕ × List ℕ). p.1) same in
    no_end n m a.1 o1 o2 r1 e2 a.3 e (subst (λ (t : List ℕ). Spells m t o2) (sym next) b.3) f g

one_refusal : (n1 n2 s o1 o2 : List ℕ) (e1 e2 : JsonPathError) → Spells n1 s o1 → unit_in o1 ≡ err e1 → Spells n2 s o2 → unit_in o2 ≡ err e2 → e1 ≡ e2
one_refusal [] [] s o1 o2 e1 e2 a e b f = err_is e1 e2 (sym e ∙ ap unit_in (sym a ∙ b) ∙ f)
one_refusal [] (d ∷ m) s o1 o2 e1 e2 a e b f = absurd (ok_err (d, b.1) e1 (sym b.2 ∙ ap unit_in a ∙ e))
one_refusal (c ∷ n) [] s o1 o2 e1 e2 a e b f = absurd (ok_err (c, a.1) e2 (sym a.2 ∙ ap unit_in b ∙ f))
one_refusal (c ∷ n) (d ∷ m) s o1 o2 e1 e2 a e b f =
    let same = ok_is (c, a.1) (d, b.1) (sym a.2 ∙ b.2) in
    let next : a.1 ≡ b.1 = ap (λ (p : ℕ × List ℕ). p.1) same in
    one_refusal n m a.1 o1 o2 e1 e2 a.3 e (subst (λ (t : List ℕ). Spells m t o2) (sym next) b.3) f

one_quoted : (q r : Read Name) (s : List ℕ) → IsQuoted q s → IsQuoted r s → q ≡ r
one_quoted (Ok p) (Ok t) s a b = let same = one_end p.0 t.0 s a.0 b.0 p.1 t.1 a.1 a.2 b.1 b.2 in ap (λ (n : List ℕ). ok (n, p.1)) same.0 ∙ ap (λ (n : List ℕ). ok (t.0, n)) same.1
one_quoted (Ok p) (Err e) s a b = absurd (no_end p.0 b.0 s a.0 b.1 p.1 e a.1 a.2 b.2 b.3 b.4)
one_quoted (Err e) (Ok p) s a b = absurd (no_end p.0 a.0 s b.0 a.1 p.1 e b.1 b.2 a.2 a.3 a.4)
one_quoted (Err e) (Err d) s a b = ap (λ (x : JsonPathError). err x) (one_refusal a.0 b.0 s a.1 b.1 e d a.2 a.4 b.2 b.4)

-- ---- legs

one_named : (r q : Read (Leg × List ℕ)) (o : Option (List ℕ)) (s : List ℕ) → IsNamed r o s → IsNamed q o s → r ≡ q
one_named r q (Some t) s a b = a.2 ∙ ap named (one_quoted a.0 b.0 t a.1 b.1) ∙ sym b.2
one_named r q None s a b = a ∙ sym b

one_placed : (r q : Read (Leg × List ℕ)) (o : Option (List ℕ)) → IsPlaced r o → IsPlaced q o → r ≡ q
one_placed r q (Some t) a b = a ∙ sym b
one_placed r q None a b = a ∙ sym b

one_leg_by : (r q : Read (Leg × List ℕ)) (o : Option (List ℕ)) (s : List ℕ) → IsLegBy r o s → IsLegBy q o s → r ≡ q
one_leg_by r q (Some t) s a b = one_named r q (behind 34 t) t a b
one_leg_by r q None s a b = one_placed r q (behind 91 s) a b

one_leg : (r q : Read (Leg × List ℕ)) (s : List ℕ) → IsLegIn r s → IsLegIn q s → r ≡ q
unfolding IsLegIn
one_leg r q s a b = one_leg_by r q (behind 46 s) s a b

pub no_leg : (p : Leg × List ℕ) → IsLegIn (ok p) [] → ⊥
unfolding IsLegIn
no_leg p is = ok_err p _ is

one_list : (ls ms : List Leg) (s : List ℕ) → AreLegs ls s [] → AreLegs ms s [] → ls ≡ ms
one_list [] [] s a b = refl
one_list [] (m ∷ ms) s a b = absurd (no_leg (m, b.0) (subst (λ (t : List ℕ). IsLegIn (ok (m, b.0)) t) a b.1))
one_list (l ∷ ls) [] s a b = absurd (no_leg (l, a.0) (subst (λ (t : List ℕ). IsLegIn (ok (l, a.0)) t) b a.1))
one_list (l ∷ ls) (m ∷ ms) s a b =
    let same = ok_is (l, a.0) (m, b.0) (one_leg (ok (l, a.0)) (ok (m, b.0)) s a.1 b.1) in
    let next : a.0 ≡ b.0 = ap (λ (p : Leg × List ℕ). p.1) same in
    ap (λ (k : Leg). k ∷ ls) (ap (λ (p : Leg × List ℕ). p.0) same) ∙ ap (λ (x : List Leg). m ∷ x) (one_list ls ms a.0 a.2 (subst (λ (t : List ℕ). AreLegs ms t []) (sym next) b.2))

pub one_path : (s : List ℕ) (ls ms : List Leg) → IsPath ls s → IsPath ms s → ls ≡ ms
one_path s ls ms a b =
    let same : b.0 ≡ a.0 = some_is b.0 a.0 (sym b.1 ∙ a.1) in
    one_list ls ms a.0 a.2 (subst (λ (t : List ℕ). AreLegs ms t []) same b.2)

none_refused : (ls ms : List Leg) (s : List ℕ) (b : ℕ) (others : List ℕ) (e : JsonPathError) → AreLegs ls s [] → AreLegs ms s (b ∷ others) → IsLegIn (err e) (b ∷ others) → ⊥
none_refused [] [] s b others e a is why = let wrong : [] ≡ b ∷ others = sym a ∙ is in cc
none_refused [] (m ∷ ms) s b others e a is why = no_leg (m, is.0) (subst (λ (t : List ℕ). IsLegIn (ok (m, is.0)) t) a is.1)
none_refused (l ∷ ls) [] s b others e a is why = ok_err (l, a.0) e (one_leg (ok (l, a.0)) (err e) (b ∷ others) (subst (λ (t : List ℕ). IsLegIn (ok (l, a.0)) t) is a.1) why)
none_refused (l ∷ ls) (m ∷ ms) s b others e a is why =
    let same = ok_is (l, a.0) (m, is.0) (one_leg (ok (l, a.0)) (ok (m, is.0)) s a.1 is.1) in
    let next : a.0 ≡ is.0 = ap (λ (p : Leg × List ℕ). p.1) same in
    none_refused ls ms a.0 b others e a.2 (subst (λ (t : List ℕ). AreLegs ms t (b ∷ others)) (sym next) is.2) why

pub path_not_refused : (s : List ℕ) (ls : List Leg) (e : JsonPathError) → IsPath ls s → IsRefusedPath e s → ⊥
path_not_refused s ls e a (inl no_root) = none_some a.0 (sym no_root.1 ∙ a.1)
path_not_refused s ls e a (inr why) =
    let same : why.0 ≡ a.0 = some_is why.0 a.0 (sym why.1 ∙ a.1) in
    none_refused ls why.2.0 a.0 why.2.1 why.2.2 e a.2 (subst (λ (t : List ℕ). AreLegs why.2.0 t (why.2.1 ∷ why.2.2)) same why.2.3) why.2.4

-- ---- diffs

value_is : (v w : Json) (r : Changed Json) → r ≡ Ok v → r ≡ Ok w → v ≡ w
value_is v w r a b = cc

one_value : (d : Diff) (v u w : Json) → Makes d v u → Makes d v w → u ≡ w
one_value d v u w a b =
    let same = one_path d.path a.0 b.0 a.1 b.1 in
    value_is u w (changed d.operation d.value b.0 v) (ap (λ (ls : List Leg). changed d.operation d.value ls v) (sym same) ∙ a.2) b.2

pub one_document : (ds : List (Items Diff)) (v u w : Json) → AllMake ds v u → AllMake ds v w → u ≡ w
one_document [] v u w a b = a ∙ sym b
one_document (Err x ∷ ds) v u w a b = absurd a
one_document (Ok d ∷ ds) v u w a b =
    let same = one_value d v a.0 b.0 a.1 b.1 in
    one_document ds a.0 u w a.2 (subst (λ (t : Json). AllMake ds t w) (sym same) b.2)
