-- What builders have got, and what is stored for it.
use Rattle.std.proofs.Common.{◌≡◌, ℕ, zero, suc, ◌-◌, ◌<◌, ◌≤◌, Bool, true, false, cond, List, [], ◌∷◌, ◌++◌, length, map, drop, get_or, Some, None, refl, sym, ap, ◌∙◌, eq-eqb, arith}
use Rattle.std.specs.Prelude.{nat_eq, nat_lt, Result, Ok, Err, OnOk, OnErr}
use Rattle.binary_json.specs.Values.{array, object, Entries, entry}
use Rattle.binary_json_writing.specs.Stored.{stored, stored_value, key_in}
use Rattle.binary_json_writing.specs.Keys.{bytes_before, is_before, rises, may_follow}
use Rattle.binary_json_writing.specs.Builders.{value_in, member_in, of_elements, of_members}
use Rattle.binary_json_writing.specs.declared.entry.Entry.{Entry}
use Rattle.binary_json_writing.proofs.Seams.{both_true}

pub stored_elements : (es : List Entry) → stored false es ≡ of_elements (map value_in es)
stored_elements [] = refl
stored_elements (e ∷ es) = ap (λ (xs : Entries). entry None (value_in e) xs) (stored_elements es)

pub stored_members : (es : List Entry) → stored true es ≡ of_members (map member_in es)
stored_members [] = refl
stored_members (e ∷ es) = ap (λ (xs : Entries). entry (Some e.key.items) (value_in e) xs) (stored_members es)

pub member_keys : (es : List Entry) → map (λ m. m.0) (map member_in es) ≡ map key_in es
member_keys [] = refl
member_keys (e ∷ es) = ap (λ (ks : List (List ℕ)). e.key.items ∷ ks) (member_keys es)

pub map_more : {A B : Type 0} (f : A → B) (xs : List A) (x : A) → map f (xs ++ x ∷ []) ≡ map f xs ++ f x ∷ []
map_more f [] x = refl
map_more f (y ∷ xs) x = ap (λ l. f y ∷ l) (map_more f xs x)

pub rises_more : (ks : List (List ℕ)) (key : List ℕ) → rises ks ≡ true → may_follow ks key ≡ true → rises (ks ++ key ∷ []) ≡ true
rises_more [] key r f = refl
rises_more (k ∷ []) key r f = rw f refl
rises_more (k ∷ l ∷ ks) key r f =
    let both = both_true (is_before k l) (rises (l ∷ ks)) r in
    let rest = rises_more (l ∷ ks) key both.1 f in
    rw both.0 rest

follows_at : (es : List Entry) (last : Entry) (key : List ℕ) (n : ℕ) → suc n ≡ length es → last ≡ get_or es n last → may_follow (map key_in es) key ≡ is_before last.key.items key
follows_at [] last key n len is = absurd (omega (arith, len))
follows_at (e ∷ []) last key zero len is = ap (λ (x : Entry). is_before x.key.items key) (sym is)
follows_at (e ∷ []) last key (suc n) len is = absurd (omega (arith, len))
follows_at (e ∷ f ∷ es) last key zero len is = absurd (omega (arith, len))
follows_at (e ∷ f ∷ es) last key (suc n) len is = follows_at (f ∷ es) last key n (omega (arith, len)) is

pub follows_last : (es : List Entry) (last : Entry) (key : List ℕ) → 0 < length es → last ≡ get_or es (length es - 1) last → may_follow (map key_in es) key ≡ is_before last.key.items key
follows_last es last key some is = follows_at es last key (length es - 1) (omega arith) is

-- What is kept of the order where a member is appended, and where it isn't.
pub ordered_after : {A E : Type 0} (r : Result A E) (es new : List Entry) (e : Entry) → OnOk r (new ≡ es ++ e ∷ []) → OnErr r (new ≡ es) → rises (map key_in es) ≡ true → may_follow (map key_in es) e.key.items ≡ true
    → rises (map key_in new) ≡ true
ordered_after (Ok x) es new e more same up follows =
    ap (λ (l : List Entry). rises (map key_in l)) more ∙ ap rises (map_more key_in es e) ∙ rises_more (map key_in es) e.key.items up follows
ordered_after (Err x) es new e more same up follows = ap (λ (l : List Entry). rises (map key_in l)) same ∙ up

pub on_any : {A E : Type 0} (r : Result A E) (P : Type 0) → P → OnOk r P
on_any (Ok x) P p = p
on_any (Err x) P p = tt

pub array_made : (keyed : Bool) (es : List Entry) → keyed ≡ false → stored_value keyed (stored keyed es) ≡ array (of_elements (map value_in es))
array_made keyed es e = ap (λ (b : Bool). stored_value b (stored b es)) e ∙ ap (λ (xs : Entries). array xs) (stored_elements es)

pub object_made : (keyed : Bool) (es : List Entry) → keyed ≡ true → stored_value keyed (stored keyed es) ≡ object (of_members (map member_in es))
object_made keyed es e = ap (λ (b : Bool). stored_value b (stored b es)) e ∙ ap (λ (xs : Entries). object xs) (stored_members es)

pub before_drop : (a b : List ℕ) (i : ℕ) → i < length a → length a ≡ length b → get_or a i 0 ≡ get_or b i 0 → bytes_before (drop i a) (drop i b) ≡ bytes_before (drop (suc i) a) (drop (suc i) b)
before_drop [] b i less e same = absurd (omega arith)
before_drop (x ∷ a) [] i less e same = absurd (omega arith)
before_drop (x ∷ a) (y ∷ b) zero less e same = ap (λ (t : Bool). cond t (bytes_before a b) (nat_lt x y)) (eq-eqb x y same)
before_drop (x ∷ a) (y ∷ b) (suc i) less e same = before_drop a b i (omega arith) (omega arith) same

pub before_here : (a b : List ℕ) (i : ℕ) → i < length a → length a ≡ length b → nat_eq (get_or a i 0) (get_or b i 0) ≡ false → bytes_before (drop i a) (drop i b) ≡ nat_lt (get_or a i 0) (get_or b i 0)
before_here [] b i less e other = absurd (omega arith)
before_here (x ∷ a) [] i less e other = absurd (omega arith)
before_here (x ∷ a) (y ∷ b) zero less e other = ap (λ (t : Bool). cond t (bytes_before a b) (nat_lt x y)) other
before_here (x ∷ a) (y ∷ b) (suc i) less e other = before_here a b i (omega arith) (omega arith) other

before_nothing : (a : List ℕ) → bytes_before a [] ≡ false
before_nothing [] = refl
before_nothing (x ∷ a) = refl

pub before_none : (a b : List ℕ) (i : ℕ) → length a ≤ i → bytes_before (drop i a) (drop i b) ≡ false
before_none [] b zero past = refl
before_none [] b (suc i) past = refl
before_none (x ∷ a) b zero past = absurd (omega arith)
before_none (x ∷ a) [] (suc i) past = before_nothing (drop i a)
before_none (x ∷ a) (y ∷ b) (suc i) past = before_none a b i (omega arith)
