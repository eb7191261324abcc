-- What each value of an array and each member of an object has.
use Rattle.std.proofs.Common.{◌≡◌, ℕ, ◌≤◌, List, [], ◌∷◌, Some, None, sym, subst, arith}
use Rattle.std.specs.Prelude.{IsUtf8}
use Rattle.binary_json.specs.Values.{Json, Entries, no_entries, entry, nesting, entries_nesting, values, members}
use Rattle.binary_json_lines.specs.HasText.{HasText, ElementsHaveText, MembersHaveText}

abbrev pub Every : {A : Type 0} → (A → Type 0) → List A → Type 0
Every P [] = Unit {0}
Every P (x ∷ xs) = P x × Every P xs

-- The text of a member: its key is UTF-8, and its value has a text.
abbrev pub MemberHasText : List ℕ × Json → Type 0
MemberHasText m = IsUtf8 m.0 × HasText m.1

pub elements_every : (es : Entries) → ElementsHaveText es → Every HasText (values es)
elements_every no_entries h = tt
elements_every (entry key v es) h = (h.0, elements_every es h.1)

pub elements_from : (es : Entries) → Every HasText (values es) → ElementsHaveText es
elements_from no_entries h = tt
elements_from (entry key v es) h = (h.0, elements_from es h.1)

pub members_every : (es : Entries) → MembersHaveText es → Every MemberHasText (members es)
members_every no_entries h = tt
members_every (entry None v es) h = members_every es h
members_every (entry (Some key) v es) h = (h.0, members_every es h.1)

pub members_from : (es : Entries) → Every MemberHasText (members es) → MembersHaveText es
members_from no_entries h = tt
members_from (entry None v es) h = members_from es h
members_from (entry (Some key) v es) h = (h.0, members_from es h.1)

-- The values within an array or an object have fewer arrays and objects within one another.
abbrev pub IsBelow : ℕ → Json → Type 0
IsBelow n v = nesting v ≤ n

abbrev pub MemberIsBelow : ℕ → List ℕ × Json → Type 0
MemberIsBelow n m = nesting m.1 ≤ n

pub values_below : (es : Entries) (n : ℕ) → entries_nesting es ≤ n → Every (IsBelow n) (values es)
values_below no_entries n h = tt
values_below (entry key v es) n h = (omega (arith, h), values_below es n (omega (arith, h)))

pub members_below : (es : Entries) (n : ℕ) → entries_nesting es ≤ n → Every (MemberIsBelow n) (members es)
members_below no_entries n h = tt
members_below (entry None v es) n h = members_below es n (omega (arith, h))
members_below (entry (Some key) v es) n h = (omega (arith, h), members_below es n (omega (arith, h)))

-- The first one, and the others.
pub every_first : {A : Type 0} (P : A → Type 0) (all rest : List A) (x : A) → all ≡ x ∷ rest → Every P all → P x
every_first P all rest x is h = (subst (Every P) is h).0

pub every_rest : {A : Type 0} (P : A → Type 0) (all rest : List A) (x : A) → all ≡ x ∷ rest → Every P all → Every P rest
every_rest P all rest x is h = (subst (Every P) is h).1

pub every_more : {A : Type 0} (P : A → Type 0) (all rest : List A) (x : A) → all ≡ x ∷ rest → P x → Every P rest → Every P all
every_more P all rest x is first h = subst (Every P) (sym is) (first, h)

pub every_none : {A : Type 0} (P : A → Type 0) (all : List A) → all ≡ [] → Every P all
every_none P all is = subst (Every P) (sym is) tt

-- What is left of a list has all that the list has, and gives it back.
pub record IsLeft {A : Type 0} (P : A → Type 0) (left all : List A) : Type 0 where
  pub each : Every P all → Every P left
  pub back : Every P left → Every P all

pub all_left : {A : Type 0} (P : A → Type 0) (left all : List A) → left ≡ all → IsLeft P left all
all_left P left all is = record { each = λ h. subst (Every P) (sym is) h; back = λ h. subst (Every P) is h }

pub one_less : {A : Type 0} (P : A → Type 0) (left rest all : List A) (x : A) → left ≡ x ∷ rest → P x → IsLeft P left all → IsLeft P rest all
one_less P left rest all x is first before = record {
  each = λ h. every_rest P left rest x is (before.each h);
  back = λ h. before.back (every_more P left rest x is first h);
}
