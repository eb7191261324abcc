-- Parts that are written one after the other.
use Rattle.std.proofs.Common.{◌≡◌, ℕ, Result, Ok, Err, OnOk, List, [], ◌∷◌, ◌++◌, refl, sym, ap, subst, ◌∙◌, append_assoc, append-nil}
use Rattle.std.specs.Prelude.{Some, None}
use Rattle.json.specs.Token.{Token, key}
use Rattle.binary_json.specs.Values.{Json, Entries, no_entries, entry, values, members}
use Rattle.binary_json_lines.specs.Parts.{Part, exactly, AreParts, Shows}
use Rattle.binary_json_lines.specs.Documents.{value_parts, elements_parts, members_parts}

are_both : (a b : List Part) (s t : List Token) → AreParts a s → AreParts b t → AreParts (a ++ b) (s ++ t)
are_both [] b [] t x y = y
are_both [] b (token ∷ s) t x y = absurd x
are_both (part ∷ a) b [] t x y = absurd x
are_both (part ∷ a) b (token ∷ s) t x y = (x.0, are_both a b s t x.1 y)

-- One after the other.
pub shows_both : (old mid new : List Token) (a b : List Part) → Shows old mid a → Shows mid new b → Shows old new (a ++ b)
shows_both old mid new a b x y = record {
  tokens = x.tokens ++ y.tokens;
  are = are_both a b x.tokens y.tokens x.are y.are;
  is = y.is ∙ ap (λ (l : List Token). l ++ y.tokens) x.is ∙ append_assoc old x.tokens y.tokens;
}

-- One token.
pub shows_token : (old new : List Token) (token : Token) → new ≡ old ++ token ∷ [] → Shows old new (exactly token ∷ [])
shows_token old new token is = record { tokens = token ∷ []; are = (refl, tt); is = is }

-- The parts of lists of values and of members.
abbrev pub all_values : List Json → List Part
all_values [] = []
all_values (v ∷ vs) = value_parts v ++ all_values vs

abbrev pub member_parts : List ℕ × Json → List Part
member_parts m = exactly (key m.0) ∷ value_parts m.1

abbrev pub all_members : List (List ℕ × Json) → List Part
all_members [] = []
all_members (m ∷ ms) = member_parts m ++ all_members ms

pub values_are : (es : Entries) → all_values (values es) ≡ elements_parts es
values_are no_entries = refl
values_are (entry k v es) = ap (λ (l : List Part). value_parts v ++ l) (values_are es)

pub members_are : (es : Entries) → all_members (members es) ≡ members_parts es
members_are no_entries = refl
members_are (entry None v es) = members_are es
members_are (entry (Some k) v es) = ap (λ (l : List Part). (exactly (key k) ∷ value_parts v) ++ l) (members_are es)

-- Behind the token that begins an array or an object, parts of it are written, with these parts left.
pub record ShowsSome (first : Token) (old new : List Token) (left all : List Part) : Type 0 where
  pub done : List Part
  pub shown : Shows old new (exactly first ∷ done)
  pub parts : done ++ left ≡ all

pub begun : (first : Token) (old new : List Token) (left all : List Part) → left ≡ all → new ≡ old ++ first ∷ [] → ShowsSome first old new left all
begun first old new left all same is = record { done = []; shown = shows_token old new first is; parts = same }

pub one_more : (first : Token) (old mid new : List Token) (part left rest all : List Part) → left ≡ part ++ rest → ShowsSome first old mid left all → Shows mid new part
    → ShowsSome first old new rest all
one_more first old mid new part left rest all is before shown = record {
  done = before.done ++ part;
  shown = shows_both old mid new (exactly first ∷ before.done) part before.shown shown;
  parts = append_assoc before.done part rest ∙ ap (λ (l : List Part). before.done ++ l) (sym is) ∙ before.parts;
}

pub ended : (first last : Token) (old mid new : List Token) (left all : List Part) → left ≡ [] → ShowsSome first old mid left all → new ≡ mid ++ last ∷ []
    → Shows old new (exactly first ∷ (all ++ exactly last ∷ []))
ended first last old mid new left all none before is =
    let shown = shows_both old mid new (exactly first ∷ before.done) (exactly last ∷ []) before.shown (shows_token mid new last is) in
    let same : before.done ≡ all = sym (append-nil before.done) ∙ ap (λ (l : List Part). before.done ++ l) (sym none) ∙ before.parts in
    subst (λ (l : List Part). Shows old new (exactly first ∷ (l ++ exactly last ∷ []))) same shown

-- A key and a value.
pub key_then_value : (old mid new : List Token) (k : List ℕ) (v : List Part) → mid ≡ old ++ key k ∷ [] → Shows mid new v → Shows old new (exactly (key k) ∷ v)
key_then_value old mid new k v is shown = shows_both old mid new (exactly (key k) ∷ []) v (shows_token old mid (key k) is) shown
