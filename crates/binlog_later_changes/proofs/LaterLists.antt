-- Later changes, one event after the other.
use Rattle.std.proofs.Common.{◌≡◌, ◌||◌, Bool, true, false, not, cond, List, [], ◌∷◌, ◌++◌, filter, refl, sym, ap, subst, ◌∙◌, append_assoc, append-nil}
use Rattle.std.proofs.Math.Bool.{or-false}
use Rattle.std.proofs.lemmas.List.Elements.{filter-append}
use Rattle.std.proofs.lemmas.List.Folds.{list_any-append}
use Rattle.std.specs.List.{list_any}
use Rattle.binlog_later_changes.specs.Later.{Cause, Look, Change, later_at, later_from, is_about, firsts}

-- One of these passes a test, or the last one does.
pub any_more : {X : Type 0} (p : X → Bool) (xs : List X) (x : X) → list_any p (xs ++ x ∷ []) ≡ (list_any p xs || p x)
any_more p xs x = list_any-append p xs (x ∷ []) ∙ ap (λ (b : Bool). list_any p xs || b) (or-false (p x))

-- The later changes of one event more.
later_behind : (before looks : List Look) (look : Look) → later_from before (looks ++ look ∷ []) ≡ later_from before looks ++ later_at (before ++ looks) look
later_behind before [] look = append-nil (later_at before look) ∙ ap (λ (l : List Look). later_at l look) (sym (append-nil before))
later_behind before (first ∷ looks) look =
    let rest = later_behind (before ++ first ∷ []) looks look in
    ap (λ (l : List Change). later_at before first ++ l) rest
    ∙ ap (λ (l : List Look). later_at before first ++ (later_from (before ++ first ∷ []) looks ++ later_at l look)) (append_assoc before (first ∷ []) looks)
    ∙ sym (append_assoc (later_at before first) (later_from (before ++ first ∷ []) looks) (later_at (before ++ first ∷ looks) look))

pub later_more : (looks : List Look) (look : Look) → later_from [] (looks ++ look ∷ []) ≡ later_from [] looks ++ later_at looks look
later_more looks look = later_behind [] looks look

-- The first changes of one change more: the same, if one about the same is there, and else this one behind them.
abbrev pub first_more : Bool → List Change → Change → List Change
first_more true changes change = firsts changes
first_more false changes change = firsts changes ++ change ∷ []

abbrev keeps : Change → Change → Bool
keeps first second = not (is_about second.cause first)

last_kept : (a : Bool) (first change : Change) (changes : List Change) → is_about change.cause first ≡ a
    → first ∷ (filter (keeps first) (firsts changes) ++ filter (keeps first) (change ∷ [])) ≡ first_more (a || false) (first ∷ changes) change
last_kept true first change changes is =
    let none : filter (keeps first) (change ∷ []) ≡ [] = ap (λ (b : Bool). cond (not b) (change ∷ []) []) is in
    ap (λ (l : List Change). first ∷ (filter (keeps first) (firsts changes) ++ l)) none ∙ ap (λ (l : List Change). first ∷ l) (append-nil (filter (keeps first) (firsts changes)))
last_kept false first change changes is =
    let one : filter (keeps first) (change ∷ []) ≡ change ∷ [] = ap (λ (b : Bool). cond (not b) (change ∷ []) []) is in
    ap (λ (l : List Change). first ∷ (filter (keeps first) (firsts changes) ++ l)) one

or_true : (x : Bool) → (x || true) ≡ true
or_true true = refl
or_true false = refl

pub firsts_more : (changes : List Change) (change : Change) → firsts (changes ++ change ∷ []) ≡ first_more (list_any (is_about change.cause) changes) changes change
firsts_more [] change = refl
firsts_more (first ∷ changes) change = by (list_any (is_about change.cause) changes) (is_about change.cause first) refl refl (firsts_more changes change)
  where
    by : (b a : Bool) → list_any (is_about change.cause) changes ≡ b → is_about change.cause first ≡ a
        → firsts (changes ++ change ∷ []) ≡ first_more (list_any (is_about change.cause) changes) changes change
        → firsts (first ∷ (changes ++ change ∷ [])) ≡ first_more (list_any (is_about change.cause) (first ∷ changes)) (first ∷ changes) change
    by true a there here rest =
        let same : firsts (changes ++ change ∷ []) ≡ firsts changes = rest ∙ ap (λ (c : Bool). first_more c changes change) there in
        let met : list_any (is_about change.cause) (first ∷ changes) ≡ true = ap (λ (c : Bool). is_about change.cause first || c) there ∙ or_true (is_about change.cause first) in
        ap (λ (l : List Change). first ∷ filter (keeps first) l) same ∙ sym (ap (λ (c : Bool). first_more c (first ∷ changes) change) met)
    by false a there here rest =
        let more : firsts (changes ++ change ∷ []) ≡ firsts changes ++ change ∷ [] = rest ∙ ap (λ (c : Bool). first_more c changes change) there in
        let met : list_any (is_about change.cause) (first ∷ changes) ≡ (a || false) = ap (λ (c : Bool). is_about change.cause first || c) there ∙ ap (λ (c : Bool). c || false) here in
        ap (λ (l : List Change). first ∷ filter (keeps first) l) more
        ∙ ap (λ (l : List Change). first ∷ l) (filter-append (keeps first) (firsts changes) (change ∷ []))
        ∙ last_kept a first change changes here
        ∙ sym (ap (λ (c : Bool). first_more c (first ∷ changes) change) met)
