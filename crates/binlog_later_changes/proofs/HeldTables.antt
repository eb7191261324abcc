-- What is known of tables behind one event more.
use Rattle.std.proofs.Common.{◌≡◌, ◌||◌, Bool, true, false, cond, List, [], ◌∷◌, ◌++◌, map, Option, Some, None, Result, Ok, Err, OnOk, refl, sym, ap, subst, ◌∙◌, append-nil}
use Rattle.std.proofs.Math.Bool.{or-false}
use Rattle.std.specs.List.{list_any}
use Rattle.binlog_undo_index.specs.declared.reason.Reason.{Reason}
use Rattle.change_statistics.specs.Facts.{Name}
use Rattle.change_statistics.specs.Names.{name_eq}
use Rattle.binlog_later_changes.specs.Later.{Cause, table, unknown, What, nothing, undone, other, Look, Change, undoes_what, undoes, undoes_some, is_undone, is_behind, change_if, later_at, later_from, same_cause, is_about, firsts}
use Rattle.binlog_later_changes.specs.Tables.{known_of, known_if, known_behind, is_unknown, is_of_any, found_in, change_of, Holds, Grows, Puts, Finds}
use Rattle.binlog_later_changes.specs.declared.later_change.EventPlace.{EventPlace}
use Rattle.binlog_later_changes.specs.declared.later_tables.LaterTables.{LaterTables}
use Rattle.binlog_later_changes.proofs.LaterLists.{any_more, later_more, firsts_more, first_more}
use Rattle.change_statistics.proofs.NamedTables.{same_name, own_name}

abbrev looked : EventPlace → What → Look
looked event what = record { event = event; what = what }

abbrev found_of : List Look → Cause → Bool
found_of looks cause = list_any (is_about cause) (later_from [] looks)

or_left : (a b : Bool) → a ≡ true → (a || b) ≡ true
or_left a b is = ap (λ (x : Bool). x || b) is

or_right : (a b : Bool) → b ≡ true → (a || b) ≡ true
or_right true b is = refl
or_right false b is = is

or_cases : (a b : Bool) → (a || b) ≡ true → (a ≡ false → b ≡ true)
or_cases true b is isnt = let bad : true ≡ false = isnt in absurd cc
or_cases false b is isnt = is

-- ---- events that add nothing

module _ (looks : List Look) (look : Look) (tables : LaterTables) (h : Holds looks tables) where
  -- No rows are undone, and it is no later change.
  pub held_same : is_undone look.what ≡ false → ((name : Name) → undoes_what name look.what ≡ false) → later_at looks look ≡ [] → Holds (looks ++ look ∷ []) tables
  held_same none none_named no_change = record {
    names = λ name. h.names name ∙ sym (known name);
    undone = h.undone ∙ sym (any_more undoes_some looks look ∙ ap (λ (b : Bool). list_any undoes_some looks || b) none ∙ or-false (list_any undoes_some looks));
    any = h.any ∙ sym (ap (λ (l : List Change). list_any is_of_any l) later);
    found = h.found ∙ sym (ap firsts later);
    behind = λ name is. front name ∙ h.behind name (sym (ap (λ (l : List Change). list_any (is_about (table name)) l) later) ∙ is);
  }
    where
      later : later_from [] (looks ++ look ∷ []) ≡ later_from [] looks
      later = later_more looks look ∙ ap (λ (l : List Change). later_from [] looks ++ l) no_change ∙ append-nil (later_from [] looks)

      front : (name : Name) → is_behind (looks ++ look ∷ []) (table name) ≡ is_behind looks (table name)
      front name = any_more (undoes name) looks look ∙ ap (λ (b : Bool). list_any (undoes name) looks || b) (none_named name) ∙ or-false (list_any (undoes name) looks)

      known : (name : Name) → known_behind (looks ++ look ∷ []) name ≡ known_behind looks name
      known name = ap (λ (b : Bool). known_if b (found_of (looks ++ look ∷ []) (table name))) (front name)
          ∙ ap (λ (l : List Change). known_if (is_behind looks (table name)) (list_any (is_about (table name)) l)) later

pub held_nothing : (event : EventPlace) (looks : List Look) (tables : LaterTables) → Holds looks tables → Holds (looks ++ looked event nothing ∷ []) tables
held_nothing event looks tables h = held_same looks (looked event nothing) tables h refl (λ name. refl) refl

-- Nothing is undone in front that the cause may be in the way of.
pub held_apart : (event : EventPlace) (cause : Cause) (looks : List Look) (tables : LaterTables) → Holds looks tables → is_behind looks cause ≡ false → Holds (looks ++ looked event (other cause) ∷ []) tables
held_apart event cause looks tables h apart = held_same looks (looked event (other cause)) tables h refl (λ name. refl)
    (ap (λ (b : Bool). change_if b (record { event = event; cause = cause })) apart)

-- ---- later changes

module _ (event : EventPlace) (cause : Cause) (looks : List Look) (old new : LaterTables) (h : Holds looks old) (is : is_behind looks cause ≡ true) where
  abbrev change : Change
  change = record { event = event; cause = cause }

  abbrev others : List Look
  others = looks ++ looked event (other cause) ∷ []

  later : later_from [] others ≡ later_from [] looks ++ change ∷ []
  later = later_more looks (looked event (other cause)) ∙ ap (λ (b : Bool). later_from [] looks ++ change_if b change) is

  front : (name : Name) → is_behind others (table name) ≡ is_behind looks (table name)
  front name = any_more (undoes name) looks (looked event (other cause)) ∙ or-false (list_any (undoes name) looks)

  undone_same : list_any undoes_some others ≡ list_any undoes_some looks
  undone_same = any_more undoes_some looks (looked event (other cause)) ∙ or-false (list_any undoes_some looks)

  found_more : (second : Cause) → found_of others second ≡ (found_of looks second || same_cause second cause)
  found_more second = ap (λ (l : List Change). list_any (is_about second) l) later ∙ any_more (is_about second) (later_from [] looks) change

  any_found : list_any is_of_any (later_from [] others) ≡ (list_any is_of_any (later_from [] looks) || is_of_any change)
  any_found = ap (λ (l : List Change). list_any is_of_any l) later ∙ any_more is_of_any (later_from [] looks) change

  -- The one about this table is of a table of which rows are undone.
  own_behind : (name : Name) (second : Cause) → second ≡ cause → same_cause (table name) second ≡ true → is_behind looks (table name) ≡ true
  own_behind name (table own) same about =
      let names : name ≡ own = same_name name own about in
      ap (λ (n : Name). is_behind looks (table n)) names ∙ ap (λ (c : Cause). is_behind looks c) same ∙ is
  own_behind name (unknown reason) same about = let bad : false ≡ true = about in absurd cc

  behind_more : (name : Name) → found_of others (table name) ≡ true → is_behind others (table name) ≡ true
  behind_more name found = front name ∙ by (found_of looks (table name)) refl
    where
      by : (b : Bool) → found_of looks (table name) ≡ b → is_behind looks (table name) ≡ true
      by true was = h.behind name was
      by false was = own_behind name cause refl (or_cases (found_of looks (table name)) (same_cause (table name) cause) (sym (found_more (table name)) ∙ found) was)

  pub held_again : found_of looks cause ≡ true → ((name : Name) → found_of others (table name) ≡ found_of looks (table name))
      → list_any is_of_any (later_from [] others) ≡ list_any is_of_any (later_from [] looks) → Holds others old
  held_again was names any = record {
    names = λ name. h.names name ∙ sym (ap (λ (b : Bool). known_if b (found_of others (table name))) (front name) ∙ ap (λ (b : Bool). known_if (is_behind looks (table name)) b) (names name));
    undone = h.undone ∙ sym undone_same;
    any = h.any ∙ sym any;
    found = h.found ∙ sym (ap firsts later ∙ firsts_more (later_from [] looks) change ∙ ap (λ (b : Bool). first_more b (later_from [] looks) change) was);
    behind = behind_more;
  }

  pub held_first : found_of looks cause ≡ false → ((name : Name) → known_of new name ≡ known_behind others name) → new.has_undone ≡ old.has_undone
      → new.has_unknown ≡ list_any is_of_any (later_from [] others) → found_in new ≡ found_in old ++ change ∷ [] → Holds others new
  held_first was names undone_is any found = record {
    names = names;
    undone = undone_is ∙ h.undone ∙ sym undone_same;
    any = any;
    found = found ∙ ap (λ (l : List Change). l ++ change ∷ []) h.found ∙ sym (ap firsts later ∙ firsts_more (later_from [] looks) change ∙ ap (λ (b : Bool). first_more b (later_from [] looks) change) was);
    behind = behind_more;
  }

-- ---- rows of a table that aren't undone

module _ (event : EventPlace) (name : Name) (looks : List Look) (old : LaterTables) (h : Holds looks old) where
  abbrev then_changed : List Look
  then_changed = looks ++ looked event (other (table name)) ∷ []

  same_found : found_of looks (table name) ≡ true → is_behind looks (table name) ≡ true → (second : Name) → found_of then_changed (table second) ≡ found_of looks (table second)
  same_found was is second = found_more event (table name) looks old old h is (table second) ∙ by (name_eq second name) refl
    where
      by : (b : Bool) → name_eq second name ≡ b → (found_of looks (table second) || name_eq second name) ≡ found_of looks (table second)
      by true same =
          let here : found_of looks (table second) ≡ true = ap (λ (n : Name). found_of looks (table n)) (same_name second name same) ∙ was in
          or_left (found_of looks (table second)) (name_eq second name) here ∙ sym here
      by false apart = ap (λ (b : Bool). found_of looks (table second) || b) apart ∙ or-false (found_of looks (table second))

  -- Nothing is found of it if it isn't known, or if one was found.
  pub held_other_rows : (known_of old name ≡ Some false → ⊥) → Holds then_changed old
  held_other_rows not_first = by (is_behind looks (table name)) (found_of looks (table name)) refl refl
    where
      by : (b f : Bool) → is_behind looks (table name) ≡ b → found_of looks (table name) ≡ f → Holds then_changed old
      by false f apart was = held_apart event (table name) looks old h apart
      by true true is was = held_again event (table name) looks old old h is was (same_found was is)
          (any_found event (table name) looks old old h is ∙ or-false (list_any is_of_any (later_from [] looks)))
      by true false is was =
          absurd (not_first (h.names name ∙ ap (λ (b : Bool). known_if b (found_of looks (table name))) is ∙ ap (λ (b : Bool). known_if true b) was))

  known_parts : (b f : Bool) → known_if b f ≡ Some false → (b ≡ true) × (f ≡ false)
  known_parts true true is = absurd cc
  known_parts true false is = (refl, refl)
  known_parts false f is = absurd cc

  pub held_found_rows : (new : LaterTables) → known_of old name ≡ Some false → Finds name event old new → Holds then_changed new
  held_found_rows new first finds =
      let parts = known_parts (is_behind looks (table name)) (found_of looks (table name)) (sym (h.names name) ∙ first) in
      held_first event (table name) looks old new h parts.0 parts.1 (λ second. known parts.0 second) finds.undone
      (finds.any ∙ h.any ∙ sym (any_found event (table name) looks old new h parts.0 ∙ or-false (list_any is_of_any (later_from [] looks)))) finds.found
    where
      known : is_behind looks (table name) ≡ true → (second : Name) → known_of new second ≡ known_behind then_changed second
      known is second = finds.names second ∙ by (name_eq name second) (name_eq second name) refl refl
        where
          of_parts : known_behind then_changed second ≡ known_if (is_behind looks (table second)) (found_of looks (table second) || name_eq second name)
          of_parts = ap (λ (b : Bool). known_if b (found_of then_changed (table second))) (front event (table name) looks old new h is second)
              ∙ ap (λ (b : Bool). known_if (is_behind looks (table second)) b) (found_more event (table name) looks old new h is (table second))

          by : (b c : Bool) → name_eq name second ≡ b → name_eq second name ≡ c → cond (name_eq name second) (Some true) (known_of old second) ≡ known_behind then_changed second
          by true c same back =
              let names : name ≡ second = same_name name second same in
              let here : is_behind looks (table second) ≡ true = ap (λ (n : Name). is_behind looks (table n)) (sym names) ∙ is in
              let own : name_eq second name ≡ true = ap (λ (n : Name). name_eq n name) (sym names) ∙ ap (λ (n : Name). name_eq name n) names ∙ same in
              ap (λ (b : Bool). cond b (Some true) (known_of old second)) same
              ∙ sym (of_parts ∙ ap (λ (b : Bool). known_if b (found_of looks (table second) || name_eq second name)) here
              ∙ ap (λ (b : Bool). known_if true b) (or_right (found_of looks (table second)) (name_eq second name) own))
          by false true apart back = absurd (let bad : true ≡ false = sym (ap (λ (n : Name). name_eq name n) (same_name second name back) ∙ own_name name) ∙ apart in cc)
          by false false apart back = ap (λ (b : Bool). cond b (Some true) (known_of old second)) apart ∙ h.names second
              ∙ sym (of_parts ∙ ap (λ (b : Bool). known_if (is_behind looks (table second)) (found_of looks (table second) || b)) back
              ∙ ap (λ (b : Bool). known_if (is_behind looks (table second)) b) (or-false (found_of looks (table second))))

-- ---- an event that may change any table

about_any : (reason : Reason) (c : Change) → is_about (unknown reason) c ≡ is_of_any c
about_any reason c = by c.cause
  where
    by : (cause : Cause) → same_cause (unknown reason) cause ≡ is_unknown cause
    by (table name) = refl
    by (unknown second) = refl

any_same : (reason : Reason) (changes : List Change) → list_any (is_about (unknown reason)) changes ≡ list_any is_of_any changes
any_same reason [] = refl
any_same reason (c ∷ changes) = ap (λ (b : Bool). b || list_any (is_about (unknown reason)) changes) (about_any reason c) ∙ ap (λ (b : Bool). is_of_any c || b) (any_same reason changes)

module _ (event : EventPlace) (reason : Reason) (looks : List Look) (old : LaterTables) (h : Holds looks old) where
  abbrev then_any : List Look
  then_any = looks ++ looked event (other (unknown reason)) ∷ []

  pub held_no_rows : old.has_undone ≡ false → Holds then_any old
  held_no_rows none = held_apart event (unknown reason) looks old h (sym h.undone ∙ none)

  pub held_any_again : old.has_unknown ≡ true → Holds then_any old
  held_any_again was = by (is_behind looks (unknown reason)) refl
    where
      found : list_any is_of_any (later_from [] looks) ≡ true
      found = sym h.any ∙ was

      by : (b : Bool) → is_behind looks (unknown reason) ≡ b → Holds then_any old
      by false apart = held_apart event (unknown reason) looks old h apart
      by true is = held_again event (unknown reason) looks old old h is (any_same reason (later_from [] looks) ∙ found)
          (λ name. found_more event (unknown reason) looks old old h is (table name) ∙ or-false (found_of looks (table name)))
          (any_found event (unknown reason) looks old old h is ∙ or_left (list_any is_of_any (later_from [] looks)) true found ∙ sym found)

  pub held_any_first : (new : LaterTables) → old.has_undone ≡ true → old.has_unknown ≡ false → ((name : Name) → known_of new name ≡ known_of old name) → new.has_undone ≡ old.has_undone
      → new.has_unknown ≡ true → found_in new ≡ found_in old ++ record { event = event; cause = unknown reason } ∷ [] → Holds then_any new
  held_any_first new some none names undone_is any found =
      let is : is_behind looks (unknown reason) ≡ true = sym h.undone ∙ some in
      held_first event (unknown reason) looks old new h is (any_same reason (later_from [] looks) ∙ sym h.any ∙ none)
      (λ name. names name ∙ h.names name
      ∙ sym (ap (λ (b : Bool). known_if b (found_of then_any (table name))) (front event (unknown reason) looks old new h is name)
      ∙ ap (λ (b : Bool). known_if (is_behind looks (table name)) b) (found_more event (unknown reason) looks old new h is (table name) ∙ or-false (found_of looks (table name)))))
      undone_is
      (any ∙ sym (any_found event (unknown reason) looks old new h is ∙ or_right (list_any is_of_any (later_from [] looks)) true refl)) found

-- ---- rows that are undone

module _ (event : EventPlace) (name : Name) (looks : List Look) (old new : LaterTables) (h : Holds looks old) where
  abbrev then_undone : List Look
  then_undone = looks ++ looked event (undone name) ∷ []

  undone_later : later_from [] then_undone ≡ later_from [] looks
  undone_later = later_more looks (looked event (undone name)) ∙ append-nil (later_from [] looks)

  undone_front : (second : Name) → is_behind then_undone (table second) ≡ (is_behind looks (table second) || name_eq name second)
  undone_front second = any_more (undoes second) looks (looked event (undone name))

  undone_found : (second : Name) → found_of then_undone (table second) ≡ found_of looks (table second)
  undone_found second = ap (λ (l : List Change). list_any (is_about (table second)) l) undone_later

  undone_known : (second : Name) → known_behind then_undone second ≡ known_if (is_behind looks (table second) || name_eq name second) (found_of looks (table second))
  undone_known second = ap (λ (b : Bool). known_if b (found_of then_undone (table second))) (undone_front second)
      ∙ ap (λ (b : Bool). known_if (is_behind looks (table second) || name_eq name second) b) (undone_found second)

  held_undone : ((second : Name) → known_of new second ≡ known_behind then_undone second) → new.has_undone ≡ true → new.has_unknown ≡ old.has_unknown → found_in new ≡ found_in old → Holds then_undone new
  held_undone names is any found = record {
    names = names;
    undone = is ∙ sym (any_more undoes_some looks (looked event (undone name)) ∙ or_right (list_any undoes_some looks) true refl);
    any = any ∙ h.any ∙ sym (ap (λ (l : List Change). list_any is_of_any l) undone_later);
    found = found ∙ h.found ∙ sym (ap firsts undone_later);
    behind = λ second was. undone_front second ∙ or_left (is_behind looks (table second)) (name_eq name second) (h.behind second (sym (undone_found second) ∙ was));
  }

  -- Rows of the table are undone in front, too.
  pub held_undone_again : (known_of old name ≡ None → ⊥) → ((second : Name) → known_of new second ≡ known_of old second) → new.has_undone ≡ true → new.has_unknown ≡ old.has_unknown → found_in new ≡ found_in old
      → Holds then_undone new
  held_undone_again some names is any found = held_undone (λ second. names second ∙ h.names second ∙ sym (undone_known second ∙ by second (name_eq name second) refl)) is any found
    where
      front_is : (b : Bool) → is_behind looks (table name) ≡ b → is_behind looks (table name) ≡ true
      front_is true is = is
      front_is false is = absurd (some (h.names name ∙ ap (λ (b : Bool). known_if b (found_of looks (table name))) is))

      by : (second : Name) (b : Bool) → name_eq name second ≡ b
          → known_if (is_behind looks (table second) || name_eq name second) (found_of looks (table second)) ≡ known_behind looks second
      by second true same =
          let here : is_behind looks (table second) ≡ true = ap (λ (n : Name). is_behind looks (table n)) (sym (same_name name second same)) ∙ front_is (is_behind looks (table name)) refl in
          ap (λ (b : Bool). known_if b (found_of looks (table second))) (or_left (is_behind looks (table second)) (name_eq name second) here ∙ sym here)
      by second false apart =
          ap (λ (b : Bool). known_if b (found_of looks (table second))) (ap (λ (b : Bool). is_behind looks (table second) || b) apart ∙ or-false (is_behind looks (table second)))

  -- No rows of it are undone in front.
  pub held_undone_first : known_of old name ≡ None → ((second : Name) → known_of new second ≡ cond (name_eq name second) (Some false) (known_of old second)) → new.has_undone ≡ true
      → new.has_unknown ≡ old.has_unknown → found_in new ≡ found_in old → Holds then_undone new
  held_undone_first none names is any found = held_undone (λ second. names second ∙ by second (name_eq name second) refl ∙ sym (undone_known second)) is any found
    where
      not_behind : (b f : Bool) → known_if b f ≡ None → b ≡ false
      not_behind true f is = absurd cc
      not_behind false f is = refl

      apart_is : is_behind looks (table name) ≡ false
      apart_is = not_behind (is_behind looks (table name)) (found_of looks (table name)) (sym (h.names name) ∙ none)

      not_found : (f : Bool) → found_of looks (table name) ≡ f → found_of looks (table name) ≡ false
      not_found true was = absurd (let bad : true ≡ false = sym (h.behind name was) ∙ apart_is in cc)
      not_found false was = was

      by : (second : Name) (b : Bool) → name_eq name second ≡ b
          → cond (name_eq name second) (Some false) (known_of old second) ≡ known_if (is_behind looks (table second) || name_eq name second) (found_of looks (table second))
      by second true same =
          let names : name ≡ second = same_name name second same in
          let none_found : found_of looks (table second) ≡ false = ap (λ (n : Name). found_of looks (table n)) (sym names) ∙ not_found (found_of looks (table name)) refl in
          ap (λ (b : Bool). cond b (Some false) (known_of old second)) same
          ∙ sym (ap (λ (b : Bool). known_if b (found_of looks (table second))) (or_right (is_behind looks (table second)) (name_eq name second) same) ∙ ap (λ (b : Bool). known_if true b) none_found)
      by second false apart =
          ap (λ (b : Bool). cond b (Some false) (known_of old second)) apart ∙ h.names second
          ∙ sym (ap (λ (b : Bool). known_if b (found_of looks (table second))) (ap (λ (b : Bool). is_behind looks (table second) || b) apart ∙ or-false (is_behind looks (table second))))

-- ---- what a call gives

pub found_if : {E : Type 0} (answer : Result (Unit {0}) E) (event : EventPlace) (name : Name) (old new : LaterTables) → known_of old name ≡ Some false → OnOk answer (Finds name event old new)
    → OnOk answer (Grows (looked event (other (table name)) ∷ []) old new)
found_if (Ok done) event name old new first finds = λ looks h. held_found_rows event name looks old h new first finds
found_if (Err e) event name old new first finds = tt

pub undone_if : {E : Type 0} (answer : Result (Unit {0}) E) (name : Name) (old mid new : LaterTables) → known_of old name ≡ None → ((second : Name) → known_of mid second ≡ known_of old second)
    → mid.has_undone ≡ true → mid.has_unknown ≡ old.has_unknown → mid.found.items ≡ old.found.items → OnOk answer (Puts name false mid new)
    → OnOk answer ((event : EventPlace) → Grows (looked event (undone name) ∷ []) old new)
undone_if (Ok done) name old mid new none names is any found puts = λ event looks h.
    held_undone_first event name looks old new h none
    (λ second. puts.names second ∙ ap (λ (o : Option Bool). cond (name_eq name second) (Some false) o) (names second))
    (puts.undone ∙ is) (puts.any ∙ any) (ap (map change_of) (puts.found ∙ found))
undone_if (Err e) name old mid new none names is any found puts = tt
