-- What is found in logs whose bytes are known.
use Rattle.std.proofs.Common.{◌≡◌, ◌==◌, true, false, eqb-true, ap, ◌∙◌, map, codes, drop, get_or, drop-cons, drop_of_length-le, add-one, append_assoc, append-nil, Bool, Bor, ℕ, ◌+◌, ◌≤◌, ◌<◌, ◌^◌, List, [], ◌∷◌, ◌++◌, length, Option, Some, None, IfSome, Result, Ok, Err, IfOk, refl, sym, subst}
use Rattle.std.proofs.lemmas.List.{nil_from_length}
use Rattle.binlog_cli.specs.TableWords.{texts_given}
use Rattle.clap.specs.declared.parser.matches.Found.{Found}
use Rattle.binlog_later_changes.specs.Later.{Look, later_changes}
use Rattle.binlog_later_changes.specs.Logs.{FindsLater, SeesLog}
use Rattle.binlog_later_changes.specs.Changes.{IsNew}
use Rattle.binlog_later_changes.specs.RowsLeft.{Left, left_of, nothing_left}
use Rattle.binlog_later_changes.specs.Tables.{change_of, Holds, Grows}
use Rattle.binlog_later_changes.specs.declared.later_change.LaterChange.{LaterChange}
use Rattle.binlog_later_changes.specs.declared.later_changes.LaterChanges.{LaterChanges}
use Rattle.binlog_later_changes.specs.declared.later_rules.LaterRules.{LaterRules}
use Rattle.binlog_later_changes.specs.declared.undone_events.RowsPlace.{RowsPlace}
use Rattle.binlog_later_changes.proofs.SeenLogs.{grows_none, grows_both}
use Rattle.binlog_undo_command.specs.LaterLogs.{is_payload, AreInside, FindsIn, FindsInLater, FindsInAll, AreUndoneOf, IsInsideOf, SeesAllLater, SeesAll, AreLater, LooksBehind, StatesRules, next_number}
use Rattle.binlog_undo_command.specs.declared.scanning.ScannedLog.{ScannedLog}
use Rattle.binlog_undo_index.specs.declared.places.TransactionPlace.{TransactionPlace}

pub nil_of : {A : Type 0} (xs : List A) → (length xs == 0) ≡ true → xs ≡ []
nil_of xs is = nil_from_length xs (eqb-true (length xs) 0 is)

-- What is left of a list from a place on.
pub left_at : {A : Type 0} (xs : List A) (i : ℕ) (none : A) → i < length xs → drop i xs ≡ get_or xs i none ∷ drop (i + 1) xs
left_at xs i none within = drop-cons xs i none within ∙ ap (λ (k : ℕ). get_or xs i none ∷ drop k xs) (sym (add-one i))

pub left_more : {A : Type 0} (xs : List A) (i : ℕ) (none x : A) → i < length xs → x ≡ get_or xs i none → drop i xs ≡ x ∷ drop (i + 1) xs
left_more {A} xs i none x within is = left_at xs i none within ∙ ap (λ (y : A). y ∷ drop (i + 1) xs) (sym is)

pub left_end : {A : Type 0} (xs : List A) (i : ℕ) → length xs ≤ i → drop i xs ≡ []
left_end xs i behind = drop_of_length-le xs {i = i} behind

pub not_nil : {A : Type 0} (xs : List A) → (length xs == 0) ≡ false → xs ≡ [] → ⊥
not_nil xs is none = let zero_is : (length xs == 0) ≡ true = ap (λ l. length l == 0) none in let bad : true ≡ false = sym zero_is ∙ is in absurd cc

pub map_not_nil : (changes : List LaterChange) → (changes ≡ [] → ⊥) → map change_of changes ≡ [] → ⊥
map_not_nil [] some none = some refl
map_not_nil (change ∷ changes) some none = absurd cc

-- What was found is what the options ask for.
pub behind_is : {F : Type 0} (bytes : List ℕ → Option (List ℕ)) (has_frames : List ℕ → F → Type 0) (is_at : F → ℕ → List ℕ → Type 0) (found : Found) (rules : LaterRules) (logs : List ScannedLog)
    (names : List (List ℕ)) (changes : LaterChanges) → StatesRules found rules → names ≡ texts_given found (codes "later")
    → ((none : LaterChanges) × IsNew none × FindsInAll bytes has_frames is_at rules 0 logs names none changes) → LooksBehind bytes has_frames is_at found logs changes
behind_is bytes has_frames is_at found rules logs names changes states are finds = record {
  rules = rules;
  stated = states;
  none = finds.0;
  fresh = finds.1;
  finds = subst (λ (words : List (List ℕ)). FindsInAll bytes has_frames is_at rules 0 logs words finds.0 changes) are finds.2;
}

pub if_ok : {A E : Type 0} (answer : Result A E) (P Q : A → Type 0) → ((value : A) → P value → Q value) → IfOk answer P → IfOk answer Q
if_ok (Ok value) P Q to is = to value is
if_ok (Err e) P Q to is = tt

-- The bytes that are left of a log that was opened are all of it.
pub known_finds : (known remaining : Option (List ℕ)) (rules : LaterRules) (number : ℕ) (undone : List RowsPlace) (old new : LaterChanges) → IfSome known (λ bytes. remaining ≡ Some bytes)
    → FindsIn rules number undone remaining old new → FindsIn rules number undone known old new
known_finds None remaining rules number undone old new is given = tt
known_finds (Some bytes) remaining rules number undone old new is given = rw is at given

-- ---- whether events have others inside

pub inside_next : (is_at among : ℕ → List ℕ → Type 0) (transactions : List TransactionPlace) (i : ℕ) (none : TransactionPlace) (items new : List Bool) (flag : Bool) (others : List Bool)
    → i < length transactions → new ≡ items ++ flag ∷ [] → ((place : ℕ) (frame : List ℕ) → among place frame → is_at place frame)
    → ((frame : List ℕ) × among (get_or transactions i none).last frame × (flag ≡ is_payload frame))
    → ((more : List Bool) → AreInside is_at (drop i transactions) more → AreInside is_at transactions (items ++ more)) → AreInside is_at (drop (i + 1) transactions) others
    → AreInside is_at transactions (new ++ others)
inside_next is_at among transactions i none items new flag others within pushed to one before more =
    let here : AreInside is_at (get_or transactions i none ∷ drop (i + 1) transactions) (flag ∷ others) =
    (one.0, others, to (get_or transactions i none).last one.0 one.1, more, ap (λ (b : Bool). b ∷ others) one.2) in
    subst (λ (l : List Bool). AreInside is_at transactions l) (sym (ap (λ (l : List Bool). l ++ others) pushed ∙ append_assoc items (flag ∷ []) others))
    (before (flag ∷ others) (subst (λ (l : List TransactionPlace). AreInside is_at l (flag ∷ others)) (sym (left_at transactions i none within)) here))

pub inside_end : (is_at : ℕ → List ℕ → Type 0) (transactions : List TransactionPlace) (i : ℕ) (items : List Bool) → length transactions ≤ i
    → ((more : List Bool) → AreInside is_at (drop i transactions) more → AreInside is_at transactions (items ++ more)) → AreInside is_at transactions items
inside_end is_at transactions i items behind before =
    let none : AreInside is_at (drop i transactions) [] = subst (λ (l : List TransactionPlace). AreInside is_at l []) (sym (left_end transactions i behind)) refl in
    subst (λ (l : List Bool). AreInside is_at transactions l) (append-nil items) (before [] none)

-- One later log more.
pub finds_next : (bytes : List ℕ → Option (List ℕ)) (rules : LaterRules) (number next : ℕ) (names : List (Bor (List ℕ))) (i : ℕ) (none : Bor (List ℕ)) (old mid new : LaterChanges) (undone : List RowsPlace)
    → i < length names → undone ≡ [] → FindsIn rules number undone (bytes (get_or names i none).now) old mid → next ≡ next_number number
    → FindsInLater bytes rules next (map (λ (name : Bor (List ℕ)). name.now) (drop (i + 1) names)) mid new
    → FindsInLater bytes rules number (map (λ (name : Bor (List ℕ)). name.now) (drop i names)) old new
finds_next bytes rules number next names i none old mid new undone within nothing one is more =
    let here = subst (λ (u : List RowsPlace). FindsIn rules number u (bytes (get_or names i none).now) old mid) nothing one in
    let behind = subst (λ (n : ℕ). FindsInLater bytes rules n (map (λ (name : Bor (List ℕ)). name.now) (drop (i + 1) names)) mid new) is more in
    subst (λ (l : List (Bor (List ℕ))). FindsInLater bytes rules number (map (λ (name : Bor (List ℕ)). name.now) l) old new) (sym (left_at names i none within)) (mid, here, behind)

module _ {F : Type 0} (known : List ℕ → Option (List ℕ)) (bytes : List ℕ → List ℕ) (has_frames : List ℕ → F → Type 0) (is_at : F → ℕ → List ℕ → Type 0) (rules : LaterRules)
    (are : (name : List ℕ) → known name ≡ Some (bytes name)) (small : (name : List ℕ) → length (bytes name) < 2 ^ 64) where
  finds_one : (number : ℕ) (undone : List RowsPlace) (name : List ℕ) (old new : LaterChanges) → FindsIn rules number undone (known name) old new → FindsLater rules number undone (bytes name) old new
  finds_one number undone name old new finds =
      let of_bytes : IfSome (Some (bytes name)) (λ shown. length shown < 2 ^ 64 → FindsLater rules number undone shown old new) =
      subst (λ (k : Option (List ℕ)). IfSome k (λ shown. length shown < 2 ^ 64 → FindsLater rules number undone shown old new)) (are name) finds in
      of_bytes (small name)

  -- Of later logs, and of all.
  record FoundLater (number : ℕ) (names : List (List ℕ)) (old new : LaterChanges) : Type 0 where
    looks : List Look
    seen : SeesAllLater bytes rules number names (left_of old.rows) (left_of new.rows) looks
    grows : Grows looks old.tables new.tables

  found_later : (number : ℕ) (names : List (List ℕ)) (old new : LaterChanges) → FindsInLater known rules number names old new → FoundLater number names old new
  found_later number [] old new same = record {
    looks = [];
    seen = (refl, ap (λ (c : LaterChanges). left_of c.rows) same);
    grows = subst (λ (c : LaterChanges). Grows [] old.tables c.tables) (sym same) (grows_none old.tables);
  }
  found_later number (name ∷ names) old new (mid, one, others) =
      let first = finds_one number [] name old mid one in
      let rest = found_later (next_number number) names mid new others in
      record {
        looks = first.looks ++ rest.looks;
        seen = (first.looks, rest.looks, left_of mid.rows, first.sees, rest.seen, refl);
        grows = grows_both first.looks rest.looks old.tables mid.tables new.tables first.grows rest.grows;
      }

  record FoundAll (number : ℕ) (logs : List ScannedLog) (names : List (List ℕ)) (old new : LaterChanges) : Type 0 where
    looks : List Look
    seen : SeesAll bytes has_frames is_at rules number logs names (left_of old.rows) (left_of new.rows) looks
    grows : Grows looks old.tables new.tables

  found_all : (number : ℕ) (logs : List ScannedLog) (names : List (List ℕ)) (old new : LaterChanges) → FindsInAll known has_frames is_at rules number logs names old new → FoundAll number logs names old new
  found_all number [] names old new finds =
      let later = found_later number names old new finds in
      record { looks = later.looks; seen = later.seen; grows = later.grows }
  found_all number (log ∷ logs) names old new (mid, one, others) =
      let first = finds_one number one.undone log.name.now old mid one.finds in
      let rest = found_all (next_number number) logs names mid new others in
      let undone : AreUndoneOf has_frames is_at log one.undone = one.are in
      record {
        looks = first.looks ++ rest.looks;
        seen = (one.undone, first.looks, rest.looks, left_of mid.rows, undone, first.sees, rest.seen, refl);
        grows = grows_both first.looks rest.looks old.tables mid.tables new.tables first.grows rest.grows;
      }

  pub are_later : (logs : List ScannedLog) (names : List (List ℕ)) (none changes : LaterChanges) → IsNew none → FindsInAll known has_frames is_at rules 0 logs names none changes
      → AreLater bytes has_frames is_at rules logs names changes
  are_later logs names none changes fresh finds =
      let all = found_all 0 logs names none changes finds in
      let holds : Holds all.looks changes.tables = all.grows [] fresh.tables in
      record {
        looks = all.looks;
        behind = left_of changes.rows;
        seen = subst (λ (l : Left). SeesAll bytes has_frames is_at rules 0 logs names l (left_of changes.rows) all.looks) fresh.rows all.seen;
        found = holds.found;
      }
