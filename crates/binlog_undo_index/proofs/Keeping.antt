-- What an index has of the groups of its events.
use Rattle.std.proofs.Common.{◌≡◌, ℕ, Bool, true, false, List, [], ◌∷◌, ◌++◌, map, flat_map, Option, Some, None, refl, sym, ◌∙◌, ap, append_assoc, append-nil}
use Rattle.std.proofs.lemmas.Grind.{flat_map-append}
use Rattle.std.proofs.lemmas.List.{map-append}
use Rattle.std.specs.Prelude.{◌&&◌}
use Rattle.binlog_transactions.specs.Pieces.{step, told}
use Rattle.binlog_transactions.specs.declared.transaction.Transaction.{Transaction}
use Rattle.binlog_transactions.specs.declared.turn.Place.{Place}
use Rattle.binlog_transactions.specs.declared.turn.Place.TheVariants.{Outside, First, Within, Last, Alone}
use Rattle.binlog_transactions.specs.declared.turn.Turn.{Turn}
use Rattle.binlog_undo_index.specs.Groups.{Told, Group, outside, whole, unfinished, told_events, cut_off, ended_with, still_open, uncut, ended_at, open_after, groups_in, open_behind, of_transaction, counted_behind, counted_in, open_at, end_of, open_of, split_of, change_list, changes_at, changes_in, Kept, kept_if_any, kept_unless, kept_if, kept_beside, kept_as, kept_of, kept_in, option_list, list_if, refused_if, refused_over, refused_as, refused_of, refused_in, with_map_at, maps_in}
use Rattle.binlog_undo_index.specs.Index.{place_of, changes_of, mark_of, turn_of, parts_for}
use Rattle.binlog_undo_index.specs.Parts.{Parts, no_parts, reset, opened, begun_behind, with_refused, added, transaction_list, kept_open, ended_taken, ended_if, ended_unless, ended_as, ended, cut, passed_if, passed, cut_if, placed, noted, noted_all}
use Rattle.binlog_undo_index.specs.declared.begun.Begun.{Begun}
use Rattle.binlog_undo_index.specs.declared.places.ChangePlace.{ChangePlace}
use Rattle.binlog_undo_index.specs.declared.places.TransactionPlace.{TransactionPlace}
use Rattle.binlog_undo_index.specs.declared.reason.Refused.{Refused}
use Rattle.binlog_undo_index.specs.declared.rules.Rules.{Rules}
use Rattle.binlog_undo_index.specs.declared.seen.SeenEvent.{SeenEvent}
use Rattle.binlog_undo_index.specs.declared.skips.Skips.{Skips}

-- ---- one event more

counted_more : (skips : Skips) (found : Option Refused) (events : List Told) (next : Told)
    → counted_in skips found (events ++ next ∷ []) ≡ counted_behind skips (counted_in skips found events) next
counted_more skips found [] next = refl
counted_more skips found (event ∷ events) next = counted_more skips (counted_behind skips found event) events next

pub end_more : (end : ℕ) (events : List Told) (next : Told) → end_of end (events ++ next ∷ []) ≡ next.event.end
end_more end [] next = refl
end_more end (event ∷ events) next = end_more event.event.end events next

open_more : (skips : Skips) (events : List Told) (next : Told)
    → open_of skips (events ++ next ∷ []) ≡ Some (begun_behind skips next.event next.turn.refusal (opened next.event (open_of skips events)))
open_more skips [] next = refl
open_more skips (event ∷ events) next =
    ap (λ (found : Option Refused). let b : Begun = record (open_at event.event) { end = end_of event.event.end (events ++ next ∷ []); refused = found } in Some b) (counted_more skips None (event ∷ events) next)
    ∙ ap (λ (end : ℕ). let b : Begun = record (open_at event.event) { end = end; refused = counted_behind skips (counted_in skips None (event ∷ events)) next } in Some b) (end_more event.event.end events next)

maps_more : (maps : List (ℕ × ℕ)) (events : List Told) (next : Told)
    → maps_in maps (events ++ next ∷ []) ≡ with_map_at next.event.table_id next.event.read_at (maps_in maps events)
maps_more maps [] next = refl
maps_more maps (event ∷ events) next = maps_more (with_map_at event.event.table_id event.event.read_at maps) events next

changes_more : (events : List Told) (next : Told) → changes_in (events ++ next ∷ []) ≡ changes_in events ++ change_list next.event.change
changes_more events next =
    flat_map-append changes_at events (next ∷ []) ∙ ap (λ (changes : List ChangePlace). changes_in events ++ changes) (append-nil (change_list next.event.change))

-- ---- parts with other lists

abbrev with_open : Parts → List (ℕ × ℕ) → Option Begun → List ChangePlace → Parts
with_open parts maps begun changes = record parts { maps = maps; begun = begun; open_changes = changes }

abbrev with_ended : Parts → List ChangePlace → List TransactionPlace → List Refused → Parts
with_ended parts changes transactions refusals = record parts { changes = changes; transactions = transactions; refusals = refusals }

same_open : (parts : Parts) (maps others : List (ℕ × ℕ)) (begun other : Option Begun) (changes more : List ChangePlace) → maps ≡ others → begun ≡ other → changes ≡ more
    → with_open parts maps begun changes ≡ with_open parts others other more
same_open parts maps others begun other changes more m o c =
    ap (λ (x : List (ℕ × ℕ)). with_open parts x begun changes) m ∙ ap (λ (x : Option Begun). with_open parts others x changes) o
    ∙ ap (λ (x : List ChangePlace). with_open parts others other x) c

same_ended : (parts : Parts) (changes more : List ChangePlace) (transactions others : List TransactionPlace) (refusals found : List Refused) → changes ≡ more
    → transactions ≡ others → refusals ≡ found → with_ended parts changes transactions refusals ≡ with_ended parts more others found
same_ended parts changes more transactions others refusals found c t r =
    ap (λ (x : List ChangePlace). with_ended parts x transactions refusals) c ∙ ap (λ (x : List TransactionPlace). with_ended parts more x refusals) t
    ∙ ap (λ (x : List Refused). with_ended parts more others x) r

-- An event of the transaction that is read.
added_is : (rules : Rules) (groups : List Group) (begun : List Told) (next : Told)
    → added next.event next.turn.refusal (parts_for rules groups begun) ≡ parts_for rules groups (begun ++ next ∷ [])
added_is rules groups begun next =
    same_open (parts_for rules groups begun) (with_map_at next.event.table_id next.event.read_at (maps_in [] begun)) (maps_in [] (begun ++ next ∷ []))
    (Some (begun_behind rules.skips next.event next.turn.refusal (opened next.event (open_of rules.skips begun)))) (open_of rules.skips (begun ++ next ∷ []))
    (changes_in begun ++ change_list next.event.change) (changes_in (begun ++ next ∷ [])) (sym (maps_more [] begun next)) (sym (open_more rules.skips begun next))
    (sym (changes_more begun next))

-- ---- a group more

-- What a group adds, where no transaction is read behind it.
group_more : (rules : Rules) (groups : List Group) (group : Group)
    → with_ended (parts_for rules groups []) (flat_map changes_of (kept_in rules groups) ++ flat_map changes_of (kept_of rules group))
    (map place_of (kept_in rules groups) ++ map place_of (kept_of rules group)) (refused_in rules groups ++ refused_of rules group)
    ≡ parts_for rules (groups ++ group ∷ []) []
group_more rules groups group =
    let kept : kept_in rules (groups ++ group ∷ []) ≡ kept_in rules groups ++ kept_of rules group =
    flat_map-append (kept_of rules) groups (group ∷ []) ∙ ap (λ (k : List Kept). kept_in rules groups ++ k) (append-nil (kept_of rules group)) in
    let refused : refused_in rules (groups ++ group ∷ []) ≡ refused_in rules groups ++ refused_of rules group =
    flat_map-append (refused_of rules) groups (group ∷ []) ∙ ap (λ (r : List Refused). refused_in rules groups ++ r) (append-nil (refused_of rules group)) in
    same_ended (parts_for rules groups []) (flat_map changes_of (kept_in rules groups) ++ flat_map changes_of (kept_of rules group))
    (flat_map changes_of (kept_in rules (groups ++ group ∷ []))) (map place_of (kept_in rules groups) ++ map place_of (kept_of rules group))
    (map place_of (kept_in rules (groups ++ group ∷ []))) (refused_in rules groups ++ refused_of rules group) (refused_in rules (groups ++ group ∷ []))
    (sym (ap (λ (k : List Kept). flat_map changes_of k) kept ∙ flat_map-append changes_of (kept_in rules groups) (kept_of rules group)))
    (sym (ap (λ (k : List Kept). map place_of k) kept ∙ map-append place_of (kept_in rules groups) (kept_of rules group)))
    (sym refused)

-- A group that keeps nothing.
refused_more : (rules : Rules) (groups : List Group) (group : Group) → kept_of rules group ≡ []
    → record (parts_for rules groups []) { refusals = refused_in rules groups ++ refused_of rules group } ≡ parts_for rules (groups ++ group ∷ []) []
refused_more rules groups group none =
    same_ended (parts_for rules groups []) (flat_map changes_of (kept_in rules groups)) (flat_map changes_of (kept_in rules groups) ++ flat_map changes_of (kept_of rules group))
    (map place_of (kept_in rules groups)) (map place_of (kept_in rules groups) ++ map place_of (kept_of rules group)) (refused_in rules groups ++ refused_of rules group)
    (refused_in rules groups ++ refused_of rules group)
    (sym (ap (λ (k : List Kept). flat_map changes_of (kept_in rules groups) ++ flat_map changes_of k) none ∙ append-nil (flat_map changes_of (kept_in rules groups))))
    (sym (ap (λ (k : List Kept). map place_of (kept_in rules groups) ++ map place_of k) none ∙ append-nil (map place_of (kept_in rules groups)))) refl
    ∙ group_more rules groups group

cut_is : (rules : Rules) (groups : List Group) (begun : List Told) → cut (parts_for rules groups begun) ≡ parts_for rules (groups ++ unfinished begun ∷ []) []
cut_is rules groups begun = refused_more rules groups (unfinished begun) refl

passed_is : (takes : Bool) (rules : Rules) (groups : List Group) (next : Told)
    → passed_if takes next.event next.turn.refusal (parts_for rules groups [])
    ≡ record (parts_for rules groups []) {
      refusals = refused_in rules groups ++ list_if takes (refused_if rules.skips next.event (of_transaction next.turn.refusal) ++ refused_if rules.skips next.event next.event.refusal);
    }
passed_is false rules groups next = ap (λ (r : List Refused). record (parts_for rules groups []) { refusals = r }) (sym (append-nil (refused_in rules groups)))
passed_is true rules groups next =
    ap (λ (r : List Refused). record (parts_for rules groups []) { refusals = r })
    (append_assoc (refused_in rules groups) (refused_if rules.skips next.event (of_transaction next.turn.refusal)) (refused_if rules.skips next.event next.event.refusal))

outside_is : (rules : Rules) (groups : List Group) (begun : List Told) (next : Told)
    → passed next.event next.turn.refusal (parts_for rules groups begun) ≡ parts_for rules (groups ++ outside next ∷ []) []
outside_is rules groups begun next = passed_is next.event.takes_first rules groups next ∙ refused_more rules groups (outside next) refl

-- ---- a transaction that ends

-- Parts with these lists behind theirs, where no transaction is read.
abbrev grown : Parts → List Kept → List Refused → Parts
grown parts kept refused = reset (with_ended parts (parts.changes ++ flat_map changes_of kept) (parts.transactions ++ map place_of kept) (parts.refusals ++ refused))

same : (parts : Parts) → reset parts ≡ grown parts [] []
same parts =
    ap reset (same_ended parts parts.changes (parts.changes ++ []) parts.transactions (parts.transactions ++ []) parts.refusals (parts.refusals ++ [])
    (sym (append-nil parts.changes)) (sym (append-nil parts.transactions)) (sym (append-nil parts.refusals)))

kept_is : (last : ℕ) (parts : Parts) (changes : List ChangePlace) → parts.open_changes ≡ changes → reset (kept_open last parts) ≡ grown parts (kept_if_any last changes) []
kept_is last parts [] is =
    ap reset (same_ended parts (parts.changes ++ parts.open_changes) (parts.changes ++ []) (parts.transactions ++ transaction_list last parts.open_changes) (parts.transactions ++ [])
    parts.refusals (parts.refusals ++ []) (ap (λ (c : List ChangePlace). parts.changes ++ c) is)
    (ap (λ (c : List ChangePlace). parts.transactions ++ transaction_list last c) is) (sym (append-nil parts.refusals)))
kept_is last parts (change ∷ changes) is =
    ap reset (same_ended parts (parts.changes ++ parts.open_changes) (parts.changes ++ ((change ∷ changes) ++ []))
    (parts.transactions ++ transaction_list last parts.open_changes) (parts.transactions ++ place_of (record { last = last; changes = change ∷ changes }) ∷ []) parts.refusals (parts.refusals ++ [])
    (ap (λ (c : List ChangePlace). parts.changes ++ c) (is ∙ sym (append-nil (change ∷ changes))))
    (ap (λ (c : List ChangePlace). parts.transactions ++ transaction_list last c) is) (sym (append-nil parts.refusals)))

refused_is : (parts : Parts) (refused : Refused) → reset (with_refused refused parts) ≡ grown parts [] (refused ∷ [])
refused_is parts refused =
    ap reset (same_ended parts parts.changes (parts.changes ++ []) parts.transactions (parts.transactions ++ []) (parts.refusals ++ refused ∷ []) (parts.refusals ++ refused ∷ [])
    (sym (append-nil parts.changes)) (sym (append-nil parts.transactions)) refl)

taken_is : (last : ℕ) (parts : Parts) (refused : Option Refused) → reset (ended_taken last refused parts) ≡ grown parts (kept_unless last parts.open_changes refused) (option_list refused)
taken_is last parts None = kept_is last parts parts.open_changes refl
taken_is last parts (Some refused) = refused_is parts refused

if_taken_is : (takes : Bool) (last : ℕ) (parts : Parts) (refused : Option Refused)
    → reset (ended_if takes last refused parts) ≡ grown parts (kept_if takes last parts.open_changes refused) (list_if takes (option_list refused))
if_taken_is true last parts refused = taken_is last parts refused
if_taken_is false last parts refused = same parts

split_is : (split : Option Refused) (event : SeenEvent) (parts : Parts) (begun : Begun) → reset (ended_unless split event begun parts)
    ≡ grown parts (kept_beside split (kept_if (begun.is_taken && event.takes_last) event.place parts.open_changes begun.refused))
    (refused_over split (list_if (begun.is_taken && event.takes_last) (option_list begun.refused)))
split_is None event parts begun = if_taken_is (begun.is_taken && event.takes_last) event.place parts begun.refused
split_is (Some refused) event parts begun = refused_is parts refused

ended_is : (event : SeenEvent) (parts : Parts) (begun : Option Begun) → reset (ended_as event begun parts)
    ≡ grown parts (kept_as parts.rules event parts.open_changes begun) (refused_as parts.rules event begun)
ended_is event parts None = same parts
ended_is event parts (Some begun) = split_is (split_of parts.rules.positions begun) event parts begun

whole_is : (rules : Rules) (groups : List Group) (begun : List Told) (next : Told)
    → ended next.event (added next.event next.turn.refusal (parts_for rules groups begun)) ≡ parts_for rules (groups ++ whole begun next ∷ []) []
whole_is rules groups begun next =
    ap (ended next.event) (added_is rules groups begun next)
    ∙ ended_is next.event (parts_for rules groups (begun ++ next ∷ [])) (open_of rules.skips (begun ++ next ∷ []))
    ∙ group_more rules groups (whole begun next)

-- ---- an event

placed_is : (place : Place) (rules : Rules) (groups : List Group) (begun : List Told) (next : Told)
    → placed place next.event next.turn.refusal (parts_for rules groups begun) ≡ parts_for rules (groups ++ ended_with place begun next) (still_open place begun next)
placed_is Outside rules groups begun next = outside_is rules groups begun next
placed_is First rules groups begun next =
    added_is rules groups [] next ∙ ap (λ (g : List Group). parts_for rules g (next ∷ [])) (sym (append-nil groups))
placed_is Within rules groups begun next =
    added_is rules groups begun next ∙ ap (λ (g : List Group). parts_for rules g (begun ++ next ∷ [])) (sym (append-nil groups))
placed_is Last rules groups begun next = whole_is rules groups begun next
placed_is Alone rules groups begun next = whole_is rules groups [] next

uncut_is : (cuts : Bool) (rules : Rules) (groups : List Group) (begun : List Told)
    → cut_if cuts (parts_for rules groups begun) ≡ parts_for rules (groups ++ cut_off cuts begun) (uncut cuts begun)
uncut_is true rules groups begun = cut_is rules groups begun
uncut_is false rules groups begun = ap (λ (g : List Group). parts_for rules g begun) (sym (append-nil groups))

noted_is : (rules : Rules) (groups : List Group) (begun : List Told) (next : Told)
    → noted next.event next.turn (parts_for rules groups begun) ≡ parts_for rules (groups ++ ended_at begun next) (open_after begun next)
noted_is rules groups begun next =
    let cuts : Bool = next.turn.cuts in
    let behind : List Group = groups ++ cut_off cuts begun in
    ap (placed next.turn.place next.event next.turn.refusal) (uncut_is cuts rules groups begun)
    ∙ placed_is next.turn.place rules behind (uncut cuts begun) next
    ∙ ap (λ (g : List Group). parts_for rules g (open_after begun next)) (append_assoc groups (cut_off cuts begun) (ended_with next.turn.place (uncut cuts begun) next))

-- ---- all events

all_noted : (rules : Rules) (groups : List Group) (begun : List Told) (current : Option Transaction) (events : List SeenEvent)
    → noted_all current events (parts_for rules groups begun)
    ≡ parts_for rules (groups ++ groups_in begun (told_events current events)) (open_behind begun (told_events current events))
all_noted rules groups begun current [] = ap (λ (g : List Group). parts_for rules g begun) (sym (append-nil groups))
all_noted rules groups begun current (event ∷ events) =
    let next : Told = record { event = event; turn = (step current event.mark).0 } in
    let others : Option Transaction = (step current event.mark).1 in
    ap (noted_all others events) (noted_is rules groups begun next)
    ∙ all_noted rules (groups ++ ended_at begun next) (open_after begun next) others events
    ∙ ap (λ (g : List Group). parts_for rules g (open_behind (open_after begun next) (told_events others events)))
    (append_assoc groups (ended_at begun next) (groups_in (open_after begun next) (told_events others events)))

pub kept_from_first : (rules : Rules) (events : List SeenEvent)
    → noted_all None events (no_parts rules) ≡ parts_for rules (groups_in [] (told_events None events)) (open_behind [] (told_events None events))
kept_from_first rules events = all_noted rules [] [] None events

pub turns_are_told : (current : Option Transaction) (events : List SeenEvent) → map turn_of (told_events current events) ≡ told current (map mark_of events)
turns_are_told current [] = refl
turns_are_told current (event ∷ events) =
    ap (λ (turns : List Turn). (step current event.mark).0 ∷ turns) (turns_are_told (step current event.mark).1 events)
