-- What is seen of rows that are checked, where nothing is in the way.
use Rattle.std.proofs.Common.{◌≡◌, inl, inr, ℕ, ◌==◌, ◌||◌, Bool, true, false, cond, List, [], ◌∷◌, ◌++◌, length, Option, Some, None, Result, Ok, Err, refl, sym, ap, subst, ◌∙◌, append_assoc, append-nil}
use Rattle.std.specs.Prelude.{unwrap_or}
use Rattle.std.specs.List.{list_any, flat_map}
use Rattle.binlog_wire.specs.declared.error.Error.{Error}
use Rattle.binlog_events.specs.Events.{EventView}
use Rattle.binlog_file.specs.TableMapsInForce.{TableMaps, no_table_maps}
use Rattle.binlog_visits.specs.Places.{first_place}
use Rattle.binlog_visits.specs.TableMaps.{maps_behind}
use Rattle.binlog_payload_visits.specs.Parts.{Part, maps_behind_part}
use Rattle.binlog_payload_visits.specs.Splicing.{Shown, outside, inside}
use Rattle.binlog_undo_index.specs.declared.reason.Reason.TheVariants.{Tail}
use Rattle.change_statistics.specs.Facts.{Name}
use Rattle.change_statistics.specs.Names.{name_eq}
use Rattle.table_changes.specs.Changes.{State, IsWith}
use Rattle.table_changes.specs.Parts.{Logged, Lowers, KeepsApart}
use Rattle.binlog_later_changes.specs.Apart.{SeenRows, undone_rows, kept_rows, logged_in}
use Rattle.binlog_later_changes.specs.KnownRows.{RowImages, Knows}
use Rattle.binlog_later_changes.specs.Later.{Cause, table, unknown, undone, other, Look, Change, undoes, is_behind, change_if, later_at, later_from}
use Rattle.binlog_later_changes.specs.Logs.{SeesLog}
use Rattle.binlog_later_changes.specs.Looks.{At, in_front, event_at, look_of, unknown_at, kept_what, at_event, at_tail, at_part, is_limit, tail_looks, SeesKept, SeesChecked, SeesCauseIf, SeesItem, SeesItemIf, SeesLack, SeesPart, SeesPartIf, AreSeen}
use Rattle.binlog_later_changes.specs.Places.{is_next}
use Rattle.binlog_later_changes.specs.RowKeys.{Values}
use Rattle.binlog_later_changes.specs.RowsLeft.{Left, LeavesRows, NotesTable, Leaves, is_apart, removes_left, is_known_table}
use Rattle.binlog_later_changes.specs.SeenRows.{Unread, rows_if_known, AreOf, rows_kept, rows_checked, rows_of_cause, rows_of_item, rows_of_part, rows_of_item_if, rows_of_part_if, rows_seen, rows_of_log}
use Rattle.binlog_later_changes.specs.declared.later_change.EventPlace.{EventPlace}
use Rattle.binlog_later_changes.specs.declared.later_rules.LaterRules.{LaterRules}
use Rattle.binlog_later_changes.specs.declared.undone_events.RowsPlace.{RowsPlace}
use Rattle.binlog_later_changes.specs.declared.undone_events.RowsPlace.TheVariants.{InLog, InContent}
use Rattle.binlog_later_changes.proofs.Apart.{keeps_both, undone_kept, kept_kept, not_true}
use Rattle.binlog_later_changes.proofs.LaterLists.{any_more}
use Rattle.change_statistics.proofs.NamedTables.{own_name}

-- ---- later changes

later_both : (before own others : List Look) → later_from before (own ++ others) ≡ later_from before own ++ later_from (before ++ own) others
later_both before [] others = ap (λ (l : List Look). later_from l others) (sym (append-nil before))
later_both before (first ∷ own) others =
    ap (λ (l : List Change). later_at before first ++ l) (later_both (before ++ first ∷ []) own others)
    ∙ ap (λ (l : List Look). later_at before first ++ (later_from (before ++ first ∷ []) own ++ later_from l others)) (append_assoc before (first ∷ []) own)
    ∙ sym (append_assoc (later_at before first) (later_from (before ++ first ∷ []) own) (later_from (before ++ first ∷ own) others))

none_both : (xs ys : List Change) → xs ++ ys ≡ [] → (xs ≡ []) × (ys ≡ [])
none_both [] ys is = (refl, is)
none_both (x ∷ xs) ys is = absurd cc

-- Rows that are no later change are of a table of which none are undone in front.
not_behind : (before : List Look) (event : EventPlace) (name : Name) → later_from before (record { event = event; what = other (table name) } ∷ []) ≡ [] → is_behind before (table name) ≡ false
not_behind before event name none = by (is_behind before (table name)) refl
  where
    change : Change
    change = record { event = event; cause = table name }

    by : (b : Bool) → is_behind before (table name) ≡ b → is_behind before (table name) ≡ false
    by true is = let bad : change_if true change ++ [] ≡ [] = sym (ap (λ (b : Bool). change_if b change ++ []) is) ∙ none in absurd cc
    by false is = is

-- ---- tables of which rows are undone

or_last : (a b : Bool) → b ≡ true → (a || b) ≡ true
or_last true b is = refl
or_last false b is = is

-- One event more.
of_more : (before : List Look) (look : Look) (left : Left) → AreOf before left → AreOf (before ++ look ∷ []) left
of_more before look left h = record {
  undone = λ name is_unknown is. any_more (undoes name) before look ∙ ap (λ (b : Bool). b || undoes name look) (h.undone name is_unknown is);
  others = h.others;
}

of_one : (before looks : List Look) (look : Look) (old new : Left) → looks ≡ look ∷ [] → new ≡ old → AreOf before old → AreOf (before ++ looks) new
of_one before looks look old new is same h =
    subst (λ (l : Left). AreOf (before ++ looks) l) (sym same) (subst (λ (l : List Look). AreOf (before ++ l) old) (sym is) (of_more before look old h))

no_table : (before : List Look) (left : Left) (name : Name) → AreOf before left → is_behind before (table name) ≡ false → left.tables name ≡ None
no_table before left name h isnt = by (left.tables name) refl
  where
    by : (known : Option Bool) → left.tables name ≡ known → left.tables name ≡ None
    by None is = is
    by (Some is_unknown) is = let bad : true ≡ false = sym (h.undone name is_unknown is) ∙ isnt in absurd cc

-- ---- the counts of other tables

other_name : (name second : Name) → name_eq name second ≡ false → second ≡ name → ⊥
other_name name second apart same = let bad : true ≡ false = sym (own_name name) ∙ sym (ap (λ (n : Name). name_eq name n) same) ∙ apart in cc

module _ (name second : Name) (apart : name_eq name second ≡ false) where
  with_other : (row : Option Values) (fewer more : State Name Values) → IsWith name row fewer more → (another : Values) → more second another ≡ fewer second another
  with_other None fewer more same another = ap (λ (s : State Name Values). s second another) same
  with_other (Some row) fewer more one another = one.elsewhere second another (λ both. other_name name second apart both.0)

  lowers_other : (row : Option Values) (old new : State Name Values) → Lowers name row old new → (another : Values) → new second another ≡ old second another
  lowers_other None old new same another = ap (λ (s : State Name Values). s second another) same
  lowers_other (Some row) old new lowers another = elim lowers [
    | inl fewer ↦ sym (with_other (Some row) new old fewer another)
    | inr same ↦ ap (λ (s : State Name Values). s second another) same.1
  ]

  rows_other : (images : List RowImages) (old new : State Name Values) → LeavesRows name images old new → (another : Values) → new second another ≡ old second another
  rows_other [] old new same another = ap (λ (s : State Name Values). s second another) same
  rows_other (first ∷ images) old new (mid, one, more) another =
      rows_other images mid new more another ∙ with_other first.1 one.lowered mid one.raises another ∙ lowers_other first.0 old one.lowered one.lowers another

counts_other : (name : Name) (known : Option (List RowImages)) (old new : Left) → Leaves name known old new → (second : Name) → name_eq name second ≡ false → (row : Values)
    → new.counts second row ≡ old.counts second row
counts_other name (Some images) old new leaves second apart row = rows_other name second apart images old.counts new.counts leaves.0 row
counts_other name None old new leaves second apart row = ap (λ (s : State Name Values). s second row) leaves.0

notes : (name : Name) (known : Option (List RowImages)) (old new : Left) → Leaves name known old new → (is_unknown : Bool) × NotesTable name is_unknown old.tables new.tables
notes name (Some images) old new leaves = (false, leaves.1)
notes name None old new leaves = (true, leaves.1)

-- Rows more of a table are undone.
of_undone : (before : List Look) (event : EventPlace) (name : Name) (known : Option (List RowImages)) (old new : Left) → Leaves name known old new → AreOf before old
    → AreOf (before ++ record { event = event; what = undone name } ∷ []) new
of_undone before event name known old new leaves h = record { undone = behind_it; others = not_left }
  where
    look : Look
    look = record { event = event; what = undone name }

    noted : (is_unknown : Bool) × NotesTable name is_unknown old.tables new.tables
    noted = notes name known old new leaves

    elsewhere : (second : Name) → name_eq name second ≡ false → new.tables second ≡ old.tables second
    elsewhere second apart = noted.1 second ∙ ap (λ (b : Bool). cond b (Some (noted.0 || unwrap_or (old.tables name) false)) (old.tables second)) apart

    here : (second : Name) → name_eq name second ≡ true → new.tables second ≡ Some (noted.0 || unwrap_or (old.tables name) false)
    here second same = noted.1 second ∙ ap (λ (b : Bool). cond b (Some (noted.0 || unwrap_or (old.tables name) false)) (old.tables second)) same

    behind_it : (second : Name) (is_unknown : Bool) → new.tables second ≡ Some is_unknown → is_behind (before ++ look ∷ []) (table second) ≡ true
    behind_it second is_unknown is = by (name_eq name second) refl
      where
        by : (b : Bool) → name_eq name second ≡ b → is_behind (before ++ look ∷ []) (table second) ≡ true
        by true same = any_more (undoes second) before look ∙ or_last (list_any (undoes second) before) (name_eq name second) same
        by false apart = any_more (undoes second) before look ∙ ap (λ (b : Bool). b || name_eq name second) (h.undone second is_unknown (sym (elsewhere second apart) ∙ is))

    not_left : (second : Name) (row : Values) → new.tables second ≡ None → new.counts second row ≡ 0
    not_left second row is = by (name_eq name second) refl
      where
        by : (b : Bool) → name_eq name second ≡ b → new.counts second row ≡ 0
        by true same = let bad : Some (noted.0 || unwrap_or (old.tables name) false) ≡ None = sym (here second same) ∙ is in absurd cc
        by false apart = counts_other name known old new leaves second apart row ∙ h.others second row (sym (elsewhere second apart) ∙ is)

-- ---- rows

one_kept : (rows : SeenRows) (old new : State Name Values) → KeepsApart (logged_in rows) old new → KeepsApart (flat_map logged_in (rows ∷ [])) old new
one_kept rows old new h = keeps_both (logged_in rows) [] old new new h refl

any_kept : (name : Name) (images : List RowImages) (counts : State Name Values) → ((row : Values) → counts name row ≡ 0) → KeepsApart (logged_in (kept_rows name images)) counts counts
any_kept name [] counts none = refl
any_kept name ((None, None) ∷ images) counts none = any_kept name images counts none
any_kept name ((None, Some added) ∷ images) counts none = (tt, any_kept name images counts none)
any_kept name ((Some removed, None) ∷ images) counts none = (none removed, any_kept name images counts none)
any_kept name ((Some removed, Some added) ∷ images) counts none = (none removed, any_kept name images counts none)

flat_both : (xs ys : List SeenRows) → flat_map logged_in (xs ++ ys) ≡ flat_map logged_in xs ++ flat_map logged_in ys
flat_both [] ys = refl
flat_both (x ∷ xs) ys = ap (λ (l : List (Logged Name Values)). logged_in x ++ l) (flat_both xs ys) ∙ sym (append_assoc (logged_in x) (flat_map logged_in xs) (flat_map logged_in ys))

rows_both : (xs ys : List SeenRows) (old mid new : State Name Values) → KeepsApart (flat_map logged_in xs) old mid → KeepsApart (flat_map logged_in ys) mid new
    → KeepsApart (flat_map logged_in (xs ++ ys)) old new
rows_both xs ys old mid new one two =
    subst (λ (l : List (Logged Name Values)). KeepsApart l old new) (sym (flat_both xs ys)) (keeps_both (flat_map logged_in xs) (flat_map logged_in ys) old mid new one two)

undone_if_known : (name : Name) (known : Option (List RowImages)) (old new : Left) → Leaves name known old new
    → KeepsApart (flat_map logged_in (rows_if_known (undone_rows name) known)) old.counts new.counts
undone_if_known name (Some images) old new leaves = one_kept (undone_rows name images) old.counts new.counts (undone_kept name images old.counts new.counts leaves.0)
undone_if_known name None old new leaves = leaves.0

is_some : (known : Option Bool) → is_known_table known ≡ true → (is_unknown : Bool) × (known ≡ Some is_unknown)
is_some (Some is_unknown) is = (is_unknown, refl)
is_some None is = absurd cc

-- What was seen, and what follows of it: the changes are kept apart, and the tables are those of which rows are undone in front.
abbrev pub Follows : List SeenRows → (before looks : List Look) → Left → Left → Type 0
Follows rows before looks old new = KeepsApart (flat_map logged_in rows) old.counts new.counts × AreOf (before ++ looks) new

nothing_seen : (before looks : List Look) (look : Look) (old new : Left) → looks ≡ look ∷ [] → new ≡ old → AreOf before old → Follows [] before looks old new
nothing_seen before looks look old new is same h = (ap (λ (l : Left). l.counts) same, of_one before looks look old new is same h)

pub none_follow : (before looks : List Look) (old new : Left) → looks ≡ [] → new ≡ old → AreOf before old → Follows [] before looks old new
none_follow before looks old new none same h = (
  ap (λ (l : Left). l.counts) same,
  subst (λ (l : Left). AreOf (before ++ looks) l) (sym same)
      (subst (λ (l : List Look). AreOf l old) (sym (append-nil before) ∙ sym (ap (λ (l : List Look). before ++ l) none)) h),
)

-- What follows of two, one behind the other.
pub both_follow : (first second : List SeenRows) (before own others looks : List Look) (old mid new : Left) → looks ≡ own ++ others → Follows first before own old mid
    → Follows second (before ++ own) others mid new → Follows (first ++ second) before looks old new
both_follow first second before own others looks old mid new is one two = (
  rows_both first second old.counts mid.counts new.counts one.0 two.0,
  subst (λ (l : List Look). AreOf l new) (append_assoc before own others ∙ sym (ap (λ (l : List Look). before ++ l) is)) two.1,
)

pub free_both : (before own others looks : List Look) → looks ≡ own ++ others → later_from before looks ≡ [] → (later_from before own ≡ []) × (later_from (before ++ own) others ≡ [])
free_both before own others looks is free =
    none_both (later_from before own) (later_from (before ++ own) others) (sym (later_both before own others) ∙ sym (ap (later_from before) is) ∙ free)

module _ (rules : LaterRules) (log : ℕ) (unread : Unread) where
  module _ (Is : Option (List RowImages) → Type 0) (at : At) (place : RowsPlace) (before looks : List Look) (free : later_from before looks ≡ []) (h : AreOf before at.rows) where
    near : (name : Name) → looks ≡ look_of log at (other (table name)) ∷ [] → is_behind before (table name) ≡ false
    near name is = not_behind before (event_at log at) name (sym (ap (later_from before) is) ∙ free)

    known_kept : (name : Name) (images : List RowImages) (apart : Bool) → apart ≡ is_apart at.rows.counts name (Some images) → is_known_table (at.rows.tables name) ≡ true
        → looks ≡ look_of log at (kept_what apart name) ∷ [] → KeepsApart (logged_in (kept_rows name images)) at.rows.counts at.rows.counts
    known_kept name images true is knows looks_are = kept_kept name images at.rows.counts (not_true (list_any (removes_left at.rows.counts name) images) (sym is))
    known_kept name images false is knows looks_are =
        let there = is_some (at.rows.tables name) knows in
        let bad : true ≡ false = sym (h.undone name there.0 there.1) ∙ near name looks_are in
        absurd cc

    kept_if_known : (name : Name) (known : Option (List RowImages)) → is_known_table (at.rows.tables name) ≡ true
        → looks ≡ look_of log at (kept_what (is_apart at.rows.counts name known) name) ∷ []
        → KeepsApart (flat_map logged_in (rows_if_known (kept_rows name) known)) at.rows.counts at.rows.counts
    kept_if_known name None knows looks_are = refl
    kept_if_known name (Some images) knows looks_are =
        one_kept (kept_rows name images) at.rows.counts at.rows.counts (known_kept name images (is_apart at.rows.counts name (Some images)) refl knows looks_are)

    kept_follow : (name : Name) (known : Bool) → is_known_table (at.rows.tables name) ≡ known → (sees : SeesKept rules log known Is at name looks)
        → Follows (rows_kept rules log unread known Is at place name looks sees) before looks at.rows at.rows
    kept_follow name false is sees = (
      one_kept (kept_rows name (unread place)) at.rows.counts at.rows.counts
          (any_kept name (unread place) at.rows.counts (λ row. h.others name row (no_table before at.rows name h (near name sees)))),
      of_one before looks (look_of log at (other (table name))) at.rows at.rows sees refl h,
    )
    kept_follow name true is sees = (
      kept_if_known name sees.0 is sees.2,
      of_one before looks (look_of log at (kept_what (is_apart at.rows.counts name sees.0) name)) at.rows at.rows sees.2 refl h,
    )

    checked_follow : (name : Name) (met : Bool) (end : At) (sees : SeesChecked rules log met Is at place name looks end)
        → Follows (rows_checked rules log unread met Is at place name looks end sees) before looks at.rows end.rows
    checked_follow name true end sees =
        let same : end.rows ≡ sees.2 = ap (λ (a : At). a.rows) sees.5 in
        subst (λ (l : Left). Follows (rows_if_known (undone_rows name) sees.0) before looks at.rows l) (sym same) (
          undone_if_known name sees.0 at.rows sees.2 sees.3,
          subst (λ (l : List Look). AreOf (before ++ l) sees.2) (sym sees.4) (of_undone before (event_at log at) name sees.0 at.rows sees.2 sees.3 h),
        )
    checked_follow name false end sees =
        subst (λ (l : Left). Follows (rows_kept rules log unread (is_known_table (at.rows.tables name)) Is at place name looks sees.0) before looks at.rows l) (sym (ap (λ (a : At). a.rows) sees.1))
        (kept_follow name (is_known_table (at.rows.tables name)) refl sees.0)

    cause_follows : (checks : Bool) → checks ≡ true → (cause : Option Cause) (end : At) (sees : SeesCauseIf rules log checks Is at place cause looks end)
        → Follows (rows_of_cause rules log unread checks Is at place cause looks end sees) before looks at.rows end.rows
    cause_follows false checks cause end sees = absurd cc
    cause_follows true checks None end sees = nothing_seen before looks _ at.rows end.rows sees.0 (ap (λ (a : At). a.rows) sees.1) h
    cause_follows true checks (Some (unknown reason)) end sees = nothing_seen before looks _ at.rows end.rows sees.0 (ap (λ (a : At). a.rows) sees.1) h
    cause_follows true checks (Some (table name)) end sees = checked_follow name (is_next place at.left) end sees

  module _ (checks : rules.checks_rows ≡ true) where
    item_follows : (at : At) (maps : TableMaps) (index : ℕ) (item : Result EventView Error) (before looks : List Look) (end : At) (sees : SeesItem rules log at maps index item looks end)
        → AreOf before at.rows → later_from before looks ≡ [] → Follows (rows_of_item rules log unread at maps index item looks end sees) before looks at.rows end.rows
    item_follows at maps index (Ok event) before looks end sees h free =
        cause_follows (Knows maps event) (at_event at index (length event.frame)) (InLog at.end) before looks free h rules.checks_rows checks sees.0 end sees.2
    item_follows at maps index (Err error) before looks end sees h free = nothing_seen before looks _ at.rows end.rows sees.0 (ap (λ (a : At). a.rows) sees.1) h

    lack_follows : (limit : Bool) (at : At) (before looks : List Look) (end : At) → SeesLack rules log limit at looks end → AreOf before at.rows → Follows [] before looks at.rows end.rows
    lack_follows true at before looks end sees h = nothing_seen before looks _ at.rows end.rows sees.0 (ap (λ (a : At). a.rows) sees.1) h
    lack_follows false at before looks end sees h = nothing_seen before looks _ at.rows end.rows sees.0 (ap (λ (a : At). a.rows) sees.1) h

    part_follows : (at : At) (maps : TableMaps) (part : Part) (before looks : List Look) (end : At) (sees : SeesPart rules log at maps part looks end)
        → AreOf before at.rows → later_from before looks ≡ [] → Follows (rows_of_part rules log unread at maps part looks end sees) before looks at.rows end.rows
    part_follows at maps (Ok event) before looks end sees h free =
        cause_follows (Knows maps event) (at_part at (length event.frame)) (InContent at.place at.inside) before looks free h rules.checks_rows checks sees.0 end sees.2
    part_follows at maps (Err error) before looks end sees h free = lack_follows (is_limit error) at before looks end sees h

    nothing_follows : (at : At) (before looks : List Look) (end : At) → (looks ≡ []) × (end ≡ at) → AreOf before at.rows → Follows [] before looks at.rows end.rows
    nothing_follows at before looks end sees h = none_follow before looks at.rows end.rows sees.0 (ap (λ (a : At). a.rows) sees.1) h

    item_if_follows : (is_stopped : Bool) (at : At) (maps : TableMaps) (index : ℕ) (item : Result EventView Error) (before looks : List Look) (end : At)
        (sees : SeesItemIf rules log is_stopped at maps index item looks end) → AreOf before at.rows → later_from before looks ≡ []
        → Follows (rows_of_item_if rules log unread is_stopped at maps index item looks end sees) before looks at.rows end.rows
    item_if_follows true at maps index item before looks end sees h free = nothing_follows at before looks end sees h
    item_if_follows false at maps index item before looks end sees h free = item_follows at maps index item before looks end sees h free

    part_if_follows : (is_stopped : Bool) (at : At) (maps : TableMaps) (part : Part) (before looks : List Look) (end : At)
        (sees : SeesPartIf rules log is_stopped at maps part looks end) → AreOf before at.rows → later_from before looks ≡ []
        → Follows (rows_of_part_if rules log unread is_stopped at maps part looks end sees) before looks at.rows end.rows
    part_if_follows true at maps part before looks end sees h free = nothing_follows at before looks end sees h
    part_if_follows false at maps part before looks end sees h free = part_follows at maps part before looks end sees h free

    seen_follow : (at : At) (maps part_maps : TableMaps) (shown : List Shown) (before looks : List Look) (end : At) (sees : AreSeen rules log at maps part_maps shown looks end)
        → AreOf before at.rows → later_from before looks ≡ [] → Follows (rows_seen rules log unread at maps part_maps shown looks end sees) before looks at.rows end.rows
    seen_follow at maps part_maps [] before looks end sees h free = nothing_follows at before looks end sees h
    seen_follow at maps part_maps (outside index item ∷ shown) before looks end (own, others, mid, first, more, is) h free =
        let parts = free_both before own others looks is free in
        let one = item_if_follows at.is_stopped at (maps_behind maps item) index item before own mid first h parts.0 in
        let two = seen_follow mid (maps_behind maps item) no_table_maps shown (before ++ own) others end more one.1 parts.1 in
        both_follow (rows_of_item_if rules log unread at.is_stopped at (maps_behind maps item) index item own mid first)
        (rows_seen rules log unread mid (maps_behind maps item) no_table_maps shown others end more) before own others looks at.rows mid.rows end.rows is one two
    seen_follow at maps part_maps (inside index number part ∷ shown) before looks end (own, others, mid, first, more, is) h free =
        let parts = free_both before own others looks is free in
        let one = part_if_follows at.is_stopped at (maps_behind_part part_maps part) part before own mid first h parts.0 in
        let two = seen_follow mid maps (maps_behind_part part_maps part) shown (before ++ own) others end more one.1 parts.1 in
        both_follow (rows_of_part_if rules log unread at.is_stopped at (maps_behind_part part_maps part) part own mid first)
        (rows_seen rules log unread mid maps (maps_behind_part part_maps part) shown others end more) before own others looks at.rows mid.rows end.rows is one two

    -- The end of a log.
    tail_if : (is_empty : Bool) (before : List Look) (look : Look) (left : Left) → AreOf before left → AreOf (before ++ cond is_empty [] (look ∷ [])) left
    tail_if true before look left h = subst (λ (l : List Look). AreOf l left) (sym (append-nil before)) h
    tail_if false before look left h = of_more before look left h

    tail_follows : (is_stopped : Bool) (tail_len : Option ℕ) (at : At) (before : List Look) (left : Left) → AreOf before left
        → AreOf (before ++ tail_looks rules log is_stopped tail_len at) left
    tail_follows true tail_len at before left h = subst (λ (l : List Look). AreOf l left) (sym (append-nil before)) h
    tail_follows false None at before left h = of_more before (unknown_at rules log (at_tail at) Tail) left h
    tail_follows false (Some len) at before left h = tail_if (len == 0) before (unknown_at rules log (at_tail at) Tail) left h

    pub log_follows : (places : List RowsPlace) (bytes : List ℕ) (before behind : Left) (others looks : List Look) (sees : SeesLog rules log places bytes before behind looks)
        → AreOf others before → later_from others looks ≡ [] → Follows (rows_of_log rules log unread places bytes before behind looks sees) others looks before behind
    log_follows places bytes before behind others looks sees h free =
        let tail : List Look = tail_looks rules log sees.end.is_stopped sees.tail_len sees.end in
        let parts = free_both others sees.seen tail looks sees.is free in
        let seen = seen_follow (in_front before places) (first_place sees.stream).state.table_maps no_table_maps sees.shown others sees.seen sees.end sees.each h parts.0 in
        subst (λ (l : Left). Follows (rows_of_log rules log unread places bytes before behind looks sees) others looks before l) (sym sees.rows) (
          seen.0,
          subst (λ (l : List Look). AreOf l sees.end.rows) (append_assoc others sees.seen tail ∙ sym (ap (λ (l : List Look). others ++ l) sees.is))
              (tail_follows sees.end.is_stopped sees.tail_len sees.end (others ++ sees.seen) sees.end.rows seen.1),
        )
