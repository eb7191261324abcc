-- Transactions of row events alone are whole groups, and nothing else of their log is kept or refused.
use Rattle.std.proofs.Common.{◌≡◌, ℕ, Bool, true, false, List, [], ◌∷◌, ◌++◌, map, flat_map, Option, Some, None, refl, sym, ◌∙◌, ap, append_assoc, append-nil}
use Rattle.std.proofs.lemmas.Grind.{flat_map-append}
use Rattle.std.specs.List.{AllByRecursion}
use Rattle.std.specs.Prelude.{◌&&◌, ◌||◌}
use Rattle.binlog_transactions.specs.Pieces.{step}
use Rattle.binlog_transactions.specs.declared.mark.Mark.{Mark}
use Rattle.binlog_transactions.specs.declared.mark.Mark.TheVariants as marks
use Rattle.binlog_transactions.specs.declared.statements.StatementKind.TheVariants as kinds
use Rattle.binlog_transactions.specs.declared.transaction.Ending.TheVariants.{ByCommit}
use Rattle.binlog_transactions.specs.declared.transaction.Transaction.{Transaction}
use Rattle.binlog_transactions.specs.declared.turn.Place.{Place}
use Rattle.binlog_transactions.specs.declared.turn.Place.TheVariants.{Outside, First, Within, Last}
use Rattle.binlog_undo_index.proofs.Keeping.{end_more}
use Rattle.binlog_undo_index.specs.Groups.{Told, Group, outside, whole, told_events, groups_in, counted_in, counted_if, open_at, open_of, end_of, change_list, changes_at, changes_in, Kept, kept_if_any, kept_if, kept_beside, kept_as, kept_of, kept_in, option_list, list_if, refused_if, refused_over, refused_as, refused_of, refused_in, split_if}
use Rattle.binlog_undo_index.specs.Positions.{splits}
use Rattle.binlog_undo_index.specs.RowTransactions.{RowTransaction, events_of, IsOfRows, IsRowTransaction, changes_of_event, kept_rows, IsBorder, row_groups}
use Rattle.binlog_undo_index.specs.declared.begun.Begun.{Begun}
use Rattle.binlog_undo_index.specs.declared.places.ChangePlace.{ChangePlace}
use Rattle.binlog_undo_index.specs.declared.reason.Refused.{Refused}
use Rattle.binlog_undo_index.specs.declared.rules.Rules.{Rules}
use Rattle.binlog_undo_index.specs.declared.seen.SeenEvent.{SeenEvent}
use Rattle.binlog_undo_index.specs.declared.skips.Skips.{Skips}

-- ---- what is said of the events

-- The event is at this place of a transaction, or outside, and nothing is refused.
abbrev tell : Place → SeenEvent → Told
tell place event = record { event = event; turn = record { cuts = false; place = place; refusal = None } }

-- A transaction behind its BEGIN.
abbrev open_with : Bool → Bool → Transaction
open_with fresh undone = record { ending = ByCommit; is_fresh = fresh; has_undone_rows = undone }

-- The events from one with this mark on.
abbrev told_from : Option Transaction → SeenEvent → List SeenEvent → Mark → List Told
told_from current event more mark = record { event = event; turn = (step current mark).0 } ∷ told_events (step current mark).1 more

-- The events of a transaction behind its BEGIN.
abbrev within : List SeenEvent → SeenEvent → List SeenEvent → List Told
within others last more = map (tell Within) others ++ tell Last last ∷ told_events None more

told_row : (fresh undone : Bool) (event : SeenEvent) (mark : Mark) (others : List SeenEvent) (last : SeenEvent) (more : List SeenEvent) → IsOfRows mark
    → ((f u : Bool) → told_events (Some (open_with f u)) (others ++ last ∷ more) ≡ within others last more)
    → told_from (Some (open_with fresh undone)) event (others ++ last ∷ more) mark ≡ within (event ∷ others) last more
told_row fresh undone event marks.TableMap others last more is rest = ap (λ (l : List Told). tell Within event ∷ l) (rest false undone)
told_row fresh undone event (marks.Rows rows) others last more is rest = ap (λ (l : List Told). tell Within event ∷ l) (rest false (undone || rows.is_undone))
told_row fresh undone event mark others last more is rest = absurd is

told_rows : (fresh undone : Bool) (others : List SeenEvent) (last : SeenEvent) (more : List SeenEvent) → AllByRecursion (λ event. IsOfRows event.mark) others
    → last.mark ≡ marks.Xid → told_events (Some (open_with fresh undone)) (others ++ last ∷ more) ≡ within others last more
told_rows fresh undone [] last more rows ends = ap (told_from (Some (open_with fresh undone)) last more) ends
told_rows fresh undone (event ∷ others) last more rows ends =
    told_row fresh undone event event.mark others last more rows.0 (λ f u. told_rows f u others last more rows.1 ends)

-- ---- the groups

abbrev begun_by : RowTransaction → List Told
begun_by transaction = tell First transaction.first ∷ map (tell Within) transaction.others

abbrev group_of : RowTransaction → Group
group_of transaction = whole (begun_by transaction) (tell Last transaction.last)

one_group : (begun : List Told) (others : List SeenEvent) (last : SeenEvent) (rest : List Told)
    → groups_in begun (map (tell Within) others ++ tell Last last ∷ rest) ≡ whole (begun ++ map (tell Within) others) (tell Last last) ∷ groups_in [] rest
one_group begun [] last rest = ap (λ (l : List Told). whole l (tell Last last) ∷ groups_in [] rest) (sym (append-nil begun))
one_group begun (event ∷ others) last rest =
    one_group (begun ++ tell Within event ∷ []) others last rest
    ∙ ap (λ (l : List Told). whole l (tell Last last) ∷ groups_in [] rest) (append_assoc begun (tell Within event ∷ []) (map (tell Within) others))

module _ (rules : Rules) where
  transaction_group : (transaction : RowTransaction) (more : List SeenEvent) → IsRowTransaction rules.positions transaction
      → groups_in [] (told_events None (events_of transaction ++ more)) ≡ group_of transaction ∷ groups_in [] (told_events None more)
  transaction_group transaction more h =
      ap (λ (l : List SeenEvent). groups_in [] (told_events None (transaction.first ∷ l))) (append_assoc transaction.others (transaction.last ∷ []) more)
      ∙ ap (λ (m : Mark). groups_in [] (told_from None transaction.first (transaction.others ++ transaction.last ∷ more) m)) h.begins
      ∙ ap (λ (l : List Told). groups_in (tell First transaction.first ∷ []) l) (told_rows false false transaction.others transaction.last more h.rows h.ends)
      ∙ one_group (tell First transaction.first ∷ []) transaction.others transaction.last (told_events None more)

  transaction_groups : (transactions : List RowTransaction) (more : List SeenEvent) → AllByRecursion (IsRowTransaction rules.positions) transactions
      → groups_in [] (told_events None (flat_map events_of transactions ++ more)) ≡ map group_of transactions ++ groups_in [] (told_events None more)
  transaction_groups [] more h = refl
  transaction_groups (transaction ∷ transactions) more h =
      ap (λ (l : List SeenEvent). groups_in [] (told_events None l)) (append_assoc (events_of transaction) (flat_map events_of transactions) more)
      ∙ transaction_group transaction (flat_map events_of transactions ++ more) h.0
      ∙ ap (λ (g : List Group). group_of transaction ∷ g) (transaction_groups transactions more h.1)

  all_groups : (first last : SeenEvent) (transactions : List RowTransaction) → IsBorder first → IsBorder last → AllByRecursion (IsRowTransaction rules.positions) transactions
      → row_groups first transactions last ≡ outside (tell Outside first) ∷ map group_of transactions ++ outside (tell Outside last) ∷ []
  all_groups first last transactions begins ends h =
      ap (λ (m : Mark). groups_in [] (told_from None first (flat_map events_of transactions ++ last ∷ []) m)) begins.is
      ∙ ap (λ (g : List Group). outside (tell Outside first) ∷ g) (transaction_groups transactions (last ∷ []) h
      ∙ ap (λ (m : Mark). map group_of transactions ++ groups_in [] (told_from None last [] m)) ends.is)

  -- ---- what is kept of one

  -- All events of a transaction.
  abbrev all_told : RowTransaction → List Told
  all_told transaction = begun_by transaction ++ tell Last transaction.last ∷ []

  none_counted : (others : List SeenEvent) (last : SeenEvent) → AllByRecursion (λ event. event.refusal ≡ None) (others ++ last ∷ [])
      → counted_in rules.skips None (map (tell Within) others ++ tell Last last ∷ []) ≡ None
  none_counted [] last h = ap (λ r. counted_if rules.skips last r None) h.0
  none_counted (event ∷ others) last h =
      ap (λ r. counted_in rules.skips (counted_if rules.skips event r None) (map (tell Within) others ++ tell Last last ∷ [])) h.0 ∙ none_counted others last h.1

  same_changes : (others : List SeenEvent) (last : SeenEvent)
      → changes_in (map (tell Within) others ++ tell Last last ∷ []) ≡ flat_map changes_of_event (others ++ last ∷ [])
  same_changes [] last = refl
  same_changes (event ∷ others) last = ap (λ (c : List ChangePlace). change_list event.change ++ c) (same_changes others last)

  abbrev begun_as : RowTransaction → ℕ → Option Refused → Begun
  begun_as transaction end refused = record (open_at transaction.first) { end = end; refused = refused }

  is_open : (transaction : RowTransaction) → IsRowTransaction rules.positions transaction
      → open_of rules.skips (all_told transaction) ≡ Some (begun_as transaction transaction.last.end None)
  is_open transaction h =
      let rest : List Told = map (tell Within) transaction.others ++ tell Last transaction.last ∷ [] in
      let counted : counted_in rules.skips None (all_told transaction) ≡ None =
      ap (λ r. counted_in rules.skips (counted_if rules.skips transaction.first r None) rest) h.accepted.0 ∙ none_counted transaction.others transaction.last h.accepted.1 in
      ap (λ (r : Option Refused). Some (begun_as transaction (end_of transaction.first.end rest) r)) counted
      ∙ ap (λ (n : ℕ). Some (begun_as transaction n None)) (end_more transaction.first.end (map (tell Within) transaction.others) (tell Last transaction.last))

  kept_when : (split first last : Bool) (begun : Begun) (place : ℕ) (changes : List ChangePlace) → split ≡ false → first ≡ true → last ≡ true
      → kept_beside (split_if split begun) (kept_if (first && last) place changes None) ≡ kept_if_any place changes
  kept_when true first last begun place changes apart takes also = absurd cc
  kept_when false false last begun place changes apart takes also = absurd cc
  kept_when false true false begun place changes apart takes also = absurd cc
  kept_when false true true begun place [] apart takes also = refl
  kept_when false true true begun place (change ∷ changes) apart takes also = refl

  refused_when : (split taken : Bool) (begun : Begun) → split ≡ false → refused_over (split_if split begun) (list_if taken (option_list None)) ≡ []
  refused_when true taken begun apart = absurd cc
  refused_when false true begun apart = refl
  refused_when false false begun apart = refl

  kept_one : (transaction : RowTransaction) → IsRowTransaction rules.positions transaction → kept_of rules (group_of transaction) ≡ kept_rows transaction
  kept_one transaction h =
      let last : SeenEvent = transaction.last in
      ap (λ (b : Option Begun). kept_as rules last (changes_in (all_told transaction)) b) (is_open transaction h)
      ∙ kept_when (splits rules.positions transaction.first.place last.end) transaction.first.takes_first last.takes_last (begun_as transaction last.end None) last.place
      (changes_in (all_told transaction)) h.unsplit h.takes_first h.takes_last
      ∙ ap (λ (c : List ChangePlace). kept_if_any last.place (change_list transaction.first.change ++ c)) (same_changes transaction.others last)

  refused_one : (transaction : RowTransaction) → IsRowTransaction rules.positions transaction → refused_of rules (group_of transaction) ≡ []
  refused_one transaction h =
      ap (λ (b : Option Begun). refused_as rules transaction.last b) (is_open transaction h)
      ∙ refused_when (splits rules.positions transaction.first.place transaction.last.end) (transaction.first.takes_first && transaction.last.takes_last)
      (begun_as transaction transaction.last.end None) h.unsplit

  none_refused : (takes : Bool) (event : SeenEvent) → event.refusal ≡ None → list_if takes (refused_if rules.skips event None ++ refused_if rules.skips event event.refusal) ≡ []
  none_refused true event h = ap (refused_if rules.skips event) h
  none_refused false event h = refl

  -- ---- of all

  kept_all : (transactions : List RowTransaction) (more : List Group) → AllByRecursion (IsRowTransaction rules.positions) transactions → kept_in rules more ≡ []
      → kept_in rules (map group_of transactions ++ more) ≡ flat_map kept_rows transactions
  kept_all [] more h none = none
  kept_all (transaction ∷ transactions) more h none =
      ap (λ (k : List Kept). k ++ kept_in rules (map group_of transactions ++ more)) (kept_one transaction h.0)
      ∙ ap (λ (k : List Kept). kept_rows transaction ++ k) (kept_all transactions more h.1 none)

  refused_all : (transactions : List RowTransaction) (more : List Group) → AllByRecursion (IsRowTransaction rules.positions) transactions → refused_in rules more ≡ []
      → refused_in rules (map group_of transactions ++ more) ≡ []
  refused_all [] more h none = none
  refused_all (transaction ∷ transactions) more h none =
      ap (λ (r : List Refused). r ++ refused_in rules (map group_of transactions ++ more)) (refused_one transaction h.0) ∙ refused_all transactions more h.1 none

  pub rows_are_kept : (first last : SeenEvent) (transactions : List RowTransaction) → IsBorder first → IsBorder last → AllByRecursion (IsRowTransaction rules.positions) transactions
      → (kept_in rules (row_groups first transactions last) ≡ flat_map kept_rows transactions) × (refused_in rules (row_groups first transactions last) ≡ [])
  rows_are_kept first last transactions begins ends h =
      let groups = all_groups first last transactions begins ends h in
      let behind : List Group = outside (tell Outside last) ∷ [] in (
        ap (kept_in rules) groups ∙ kept_all transactions behind h refl,
        ap (refused_in rules) groups
            ∙ ap (λ (r : List Refused). r ++ refused_in rules (map group_of transactions ++ behind)) (none_refused first.takes_first first begins.accepted)
            ∙ refused_all transactions behind h (ap (λ (r : List Refused). r ++ []) (none_refused last.takes_first last ends.accepted)),
      )
