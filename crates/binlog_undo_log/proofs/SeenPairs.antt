-- The first pass sees a table map and rows, with their places.
use Rattle.std.proofs.Common.{◌≡◌, ℕ, ◌+◌, ◌-◌, ◌<◌, ◌^◌, Bool, true, false, List, [], ◌∷◌, ◌++◌, length, map, Option, Some, None, Ok, refl, sym, ap, subst, ◌∙◌}
use Rattle.std.specs.Prelude.{◌||◌, ◌==◌, is_some}
use Rattle.std.specs.BTreeMap.{get, insert_entry, is_at}
use Rattle.std.specs.List.{AllByRecursion, flat_map}
use Rattle.std.specs.Map.{lookup}
use Rattle.std.specs.Ordering.{nat_cmp}
use Rattle.std.proofs.lemmas.Grind.{flat_map-append}
use Rattle.binlog_columns.specs.Refusals.{columns_in}
use Rattle.binlog_consts.specs.EventTypes.{event_number}
use Rattle.binlog_consts.specs.declared.event_type.EventType.TheVariants.{TABLE_MAP_EVENT}
use Rattle.binlog_event_data.specs.declared.event_data.EventData.TheVariants as mysql
use Rattle.binlog_event_format.specs.Headers.{header_of}
use Rattle.binlog_event_format.specs.PostHeaders.{post_header}
use Rattle.binlog_event_format.specs.declared.format_description.FormatDescriptionEvent.{FormatDescriptionEvent}
use Rattle.binlog_events.specs.Events.{EventView}
use Rattle.binlog_events.specs.Parts.{data_of}
use Rattle.binlog_file.specs.TableMapsInForce.{TableMaps}
use Rattle.binlog_file.specs.declared.log_data.LogEventData.TheVariants.{Mysql}
use Rattle.binlog_filters.specs.Taking.{begins_transaction}
use Rattle.binlog_rows.specs.RowsData.{event_in}
use Rattle.binlog_rows.specs.TableMaps.{table_map}
use Rattle.binlog_rows.specs.declared.rows_event_data.RowsEventData.{RowsEventData}
use Rattle.binlog_rows.specs.declared.rows_event_data.RowsEventData.TheVariants as types
use Rattle.binlog_rows.specs.declared.table_map_event.TableMapEvent.{TableMapEvent}
use Rattle.binlog_transactions.specs.DataMarks.{rows_mark}
use Rattle.binlog_transactions.specs.Pieces.{step}
use Rattle.binlog_transactions.specs.declared.mark.Mark.TheVariants as marks
use Rattle.binlog_transactions.specs.declared.role.Role.TheVariants as roles
use Rattle.binlog_transactions.specs.declared.transaction.Ending.TheVariants.{ByCommit}
use Rattle.binlog_transactions.specs.declared.transaction.Transaction.{Transaction}
use Rattle.binlog_undo.specs.InverseEvents.{type_of}
use Rattle.binlog_undo_index.specs.Groups.{change_list}
use Rattle.binlog_undo_index.specs.Parts.{Parts, parts_of, noted}
use Rattle.binlog_undo_index.specs.RowTransactions.{IsOfRows, changes_of_event}
use Rattle.binlog_undo_index.specs.declared.places.ChangePlace.{ChangePlace}
use Rattle.binlog_undo_index.specs.declared.seen.SeenEvent.{SeenEvent}
use Rattle.binlog_undo_log.proofs.OneRead.{one_change, no_changes}
use Rattle.binlog_undo_log.proofs.Scanned.{AreTold, told_over}
use Rattle.binlog_undo_log.proofs.SeenRows.{found_inserted, maps_stay, map_in_force, rows_undone}
use Rattle.binlog_undo_log.proofs.ReadLogs.{map_read, rows_read}
use Rattle.binlog_undo_log.proofs.SeenWritten.{seen_as_written}
use Rattle.binlog_undo_log.proofs.WrittenTransactions.{WrittenPair, events_of, changes_of, IsPair}
use Rattle.binlog_undo_log.specs.Heads.{is_writable}
use Rattle.binlog_undo_log.specs.Keys.{IsMariaEvent}
use Rattle.binlog_undo_log.specs.LogChanges.{LogChange, name_of}
use Rattle.binlog_undo_log.specs.Looking.{IsUnknownTemporal, LooksByPlace, LooksWithoutBytes, LooksIfAny, left_if_undone, id_of}
use Rattle.binlog_undo_log.specs.Scanning.{is_undone, change_in, refusal_in, seen_mark, seen_event, seen_as}
use Rattle.binlog_undo_log.specs.UndoneTwice.{TakesAll}
use Rattle.binlog_undo_log.specs.declared.choice.Choice.{Choice}
use Rattle.binlog_undo_log.specs.declared.scan.seeing.RowsLook.{RowsLook}
use Rattle.binlog_undo_log.specs.declared.scan.seeing.RowsLook.TheVariants.{Left, Undone}
use Rattle.binlog_undo_log.specs.declared.scan.UndoScan.{UndoScan}
use Rattle.binlog_undo.specs.Transactions.{Event}
use Rattle.binlog_visits.specs.TableMaps.{maps_behind}
use Rattle.binlog_wire.specs.Reading.{Read}
use Rattle.binlog_undo_log.proofs.KeptChanges.{AreOnly, only_one, only_both}
use Rattle.binlog_undo_log.proofs.SeenEvents.{IsTold, IsInFront, Steps, one_step, marked}

-- The form of the values of columns is known by the description of their event.
known_under : (plain : Bool) (event other : EventView) (types : List ℕ) (unknown : Bool) → event.fde ≡ other.fde → IsUnknownTemporal plain event types unknown
    → IsUnknownTemporal plain other types unknown
known_under true event other types unknown same h = h
known_under false event other types unknown same h =
    (h.0, subst (λ (x : FormatDescriptionEvent). IsMariaEvent (record { fde = x; frame = other.frame }) h.0) same h.1, h.2)

pub all_over : {A : Type 0} (P : A → Type 0) (xs ys : List A) → AllByRecursion P xs → AllByRecursion P ys → AllByRecursion P (xs ++ ys)
all_over P [] ys h k = k
all_over P (x ∷ xs) ys h k = (h.0, all_over P xs ys h.1 k)

abbrev pub open_with : Bool → Bool → Transaction
open_with fresh undone = record { ending = ByCommit; is_fresh = fresh; has_undone_rows = undone }

rows_plain : (rows : RowsEventData) → (begins_transaction (event_number (type_of rows)) ≡ false) × ((event_number (type_of rows) == 40) ≡ false)
    × ((event_number (type_of rows) == 15) ≡ false) × ((event_number (type_of rows) == 4) ≡ false) × ((event_number (type_of rows) == 19) ≡ false)
rows_plain (types.WriteRowsEventV1 x) = (refl, refl, refl, refl, refl)
rows_plain (types.UpdateRowsEventV1 x) = (refl, refl, refl, refl, refl)
rows_plain (types.DeleteRowsEventV1 x) = (refl, refl, refl, refl, refl)
rows_plain (types.WriteRowsEvent x) = (refl, refl, refl, refl, refl)
rows_plain (types.UpdateRowsEvent x) = (refl, refl, refl, refl, refl)
rows_plain (types.DeleteRowsEvent x) = (refl, refl, refl, refl, refl)
rows_plain (types.PartialUpdateRowsEvent x) = (refl, refl, refl, refl, refl)

module _ (choice : Choice) (d : FormatDescriptionEvent) (bytes : List ℕ) (last : UndoScan) where
  -- Table maps and rows are seen, with the places of these changes alone, and these events are left.
  pub record SeesRows (own : List LogChange) (others : List Event) (old : UndoScan) : Type 0 where
    pub maps : TableMaps
    pub index : ℕ
    pub mid : UndoScan
    pub in_front : IsInFront choice d bytes last maps index others mid
    pub seen : List SeenEvent
    pub told : AreTold old.index seen mid.index
    pub rows : AllByRecursion (λ (event : SeenEvent). IsOfRows event.mark) seen
    pub accepted : AllByRecursion (λ (event : SeenEvent). event.refusal ≡ None) seen
    pub fresh : Bool
    pub undone : Bool
    pub is_open : mid.index.automaton.current ≡ Some (open_with fresh undone)
    pub only : AreOnly bytes d (flat_map changes_of_event seen) own

module _ (choice : Choice) (all : TakesAll choice) (d : FormatDescriptionEvent) (writable : is_writable d ≡ true) (bytes : List ℕ) (small : length bytes < 2 ^ 64) (last : UndoScan) where
  -- Of a pair of a table map and rows, of which the table map is seen already.
  module _ (pair : WrittenPair) (p : IsPair d pair) (maps : TableMaps) (index : ℕ) (others : List Event) (old : UndoScan)
      (s : Steps choice d bytes last maps index pair.map_event (pair.rows_event ∷ others) old) (fresh undone : Bool) (is_open : old.index.automaton.current ≡ Some (open_with fresh undone)) where
    abbrev map_seen : SeenEvent
    map_seen = seen_event old index s.view marks.TableMap (Some p.map.table.id) Left

    map_told : IsTold index s.view map_seen old s.mid
    map_told =
        marked choice all d bytes small last marks.TableMap (Some p.map.table.id) Left maps index pair.map_event (pair.rows_event ∷ others) old s
        ((seen_as_written old (maps_behind maps (Ok s.view)) index d pair.map_event s.view s.seen.seen writable s.there.is s.seen.sees).map p.map p.map_type p.map_read) (λ n. n)

    map_number : (header_of s.view.frame).event_type ≡ 19
    map_number = s.there.is.event_type ∙ ap event_number p.map_type

    still_open : s.mid.index.automaton.current ≡ Some (open_with false undone)
    still_open = map_told.notes.automaton ∙ ap (λ (c : Option Transaction). (step c marks.TableMap).1) is_open

    place_noted : get nat_cmp s.mid.index.maps p.map.table.id ≡ Some old.place
    place_noted =
        let maps_are : (parts_of s.mid.index).maps ≡ insert_entry nat_cmp (parts_of old.index).maps p.map.table.id old.place =
        ap (λ (x : Parts). x.maps) map_told.notes.parts
        ∙ ap (λ (c : Option Transaction). (noted map_seen (step c marks.TableMap).0 (parts_of old.index)).maps) is_open in
        ap (lookup (is_at (nat_cmp p.map.table.id))) maps_are ∙ found_inserted (parts_of old.index).maps p.map.table.id old.place

    map_noted : maps_behind maps (Ok s.view) p.map.table.id ≡ Some p.map
    map_noted =
        let reads : FormatDescriptionEvent → List ℕ → Read TableMapEvent = λ x content. (table_map (post_header x TABLE_MAP_EVENT)).reads content in
        map_in_force maps s.view p.map (ap (λ (n : ℕ). n == 4) map_number) (ap (λ (n : ℕ). n == 19) map_number) s.there.whole.long
        (ap (λ (x : FormatDescriptionEvent). reads x (data_of x.footer s.view.frame)) s.there.is.fde ∙ ap (reads d) s.there.is.body ∙ p.map_read)

    -- The rows behind it.
    module _ (t : Steps choice d bytes last (maps_behind maps (Ok s.view)) (index + 1) pair.rows_event others s.mid) where
      abbrev place : ChangePlace
      place = record { table_map = old.place; rows = s.mid.place }

      abbrev rows_seen : RowsLook → SeenEvent
      rows_seen look = seen_event s.mid (index + 1) t.view (rows_mark (is_undone look) (event_in p.rows).head.flags) None look

      in_force : maps_behind (maps_behind maps (Ok s.view)) (Ok t.view) (id_of p.rows) ≡ Some p.map
      in_force =
          let number : (header_of t.view.frame).event_type ≡ event_number (type_of p.rows) = t.there.is.event_type ∙ ap event_number p.rows_type in
          ap (λ (m : TableMaps). m (id_of p.rows))
          (maps_stay (maps_behind maps (Ok s.view)) t.view (ap (λ (n : ℕ). n == 4) number ∙ (rows_plain p.rows).3) (ap (λ (n : ℕ). n == 19) number ∙ (rows_plain p.rows).4))
          ∙ ap (maps_behind maps (Ok s.view)) (sym p.same) ∙ map_noted

      times_known : (unknown : Bool) → IsUnknownTemporal choice.has_plain_temporal t.view p.map.columns.types unknown → unknown ≡ false
      times_known unknown h =
          s.can.times p.map unknown (map_read d pair.map_event s.view p.map s.there.is p.map_type p.map_read)
          (known_under choice.has_plain_temporal t.view s.view p.map.columns.types unknown (t.there.is.fde ∙ sym s.there.is.fde) h)

      undone_look : (look : RowsLook) → LooksByPlace (get nat_cmp s.mid.index.maps (id_of p.rows)) s.mid (maps_behind (maps_behind maps (Ok s.view)) (Ok t.view)) t.view p.rows look
          → look ≡ Undone place
      undone_look look h =
          let read = rows_read d pair.rows_event t.view p.rows t.there.is p.rows_type p.rows_read in
          rows_undone s.mid (maps_behind (maps_behind maps (Ok s.view)) (Ok t.view)) t.view p.rows p.map old.place look
          (subst (λ (c : Choice). TakesAll c) (sym t.passing.choice_is) all) (ap is_some t.passing.described) (ap is_writable t.there.is.fde ∙ writable)
          (ap (get nat_cmp s.mid.index.maps) (sym p.same) ∙ place_noted) in_force p.columns
          (λ unknown u. times_known unknown (subst (λ (c : Choice). IsUnknownTemporal c.has_plain_temporal t.view p.map.columns.types unknown) t.passing.choice_is u))
          (λ is_maria_log answer gives. p.accepted (t.can.images p.rows read) is_maria_log s.mid.checks answer gives) (t.can.lengths p.rows read) h

      -- Without bytes there are none.
      left_look : (look : RowsLook) → LooksIfAny [] s.mid (maps_behind (maps_behind maps (Ok s.view)) (Ok t.view)) t.view p.rows look → look ≡ Left
      left_look look h =
          let at : get nat_cmp s.mid.index.maps (id_of p.rows) ≡ Some old.place = ap (get nat_cmp s.mid.index.maps) (sym p.same) ∙ place_noted in
          let placed : LooksWithoutBytes (Some old.place) s.mid (maps_behind (maps_behind maps (Ok s.view)) (Ok t.view)) t.view p.rows look =
          subst (λ (q : Option ℕ). LooksWithoutBytes q s.mid (maps_behind (maps_behind maps (Ok s.view)) (Ok t.view)) t.view p.rows look) at h in
          placed.2 ∙ ap left_if_undone
          (undone_look placed.0 (subst (λ (q : Option ℕ). LooksByPlace q s.mid (maps_behind (maps_behind maps (Ok s.view)) (Ok t.view)) t.view p.rows placed.0) (sym at) placed.1))

      -- The rows are seen so.
      finished : (look : RowsLook) → t.seen.seen ≡ Some (rows_seen look) → refusal_in look ≡ None → AreOnly bytes d (change_list (change_in look) ++ []) pair.changes
          → SeesRows choice d bytes last pair.changes others old
      finished look is accepted only =
          let told : IsTold (index + 1) t.view (rows_seen look) s.mid t.mid =
          marked choice all d bytes small last (rows_mark (is_undone look) (event_in p.rows).head.flags) None look (maps_behind maps (Ok s.view)) (index + 1) pair.rows_event others s.mid t is (λ n. n) in
          record {
            maps = maps_behind (maps_behind maps (Ok s.view)) (Ok t.view);
            index = index + 1 + 1;
            mid = t.mid;
            in_front = t.goes_on told.is;
            seen = map_seen ∷ rows_seen look ∷ [];
            told = (s.mid.index, map_told.notes, (t.mid.index, told.notes, refl));
            rows = (tt, (tt, tt));
            accepted = (refl, (accepted, tt));
            fresh = false;
            undone = undone || is_undone look;
            is_open = told.notes.automaton ∙ ap (λ (c : Option Transaction). (step c (rows_mark (is_undone look) (event_in p.rows).head.flags)).1) still_open;
            only = only;
          }

      pair_by : (content : List ℕ) (look : RowsLook) → (event_in p.rows).rows ≡ content
          → LooksIfAny content s.mid (maps_behind (maps_behind maps (Ok s.view)) (Ok t.view)) t.view p.rows look
          → t.seen.seen ≡ seen_as s.mid (index + 1) t.view (seen_mark roles.Rows (Mysql (mysql.RowsEvent p.rows)) look) None look → SeesRows choice d bytes last pair.changes others old
      pair_by [] look none h is =
          finished Left (is ∙ ap (λ (l : RowsLook). seen_as s.mid (index + 1) t.view (seen_mark roles.Rows (Mysql (mysql.RowsEvent p.rows)) l) None l) (left_look look h)) refl
          (λ found f. f ∙ sym (no_changes (name_of p.map) (columns_in p.map.columns.types p.map.columns.metadata) p.rows pair.changes none p.are))
      pair_by (byte ∷ content) look some h is =
          finished (Undone place) (is ∙ ap (λ (l : RowsLook). seen_as s.mid (index + 1) t.view (seen_mark roles.Rows (Mysql (mysql.RowsEvent p.rows)) l) None l) (undone_look look h)) refl
          (only_one bytes d place pair.changes (λ found c. one_change bytes d pair p old.place s.mid.place s.view t.view s.there t.there found c))

      pair_seen : SeesRows choice d bytes last pair.changes others old
      pair_seen =
          let looks = (seen_as_written s.mid (maps_behind (maps_behind maps (Ok s.view)) (Ok t.view)) (index + 1) d pair.rows_event t.view t.seen.seen writable t.there.is t.seen.sees).rows
          p.rows p.rows_type p.rows_read in
          pair_by (event_in p.rows).rows looks.0 refl looks.1 looks.2

  one_pair : (pair : WrittenPair) (p : IsPair d pair) (maps : TableMaps) (index : ℕ) (others : List Event) (old : UndoScan) (fresh undone : Bool)
      → old.index.automaton.current ≡ Some (open_with fresh undone) → IsInFront choice d bytes last maps index (pair.map_event ∷ pair.rows_event ∷ others) old → SeesRows choice d bytes last pair.changes others old
  one_pair pair p maps index others old fresh undone is_open h =
      let s : Steps choice d bytes last maps index pair.map_event (pair.rows_event ∷ others) old =
      one_step choice all d bytes small last maps index TABLE_MAP_EVENT pair.map_event (pair.rows_event ∷ others) old h p.map_type refl refl refl in
      let plain = rows_plain p.rows in
      let t : Steps choice d bytes last (maps_behind maps (Ok s.view)) (index + 1) pair.rows_event others s.mid =
      one_step choice all d bytes small last (maps_behind maps (Ok s.view)) (index + 1) (type_of p.rows) pair.rows_event others s.mid
      (s.goes_on (map_told pair p maps index others old s fresh undone is_open).is) p.rows_type plain.0 plain.1 plain.2 in
      pair_seen pair p maps index others old s fresh undone is_open t

  pub all_pairs : (pairs : List WrittenPair) → AllByRecursion (IsPair d) pairs → (maps : TableMaps) (index : ℕ) (others : List Event) (old : UndoScan) (fresh undone : Bool)
      → old.index.automaton.current ≡ Some (open_with fresh undone) → IsInFront choice d bytes last maps index (flat_map events_of pairs ++ others) old
      → SeesRows choice d bytes last (flat_map changes_of pairs) others old
  all_pairs [] each maps index others old fresh undone is_open h = record {
    maps = maps;
    index = index;
    mid = old;
    in_front = h;
    seen = [];
    told = refl;
    rows = tt;
    accepted = tt;
    fresh = fresh;
    undone = undone;
    is_open = is_open;
    only = λ found f. f;
  }
  all_pairs (pair ∷ pairs) each maps index others old fresh undone is_open h =
      let first : SeesRows choice d bytes last pair.changes (flat_map events_of pairs ++ others) old = one_pair pair each.0 maps index (flat_map events_of pairs ++ others) old fresh undone is_open h in
      let rest = all_pairs pairs each.1 first.maps first.index others first.mid first.fresh first.undone first.is_open first.in_front in
      record {
        maps = rest.maps;
        index = rest.index;
        mid = rest.mid;
        in_front = rest.in_front;
        seen = first.seen ++ rest.seen;
        told = told_over first.seen rest.seen old.index first.mid.index rest.mid.index first.told rest.told;
        rows = all_over (λ (event : SeenEvent). IsOfRows event.mark) first.seen rest.seen first.rows rest.rows;
        accepted = all_over (λ (event : SeenEvent). event.refusal ≡ None) first.seen rest.seen first.accepted rest.accepted;
        fresh = rest.fresh;
        undone = rest.undone;
        is_open = rest.is_open;
        only = only_both bytes d first.seen rest.seen pair.changes (flat_map changes_of pairs) first.only rest.only;
      }
