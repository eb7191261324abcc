-- What the first pass sees of rows that can be undone: their places.
use Rattle.std.proofs.Common.{◌≡◌, ℕ, Bool, true, false, cond, List, [], ◌∷◌, Option, Some, None, Result, Ok, Err, refl, sym, ap, subst, ◌∙◌, inl, inr, arith}
use Rattle.std.specs.Prelude.{◌&&◌, not, ◌==◌, is_some, nat_lt, IsOkUnless}
use Rattle.std.specs.BTreeMap.{get, insert_entry, is_at}
use Rattle.std.specs.Map.{lookup}
use Rattle.std.specs.Ordering.{nat_cmp, match_ordering, is_eq}
use Rattle.std.specs.declared.cmp.Ordering.{Ordering}
use Rattle.std.specs.declared.cmp.Ordering.TheVariants.{Less, Equal, Greater}
use Rattle.std.proofs.lemmas.Bool.{eq-eqb, le-ltb}
use Rattle.binlog_columns.specs.Metadata.{Typed}
use Rattle.binlog_columns.specs.Refusals.{refusal, columns_in}
use Rattle.binlog_columns.specs.declared.column_error.ColumnError.{ColumnError}
use Rattle.binlog_consts.specs.declared.event_type.EventType.{EventType}
use Rattle.binlog_consts.specs.declared.event_type.EventType.TheVariants.{TABLE_MAP_EVENT}
use Rattle.binlog_event_format.specs.PostHeaders.{post_header}
use Rattle.binlog_event_format.specs.declared.format_description.FormatDescriptionEvent.{FormatDescriptionEvent}
use Rattle.binlog_events.specs.Events.{EventView}
use Rattle.binlog_events.specs.Parts.{is_rotate, is_table_map, is_too_short, data_of}
use Rattle.binlog_file.specs.TableMapsInForce.{TableMaps, no_table_maps, with_table_map, read_rotate, read_table_map, value_read, is_real, accepted_table_map, with_accepted}
use Rattle.binlog_filters.specs.declared.tables.TableFilter.{TableFilter}
use Rattle.binlog_rows.specs.TableMaps.{table_map}
use Rattle.binlog_rows.specs.declared.rows_event_data.RowsEventData.{RowsEventData}
use Rattle.binlog_rows.specs.declared.table_map_event.TableMapEvent.{TableMapEvent}
use Rattle.binlog_undo.proofs.InverseEvents.{type_is}
use Rattle.binlog_undo.specs.InverseEvents.{inverse_type, type_of}
use Rattle.binlog_undo.specs.declared.inverse_event.ForeignKeyChecks.{ForeignKeyChecks}
use Rattle.binlog_undo.specs.declared.inverse_event.InverseEvent.{InverseEvent}
use Rattle.binlog_undo.specs.declared.undo_error.UndoError.{UndoError}
use Rattle.binlog_undo.specs.declared.undo_error.UndoError.TheVariants as errors
use Rattle.binlog_undo_index.specs.declared.places.ChangePlace.{ChangePlace}
use Rattle.binlog_undo_log.proofs.Keys.{some_checked, refused_alike}
use Rattle.binlog_undo_log.specs.Heads.{is_writable, has_rows_length}
use Rattle.binlog_undo_log.specs.Keys.{GivesByKey, ChecksByKey}
use Rattle.binlog_undo_log.specs.Looking.{NamesTable, AsksFor, IsUnknownTemporal, look_if, LooksAs, LooksAtColumns, LooksUnlessOld, LooksUnlessRefused, LooksIfMapped, LooksIfWritable, LooksIfAsked, LooksByPlace, id_of}
use Rattle.binlog_undo_log.specs.UndoneTwice.{TakesAll}
use Rattle.binlog_undo_log.specs.declared.choice.Choice.{Choice}
use Rattle.binlog_undo_log.specs.declared.scan.seeing.RowsLook.{RowsLook}
use Rattle.binlog_undo_log.specs.declared.scan.seeing.RowsLook.TheVariants.{Undone}
use Rattle.binlog_undo_log.specs.declared.scan.UndoScan.{UndoScan}
use Rattle.binlog_visits.specs.TableMaps.{maps_behind}
use Rattle.binlog_wire.specs.Reading.{Read}

-- ---- table maps

otherwise : {A : Type 0} (b : Bool) (x y : A) → b ≡ false → cond b x y ≡ y
otherwise true x y is = absurd cc
otherwise false x y is = refl

instead : {A : Type 0} (b : Bool) (x y : A) → b ≡ true → cond b x y ≡ x
instead true x y is = refl
instead false x y is = absurd cc

same_number : (n : ℕ) → nat_cmp n n ≡ Equal
same_number n =
    otherwise (nat_lt n n) Less (cond (n == n) Equal Greater) (le-ltb n n (omega arith)) ∙ instead (n == n) Equal Greater (eq-eqb n n refl)

inserted_by : (entry : ℕ × ℕ) (entries : List (ℕ × ℕ)) (id place : ℕ) (order : Ordering) → nat_cmp id entry.0 ≡ order
    → lookup (is_at (nat_cmp id)) (insert_entry nat_cmp entries id place) ≡ Some place
    → lookup (is_at (nat_cmp id)) (match_ordering order ((id, place) ∷ entry ∷ entries) ((entry.0, place) ∷ entries) (entry ∷ insert_entry nat_cmp entries id place)) ≡ Some place
inserted_by entry entries id place Less is rest = instead (is_eq (nat_cmp id id)) (Some place) (lookup (is_at (nat_cmp id)) (entry ∷ entries)) (ap is_eq (same_number id))
inserted_by entry entries id place Equal is rest = instead (is_eq (nat_cmp id entry.0)) (Some place) (lookup (is_at (nat_cmp id)) entries) (ap is_eq is)
inserted_by entry entries id place Greater is rest =
    otherwise (is_eq (nat_cmp id entry.0)) (Some entry.1) (lookup (is_at (nat_cmp id)) (insert_entry nat_cmp entries id place)) (ap is_eq is) ∙ rest

-- The place of the map that was noted last is found.
pub found_inserted : (entries : List (ℕ × ℕ)) (id place : ℕ) → lookup (is_at (nat_cmp id)) (insert_entry nat_cmp entries id place) ≡ Some place
found_inserted [] id place = instead (is_eq (nat_cmp id id)) (Some place) None (ap is_eq (same_number id))
found_inserted (entry ∷ entries) id place = inserted_by entry entries id place (nat_cmp id entry.0) refl (found_inserted entries id place)

-- An event that is no ROTATE and no table map leaves the table maps.
pub maps_stay : (maps : TableMaps) (event : EventView) → is_rotate event.frame ≡ false → is_table_map event.frame ≡ false → maps_behind maps (Ok event) ≡ maps
maps_stay maps event other none =
    ap (λ (r : Bool). cond (r && not (is_too_short event.fde.footer event.frame) && is_real (read_rotate event.fde.footer event.frame)) no_table_maps
    (with_accepted maps (accepted_table_map event.fde event.frame))) other
    ∙ ap (λ (m : Bool). with_accepted maps (cond (m && not (is_too_short event.fde.footer event.frame)) (value_read (read_table_map event.fde event.frame)) None)) none

-- A table map is in force behind its event.
pub map_in_force : (maps : TableMaps) (event : EventView) (map : TableMapEvent) → is_rotate event.frame ≡ false → is_table_map event.frame ≡ true
    → is_too_short event.fde.footer event.frame ≡ false → (table_map (post_header event.fde TABLE_MAP_EVENT)).reads (data_of event.fde.footer event.frame) ≡ Ok (map, [])
    → maps_behind maps (Ok event) map.table.id ≡ Some map
unfolding read_table_map
map_in_force maps event map other is long read =
    ap (λ (r : Bool). cond (r && not (is_too_short event.fde.footer event.frame) && is_real (read_rotate event.fde.footer event.frame)) no_table_maps
    (with_accepted maps (accepted_table_map event.fde event.frame)) map.table.id) other
    ∙ ap (λ (m : Bool). with_accepted maps (cond (m && not (is_too_short event.fde.footer event.frame)) (value_read (read_table_map event.fde event.frame)) None) map.table.id) is
    ∙ ap (λ (s : Bool). with_accepted maps (cond (not s) (value_read (read_table_map event.fde event.frame)) None) map.table.id) long
    ∙ ap (λ (r : Read TableMapEvent). with_accepted maps (value_read r) map.table.id) read
    ∙ instead (map.table.id == map.table.id) (Some map) (maps map.table.id) (eq-eqb map.table.id map.table.id refl)

-- ---- what is seen

names_all : (named_else named : Bool) (filter : Option TableFilter) (maps : TableMaps) (event : EventView) → filter ≡ None → NamesTable named_else filter maps event named → named ≡ named_else
names_all named_else named None maps event none h = h
names_all named_else named (Some filter) maps event none h = absurd cc

asks_all : (choice : Choice) (maps : TableMaps) (event : EventView) (asked : Bool) → TakesAll choice → AsksFor choice maps event asked → asked ≡ true
asks_all choice maps event asked all h =
    let within : h.0 ≡ true = names_all true h.0 choice.tables maps event all.tables h.2 in
    let without : h.1 ≡ false = names_all false h.1 choice.excluded maps event all.excluded h.3 in
    h.4 ∙ ap (λ (b : Bool). b && not h.1) within ∙ ap not without

module _ (scan : UndoScan) (maps : TableMaps) (event : EventView) (rows : RowsEventData) (map : TableMapEvent) (table_map : ℕ) where
  abbrev columns : List Typed
  columns = columns_in map.columns.types map.columns.metadata

  abbrev change : ChangePlace
  change = record { table_map = table_map; rows = scan.place }

  length_is : (maria : Bool) (event_type : EventType) → has_rows_length event.fde (inverse_type rows) ≡ true → ChecksByKey maria map columns rows (Ok event_type)
      → has_rows_length event.fde event_type ≡ true
  length_is maria event_type long given =
      let found = (some_checked maria map columns rows event_type given).1 scan.checks in
      ap (has_rows_length event.fde) (found.2 ∙ ap type_of found.1.is ∙ type_is found.1.undone.completes scan.checks found.1.undone.bytes rows) ∙ long

  answered : (maria : Bool) (answer : Result EventType UndoError) (look : RowsLook) → has_rows_length event.fde (inverse_type rows) ≡ true
      → ChecksByKey maria map columns rows answer
      → ((undone : Result InverseEvent UndoError) → GivesByKey maria map columns scan.checks rows undone → IsOkUnless undone errors.Memory)
      → LooksAs event.fde change answer look → look ≡ Undone change
  answered maria (Ok event_type) look long given ok h = h ∙ ap (λ (b : Bool). look_if b change) (length_is maria event_type long given)
  answered maria (Err errors.Memory) look long given ok h = absurd h
  answered maria (Err error) look long given ok h =
      let is : error ≡ errors.Memory = ok (Err error) (refused_alike maria map columns scan.checks rows error given) in
      absurd (subst (λ (e : UndoError). LooksAs event.fde change (Err e) look) is h)

  -- Their places, if they have bytes: nothing is in the way.
  pub rows_undone : (look : RowsLook) → TakesAll scan.choice → is_some scan.description ≡ true → is_writable event.fde ≡ true
      → get nat_cmp scan.index.maps (id_of rows) ≡ Some table_map → maps (id_of rows) ≡ Some map → refusal 0 map.columns.types map.columns.metadata ≡ None
      → ((unknown : Bool) → IsUnknownTemporal scan.choice.has_plain_temporal event map.columns.types unknown → unknown ≡ false)
      → ((maria : Bool) (answer : Result InverseEvent UndoError) → GivesByKey maria map columns scan.checks rows answer → IsOkUnless answer errors.Memory)
      → has_rows_length event.fde (inverse_type rows) ≡ true → LooksByPlace (get nat_cmp scan.index.maps (id_of rows)) scan maps event rows look → look ≡ Undone change
  rows_undone look all described writable at mapped none times accepted long h =
      let placed : LooksByPlace (Some table_map) scan maps event rows look = subst (λ (p : Option ℕ). LooksByPlace p scan maps event rows look) at h in
      let found : LooksIfMapped (Some map) scan maps event rows table_map look = subst (λ (m : Option TableMapEvent). LooksIfMapped m scan maps event rows table_map look) mapped placed in
      let asked : LooksIfAsked true scan event rows map table_map look =
      subst (λ (b : Bool). LooksIfAsked b scan event rows map table_map look) (asks_all scan.choice maps event found.0 all found.1) found.2 in
      let can : LooksIfWritable true scan event rows map table_map look =
      subst (λ (b : Bool). LooksIfWritable b scan event rows map table_map look) (ap (λ (b : Bool). b && is_writable event.fde) described ∙ writable) asked in
      let unrefused : LooksUnlessRefused None scan event rows map table_map look = subst (λ (e : Option ColumnError). LooksUnlessRefused e scan event rows map table_map look) none can in
      let last : LooksAtColumns scan event rows map columns table_map look =
      subst (λ (b : Bool). LooksUnlessOld b scan event rows map columns table_map look) (times unrefused.0 unrefused.1) unrefused.2 in
      answered last.0 last.2 look long last.3 (accepted last.0) last.4
