-- What is read at a place of a log that is written is what was written there.
use Rattle.std.proofs.Common.{◌≡◌, ℕ, ◌≤◌, Bool, true, false, cond, List, [], ◌∷◌, ◌++◌, length, drop, map, Option, Some, None, Result, Ok, Err, refl, sym, ap, subst, ◌∙◌, append-nil, arith, inl, inr}
use Rattle.std.specs.Prelude.{◌&&◌, not, ◌==◌, nat_le}
use Rattle.std.proofs.lemmas.Bool.{eqb-true, leb-true}
use Rattle.binlog_columns.specs.Metadata.{Typed}
use Rattle.binlog_columns.specs.Refusals.{columns_in}
use Rattle.binlog_consts.specs.declared.event_type.EventType.TheVariants.{TABLE_MAP_EVENT}
use Rattle.binlog_event_data.specs.declared.event_data.EventData.TheVariants as mysql
use Rattle.binlog_event_format.specs.PostHeaders.{post_header}
use Rattle.binlog_event_format.specs.declared.format_description.FormatDescriptionEvent.{FormatDescriptionEvent}
use Rattle.binlog_event_format.specs.Footers.{footer_of}
use Rattle.binlog_events.specs.Events.{EventView, IsEvent, event_at, event_of, is_frame, ReadsEventData}
use Rattle.binlog_events.specs.Frames.{IsFrame, stated_size}
use Rattle.binlog_events.specs.Parts.{is_description, is_too_short, footer_under, body, data_of}
use Rattle.binlog_file.proofs.Splits.{same_frame}
use Rattle.binlog_file.specs.LogData.{ReadsLogData}
use Rattle.binlog_file.specs.declared.log_data.LogEventData.{LogEventData}
use Rattle.binlog_file.specs.declared.log_data.LogEventData.TheVariants.{Mysql, Maria}
use Rattle.binlog_images.proofs.Splits.{one_way}
use Rattle.binlog_images.specs.Cells.{RowCells, RowsShape, shape_as}
use Rattle.binlog_images.specs.EventRows.{is_partial}
use Rattle.binlog_images.specs.Events.{event_shape}
use Rattle.binlog_images.specs.Splits.{AreRows}
use Rattle.binlog_images.specs.declared.rows_error.RowsError.{RowsError}
use Rattle.binlog_mariadb.specs.declared.compressed_rows.RowsCompressedEvent.{RowsCompressedEvent}
use Rattle.binlog_mariadb.specs.declared.event_data.MariaEventData.TheVariants as maria
use Rattle.binlog_rows.specs.RowsData.{event_in}
use Rattle.binlog_rows.specs.TableMaps.{table_map}
use Rattle.binlog_rows.specs.declared.rows_event_data.RowsEventData.{RowsEventData}
use Rattle.binlog_rows.specs.declared.table_map_event.TableMapEvent.{TableMapEvent}
use Rattle.binlog_undo.specs.EventChanges.{HasChanges}
use Rattle.binlog_undo.specs.RowChanges.{row_changes}
use Rattle.binlog_undo_index.specs.declared.places.ChangePlace.{ChangePlace}
use Rattle.binlog_undo_log.proofs.ReadMaps.{event_is, map_is_read}
use Rattle.binlog_undo_log.proofs.SeenWritten.{rows_are_read}
use Rattle.binlog_undo_log.proofs.WrittenTransactions.{WrittenPair, IsPair}
use Rattle.binlog_undo_log.specs.Compressed.{IsReadAsRows, ReadsRows}
use Rattle.binlog_undo_log.specs.LogChanges.{LogChange, TableName, HasTableChanges, IsChanged, AreChanged, name_of}
use Rattle.binlog_undo_log.specs.Places.{IsFrameIn}
use Rattle.binlog_undo_log.specs.Undoing.{IsEventAt}
use Rattle.binlog_undo_log.specs.WholeLogs.{IsReadAs}
use Rattle.binlog_undo.specs.Transactions.{Event}
use Rattle.binlog_wire.specs.Reading.{Read}
use Rattle.binlog_wire.specs.declared.error.Error.{Error}

-- ---- the changes of rows

same_rows : (rows others : List RowCells) → ◌≡◌ {A = List (Result RowCells RowsError)} (map (λ row. Ok row) rows) (map (λ row. Ok row) others) → rows ≡ others
same_rows [] [] is = refl
same_rows [] (other ∷ others) is = absurd cc
same_rows (row ∷ rows) [] is = absurd cc
same_rows (row ∷ rows) (other ∷ others) is =
    let rest : ◌≡◌ {A = List (Result RowCells RowsError)} (map (λ r. Ok r) rows) (map (λ r. Ok r) others) = cc in
    let one : ◌≡◌ {A = Result RowCells RowsError} (Ok row) (Ok other) = cc in
    let first : row ≡ other = cc in
    ap (λ (r : RowCells). r ∷ rows) first ∙ ap (λ (rs : List RowCells). other ∷ rs) (same_rows rows others rest)

-- Rows are one list of changes of their table.
pub one_list_of_changes : (table : TableName) (columns : List Typed) (event : RowsEventData) (changes others : List LogChange)
    → HasChanges table columns event changes → HasChanges table columns event others → changes ≡ others
one_list_of_changes table columns event changes others h k =
    let shape : RowsShape = shape_as (is_partial event) (event_shape columns (event_in event)) in
    let same = one_way (map (λ row. Ok row) h.rows) (map (λ row. Ok row) k.rows) shape 0 (event_in event).rows h.are k.are in
    h.is ∙ ap (row_changes table) (same_rows h.rows k.rows same) ∙ sym k.is

no_rows : (shape : RowsShape) (s : List ℕ) (rows : List RowCells) → s ≡ [] → AreRows shape 0 s (map (λ row. Ok row) rows) → rows ≡ []
no_rows shape s [] none h = refl
no_rows shape s (row ∷ rows) none h = absurd (omega (arith, ap length none, h.2))

-- None, if they have no bytes.
pub no_changes : (table : TableName) (columns : List Typed) (event : RowsEventData) (changes : List LogChange) → (event_in event).rows ≡ []
    → HasChanges table columns event changes → changes ≡ []
no_changes table columns event changes none h =
    h.is ∙ ap (row_changes table) (no_rows (shape_as (is_partial event) (event_shape columns (event_in event))) (event_in event).rows h.rows none h.are)

-- ---- the event at a place

both_true : (a b : Bool) → (a && b) ≡ true → (a ≡ true) × (b ≡ true)
both_true true b is = (refl, is)
both_true false b is = absurd cc

otherwise : {A : Type 0} (b : Bool) (x y : A) → b ≡ false → cond b x y ≡ y
otherwise true x y is = absurd cc
otherwise false x y is = refl

is_whole : (whole short : Bool) (found event : EventView) → cond (whole && not short) (Some found) None ≡ Some event → whole ≡ true
is_whole true short found event is = refl
is_whole false short found event is = absurd cc

pub its_frame : (d : FormatDescriptionEvent) (frame : List ℕ) (event : EventView) → event_at d frame ≡ Some event → IsFrame frame
its_frame d frame event at =
    let whole = both_true (nat_le 19 (length frame)) (length frame == stated_size frame) (is_whole (is_frame frame) (is_too_short (footer_under d.footer frame) frame) (event_of d frame) event at) in
    record { header = leb-true 19 (length frame) whole.0; whole = eqb-true (length frame) (stated_size frame) whole.1 }

its_map : (map other : TableMapEvent) → ◌≡◌ {A = Read TableMapEvent} (Ok (map, [])) (Ok (other, [])) → map ≡ other
its_map map other is =
    let both : ◌≡◌ {A = TableMapEvent × List ℕ} (map, []) (other, []) = cc in
    ap (λ (p : TableMapEvent × List ℕ). p.0) both

same_data : (found rows : RowsEventData) → ◌≡◌ {A = Result (Option LogEventData) Error} (Ok (Some (Mysql (mysql.RowsEvent found)))) (Ok (Some (Mysql (mysql.RowsEvent rows)))) → found ≡ rows
same_data found rows is = cc

no_compressed : (rows : RowsEventData) (compressed : RowsCompressedEvent)
    → ◌≡◌ {A = Result (Option LogEventData) Error} (Ok (Some (Mysql (mysql.RowsEvent rows)))) (Ok (Some (Maria (maria.RowsCompressedEvent compressed)))) → ⊥
no_compressed rows compressed is = cc

read_as_rows : (event : EventView) (read : Result (Option LogEventData) Error) (found rows : RowsEventData) → read ≡ Ok (Some (Mysql (mysql.RowsEvent rows)))
    → IsReadAsRows event read found → found ≡ rows
read_as_rows event read found rows is (inl h) = same_data found rows (sym h ∙ is)
read_as_rows event read found rows is (inr h) = absurd (no_compressed rows h.0 (sym is ∙ h.1))

module _ (bytes : List ℕ) (d : FormatDescriptionEvent) where
  -- The event that was written as this one is the one at this place.
  pub record IsThere (place : ℕ) (written : Event) (view : EventView) : Type 0 where
    pub is : IsReadAs d written view
    pub whole : IsEvent view.fde view.frame
    pub plain : is_description view.frame ≡ false
    pub there : IsFrameIn bytes place view.frame

  pub one_event : (place : ℕ) (written : Event) (view event : EventView) → IsThere place written view → IsEventAt (IsFrameIn bytes) d place event → event ≡ view
  one_event place written view event h k =
      let frame : k.frame ≡ view.frame = same_frame k.frame view.frame k.at.rest h.there.rest (its_frame d k.frame event k.is) h.whole.whole (sym k.at.at ∙ h.there.at) in
      let under : event_of d view.frame ≡ record { fde = d; frame = view.frame } =
      ap (λ (x : FormatDescriptionEvent). let e : EventView = record { fde = x; frame = view.frame } in e)
      (otherwise (is_description view.frame) (record d { footer = footer_of (body view.frame) }) d h.plain) in
      event_is _ (event_of d k.frame) event k.is ∙ ap (event_of d) frame ∙ under
      ∙ ap (λ (x : FormatDescriptionEvent). let e : EventView = record { fde = x; frame = view.frame } in e) (sym h.is.fde)

  module _ (pair : WrittenPair) (p : IsPair d pair) (place rows_place : ℕ) (map_view rows_view : EventView) (m : IsThere place pair.map_event map_view)
      (r : IsThere rows_place pair.rows_event rows_view) where
    one_map : (event : EventView) (found : TableMapEvent) → IsEventAt (IsFrameIn bytes) d place event → ReadsEventData event (Ok (Some (mysql.TableMapEvent found))) → found ≡ p.map
    one_map event found at read =
        let same : event ≡ map_view = one_event place pair.map_event map_view event m at in
        let reads : List ℕ → Read TableMapEvent = (table_map (post_header d TABLE_MAP_EVENT)).reads in
        let content : data_of event.fde.footer event.frame ≡ pair.map_event.body =
        ap (λ (e : EventView). data_of e.fde.footer e.frame) same ∙ ap (λ (x : FormatDescriptionEvent). data_of x.footer map_view.frame) m.is.fde ∙ m.is.body in
        its_map found p.map (sym (map_is_read d at.frame event found at.is read) ∙ ap reads content ∙ p.map_read)

    one_rows : (event : EventView) (found : RowsEventData) → IsEventAt (IsFrameIn bytes) d rows_place event → ReadsRows event found → found ≡ p.rows
    one_rows event found at h =
        let same : event ≡ rows_view = one_event rows_place pair.rows_event rows_view event r at in
        let read : h.read ≡ Ok (Some (Mysql (mysql.RowsEvent p.rows))) =
        rows_are_read d pair.rows_event rows_view r.is p.rows p.rows_type p.rows_read h.read (subst (λ (e : EventView). ReadsLogData e h.read) same h.reads) in
        read_as_rows event h.read found p.rows read h.are

    -- The changes at these places are those of the pair.
    pub one_change : (found : List LogChange) → IsChanged (IsFrameIn bytes) d (record { table_map = place; rows = rows_place }) found → found ≡ pair.changes
    one_change found h =
        let map_is : h.map ≡ p.map = one_map h.map_event h.map h.map_at h.map_read in
        let rows_are : h.read ≡ p.rows = one_rows h.event h.read h.event_at h.event_read in
        let are : HasTableChanges p.map p.rows found =
        subst (λ (x : RowsEventData). HasTableChanges p.map x found) rows_are (subst (λ (x : TableMapEvent). HasTableChanges x h.read found) map_is h.are) in
        one_list_of_changes (name_of p.map) (columns_in p.map.columns.types p.map.columns.metadata) p.rows found pair.changes are p.are
