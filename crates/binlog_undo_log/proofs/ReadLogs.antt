-- The events of a log that is written are read as they were written, and are its changes.
use Rattle.std.proofs.Common.{◌≡◌, ℕ, Bool, true, false, List, [], ◌∷◌, ◌++◌, Some, Ok, refl, sym, ap, subst, ◌∙◌, inl, inr}
use Rattle.std.specs.List.{AllByRecursion, flat_map}
use Rattle.binlog_consts.specs.EventTypes.{event_number, event_type_of}
use Rattle.binlog_consts.specs.declared.event_type.EventType.{EventType}
use Rattle.binlog_consts.specs.declared.event_type.EventType.TheVariants.{QUERY_EVENT, XID_EVENT, TABLE_MAP_EVENT}
use Rattle.binlog_event_data.specs.ReadData.{data_read}
use Rattle.binlog_event_data.specs.declared.event_data.EventData.{EventData}
use Rattle.binlog_event_data.specs.declared.event_data.EventData.TheVariants as mysql
use Rattle.binlog_event_format.specs.Headers.{header_of}
use Rattle.binlog_event_format.specs.PostHeaders.{post_header}
use Rattle.binlog_event_format.specs.declared.format_description.FormatDescriptionEvent.{FormatDescriptionEvent}
use Rattle.binlog_events.specs.Events.{EventView}
use Rattle.binlog_events.specs.Parts.{data_of}
use Rattle.binlog_file.specs.LogData.{is_own_type, IsOwnEvent, ReadsLogData}
use Rattle.binlog_file.specs.declared.log_data.LogEventData.TheVariants.{Mysql}
use Rattle.binlog_rows.specs.Rows.{rows}
use Rattle.binlog_rows.specs.RowsData.{event_in, form_in}
use Rattle.binlog_rows.specs.TableMaps.{table_map}
use Rattle.binlog_rows.specs.declared.rows_event.RowsEvent.{RowsEvent}
use Rattle.binlog_rows.specs.declared.rows_event_data.RowsEventData.{RowsEventData}
use Rattle.binlog_rows.specs.declared.rows_event_data.RowsEventData.TheVariants as types
use Rattle.binlog_rows.specs.declared.table_map_event.TableMapEvent.{TableMapEvent}
use Rattle.binlog_undo.specs.InverseEvents.{type_of}
use Rattle.binlog_wire.specs.Reading.{Read, read_as}
use Rattle.binlog_undo_log.specs.Descriptions.{written_description}
use Rattle.binlog_undo_log.specs.LogChanges.{LogChange, LogPiece, beside, pair, piece_events, piece_changes, IsPieceOf, ArePairChanges, IsBesideRows, AreReadPair, IsReadBeside, AreReadChanges}
use Rattle.binlog_undo_log.specs.WholeLogs.{IsReadAs, AreReadAs}
use Rattle.binlog_undo.specs.Transactions.{Event}

not_both : true ≡ false → ⊥
not_both is = cc

module _ (d : FormatDescriptionEvent) where
  -- An event with this type and this data.
  read_of : (written : Event) (event : EventView) (type : EventType) (content : EventData) → IsReadAs d written event → written.event_type ≡ type
      → event_type_of (event_number type) ≡ Ok type → is_own_type (event_number type) ≡ false → data_read d written.body type ≡ Ok (content, [])
      → ReadsLogData event (Ok (Some (Mysql content)))
  read_of written event type content is kind known other reads =
      let number : (header_of event.frame).event_type ≡ event_number type = is.event_type ∙ ap event_number kind in
      let found : Ok type ≡ event_type_of (header_of event.frame).event_type = sym (ap event_type_of number ∙ known) in
      let own : IsOwnEvent event → ⊥ = λ h. not_both (sym h.0 ∙ ap is_own_type number ∙ other) in
      let read : data_read event.fde (data_of event.fde.footer event.frame) type ≡ Ok (content, []) =
      ap (λ (x : FormatDescriptionEvent). data_read x (data_of x.footer event.frame) type) is.fde ∙ ap (λ (s : List ℕ). data_read d s type) is.body ∙ reads in
      inr (own, (Ok (Some content), (Ok type, found, read), refl))

  pub map_read : (written : Event) (event : EventView) (map : TableMapEvent) → IsReadAs d written event → written.event_type ≡ TABLE_MAP_EVENT
      → (table_map (post_header d TABLE_MAP_EVENT)).reads written.body ≡ Ok (map, []) → ReadsLogData event (Ok (Some (Mysql (mysql.TableMapEvent map))))
  map_read written event map is kind reads =
      read_of written event TABLE_MAP_EVENT (mysql.TableMapEvent map) is kind refl refl (ap (read_as mysql.TableMapEvent) reads)

  pub rows_data : (s : List ℕ) (content : RowsEventData) → (rows (form_in content) (post_header d (type_of content))).spells s (event_in content) []
      → data_read d s (type_of content) ≡ Ok (mysql.RowsEvent content, [])
  rows_data s (types.WriteRowsEventV1 x) spells =
      let content : RowsEventData = types.WriteRowsEventV1 x in
      ap (read_as (λ e. mysql.RowsEvent (types.WriteRowsEventV1 e))) ((rows (form_in content) (post_header d (type_of content))).keeps.complete s x [] spells)
  rows_data s (types.UpdateRowsEventV1 x) spells =
      let content : RowsEventData = types.UpdateRowsEventV1 x in
      ap (read_as (λ e. mysql.RowsEvent (types.UpdateRowsEventV1 e))) ((rows (form_in content) (post_header d (type_of content))).keeps.complete s x [] spells)
  rows_data s (types.DeleteRowsEventV1 x) spells =
      let content : RowsEventData = types.DeleteRowsEventV1 x in
      ap (read_as (λ e. mysql.RowsEvent (types.DeleteRowsEventV1 e))) ((rows (form_in content) (post_header d (type_of content))).keeps.complete s x [] spells)
  rows_data s (types.WriteRowsEvent x) spells =
      let content : RowsEventData = types.WriteRowsEvent x in
      ap (read_as (λ e. mysql.RowsEvent (types.WriteRowsEvent e))) ((rows (form_in content) (post_header d (type_of content))).keeps.complete s x [] spells)
  rows_data s (types.UpdateRowsEvent x) spells =
      let content : RowsEventData = types.UpdateRowsEvent x in
      ap (read_as (λ e. mysql.RowsEvent (types.UpdateRowsEvent e))) ((rows (form_in content) (post_header d (type_of content))).keeps.complete s x [] spells)
  rows_data s (types.DeleteRowsEvent x) spells =
      let content : RowsEventData = types.DeleteRowsEvent x in
      ap (read_as (λ e. mysql.RowsEvent (types.DeleteRowsEvent e))) ((rows (form_in content) (post_header d (type_of content))).keeps.complete s x [] spells)
  rows_data s (types.PartialUpdateRowsEvent x) spells =
      let content : RowsEventData = types.PartialUpdateRowsEvent x in
      ap (read_as (λ e. mysql.RowsEvent (types.PartialUpdateRowsEvent e))) ((rows (form_in content) (post_header d (type_of content))).keeps.complete s x [] spells)

  pub rows_read : (written : Event) (event : EventView) (content : RowsEventData) → IsReadAs d written event → written.event_type ≡ type_of content
      → (rows (form_in content) (post_header d (type_of content))).spells written.body (event_in content) [] → ReadsLogData event (Ok (Some (Mysql (mysql.RowsEvent content))))
  rows_read written event (types.WriteRowsEventV1 x) is kind spells =
      read_of written event (type_of (types.WriteRowsEventV1 x)) (mysql.RowsEvent (types.WriteRowsEventV1 x)) is kind refl refl (rows_data written.body (types.WriteRowsEventV1 x) spells)
  rows_read written event (types.UpdateRowsEventV1 x) is kind spells =
      read_of written event (type_of (types.UpdateRowsEventV1 x)) (mysql.RowsEvent (types.UpdateRowsEventV1 x)) is kind refl refl (rows_data written.body (types.UpdateRowsEventV1 x) spells)
  rows_read written event (types.DeleteRowsEventV1 x) is kind spells =
      read_of written event (type_of (types.DeleteRowsEventV1 x)) (mysql.RowsEvent (types.DeleteRowsEventV1 x)) is kind refl refl (rows_data written.body (types.DeleteRowsEventV1 x) spells)
  rows_read written event (types.WriteRowsEvent x) is kind spells =
      read_of written event (type_of (types.WriteRowsEvent x)) (mysql.RowsEvent (types.WriteRowsEvent x)) is kind refl refl (rows_data written.body (types.WriteRowsEvent x) spells)
  rows_read written event (types.UpdateRowsEvent x) is kind spells =
      read_of written event (type_of (types.UpdateRowsEvent x)) (mysql.RowsEvent (types.UpdateRowsEvent x)) is kind refl refl (rows_data written.body (types.UpdateRowsEvent x) spells)
  rows_read written event (types.DeleteRowsEvent x) is kind spells =
      read_of written event (type_of (types.DeleteRowsEvent x)) (mysql.RowsEvent (types.DeleteRowsEvent x)) is kind refl refl (rows_data written.body (types.DeleteRowsEvent x) spells)
  rows_read written event (types.PartialUpdateRowsEvent x) is kind spells =
      read_of written event (type_of (types.PartialUpdateRowsEvent x)) (mysql.RowsEvent (types.PartialUpdateRowsEvent x)) is kind refl refl (rows_data written.body (types.PartialUpdateRowsEvent x) spells)

-- ---- the changes

beside_read : (d : FormatDescriptionEvent) (written : Event) (event : EventView) → IsReadAs d written event → IsBesideRows written → IsReadBeside event
beside_read d written event is (inl kind) = inl (is.event_type ∙ ap event_number kind)
beside_read d written event is (inr kind) = inr (is.event_type ∙ ap event_number kind)

-- The description of the log that is written is read as this one, created at 0.
module _ (d : FormatDescriptionEvent) where
  abbrev written_under : FormatDescriptionEvent
  written_under = written_description d

  pair_read : (map_written rows_written : Event) (map_event rows_event : EventView) (changes : List LogChange) → IsReadAs written_under map_written map_event → IsReadAs written_under rows_written rows_event
      → ArePairChanges d map_written rows_written changes → AreReadPair map_event rows_event changes
  pair_read map_written rows_written map_event rows_event changes map_is rows_is h = record {
    map = h.map;
    map_read = map_read written_under map_written map_event h.map map_is h.map_type h.map_read;
    event = h.event;
    event_read = rows_read written_under rows_written rows_event h.event rows_is h.event_type h.event_read;
    are = h.are;
  }

  pub read_pieces : (pieces : List (LogPiece Event)) (events : List EventView) → AllByRecursion (IsPieceOf IsBesideRows (ArePairChanges d)) pieces
      → AreReadAs written_under (flat_map piece_events pieces) events → AreReadChanges events (flat_map piece_changes pieces)
  read_pieces [] events each are = record { pieces = []; each = tt; events_are = are; changes_are = refl }
  read_pieces (beside written ∷ pieces) events each are =
      let event : EventView = are.0 in
      let more = read_pieces pieces are.1 each.1 are.4 in
      record {
        pieces = beside event ∷ more.pieces;
        each = (beside_read written_under written event are.3 each.0, more.each);
        events_are = are.2 ∙ ap (λ (e : List EventView). event ∷ e) more.events_are;
        changes_are = more.changes_are;
      }
  read_pieces (pair map_written rows_written changes ∷ pieces) events each are =
      let map_event : EventView = are.0 in
      let rows_event : EventView = are.4.0 in
      let more = read_pieces pieces are.4.1 each.1 are.4.4 in
      record {
        pieces = pair map_event rows_event changes ∷ more.pieces;
        each = (pair_read map_written rows_written map_event rows_event changes are.3 are.4.3 each.0, more.each);
        events_are = are.2 ∙ ap (λ (e : List EventView). map_event ∷ e) (are.4.2 ∙ ap (λ (e : List EventView). rows_event ∷ e) more.events_are);
        changes_are = ap (λ (c : List LogChange). changes ++ c) more.changes_are;
      }
