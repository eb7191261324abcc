-- Bodies that are read as those of their types are what is read as event data.
use Rattle.std.proofs.Common.{◌≡◌, ℕ, true, List, [], Some, Ok, sym, ap, subst}
use Rattle.std.proofs.lemmas.Bool.{eqb-true}
use Rattle.binlog_bodies.specs.Xid.{xid}
use Rattle.binlog_bodies.specs.declared.events.xid.XidEvent.{XidEvent}
use Rattle.binlog_consts.specs.EventTypes.{event_type_of}
use Rattle.binlog_consts.specs.declared.event_type.EventType.TheVariants.{XID_EVENT, TABLE_MAP_EVENT}
use Rattle.binlog_event_data.specs.declared.event_data.EventData.TheVariants as mysql
use Rattle.binlog_event_format.specs.DescriptionRefs.{description_of}
use Rattle.binlog_event_format.specs.Headers.{header_of}
use Rattle.binlog_event_format.specs.PostHeaders.{post_header}
use Rattle.binlog_event_format.specs.declared.ctx.BinlogCtx.{BinlogCtx}
use Rattle.binlog_event_format.specs.declared.format_description.FormatDescriptionEvent.{FormatDescriptionEvent}
use Rattle.binlog_events.specs.Events.{EventView, IsContextOf, ReadsEventData}
use Rattle.binlog_events.specs.Parts.{data_of, is_table_map}
use Rattle.binlog_rows.specs.TableMaps.{table_map}
use Rattle.binlog_rows.specs.declared.table_map_event.TableMapEvent.{TableMapEvent}
use Rattle.binlog_undo_log.specs.Undoing.{ReadsMap}
use Rattle.binlog_wire.specs.Reading.{read_as}

pub reads_xid : (event : EventView) (body : XidEvent) → (header_of event.frame).event_type ≡ 16
    → (ctx : BinlogCtx) × IsContextOf event ctx × ((xid (post_header (description_of ctx.fde) XID_EVENT)).reads (data_of event.fde.footer event.frame) ≡ Ok (body, []))
    → ReadsEventData event (Ok (Some (mysql.XidEvent body)))
reads_xid event body number (ctx, context, reads) =
    let s : List ℕ = data_of event.fde.footer event.frame in
    let own : (xid (post_header event.fde XID_EVENT)).reads s ≡ Ok (body, []) =
    subst (λ (d : FormatDescriptionEvent). (xid (post_header d XID_EVENT)).reads s ≡ Ok (body, [])) context.fde reads in
    (Ok XID_EVENT, sym (ap event_type_of number), ap (read_as mysql.XidEvent) own)

pub reads_map : (event : EventView) (map : TableMapEvent) → is_table_map event.frame ≡ true
    → (ctx : BinlogCtx) × IsContextOf event ctx × ((table_map (post_header (description_of ctx.fde) TABLE_MAP_EVENT)).reads (data_of event.fde.footer event.frame) ≡ Ok (map, []))
    → ReadsMap event map
reads_map event map is_map (ctx, context, reads) =
    let s : List ℕ = data_of event.fde.footer event.frame in
    let number : (header_of event.frame).event_type ≡ 19 = eqb-true (header_of event.frame).event_type 19 is_map in
    let own : (table_map (post_header event.fde TABLE_MAP_EVENT)).reads s ≡ Ok (map, []) =
    subst (λ (d : FormatDescriptionEvent). (table_map (post_header d TABLE_MAP_EVENT)).reads s ≡ Ok (map, [])) context.fde reads in
    (Ok TABLE_MAP_EVENT, sym (ap event_type_of number), ap (read_as mysql.TableMapEvent) own)
