use Rattle.std.proofs.Common.{◌≡◌, ◌++◌, ◌-◌, length, take, ap, subst, ◌∙◌}
use Rattle.binlog_wire.specs.Fields.{IsBytes}
use Rattle.binlog_event_format.specs.Headers.{header_of}
use Rattle.binlog_event_format.specs.DescriptionRefs.{description_of}
use Rattle.binlog_event_format.specs.declared.ctx.BinlogCtx.{BinlogCtx}
use Rattle.binlog_event_format.specs.declared.header.BinlogEventHeader.{BinlogEventHeader}
use Rattle.binlog_events.specs.EventRefs.{view_of}
use Rattle.binlog_statistics.specs.CompressedRows.{uncompressed_type}
use Rattle.binlog_statistics.proofs.UncompressedRows.{stored_fit, counted_by}
use Rattle.binlog_statistics.proofs.compressed_rows.uncompressed_rows_in.Goals as goal

pub with_last-requires : goal.with_last-requires
with_last-requires c =
    rw (c.compressed_data.ensures, c.data-2.ensures) (stored_fit (view_of c.args.event.now) c.args.compressed.now (subst IsBytes c.data.ensures c.are_bytes.ensures) c.requires)

pub returns-clause-count : goal.returns-clause-count
returns-clause-count c =
    let context = c.new-context in
    let fde : description_of context.result.fde ≡ (view_of c.args.event.now).fde = ap (λ (x : BinlogCtx). description_of x.fde) context.ensures ∙ c.fde.ensures in
    let type : context.result.event_type_raw ≡ uncompressed_type (header_of (view_of c.args.event.now).frame).event_type =
    ap (λ (x : BinlogCtx). x.event_type_raw) context.ensures ∙ c.uncompressed_type-event_type.ensures ∙ ap uncompressed_type (c.event_type_raw.ensures ∙ ap (λ (x : BinlogEventHeader). x.event_type) c.header.ensures) in
    let body : c.deref.result.now ≡ take (length c.data-2.result.now - length c.compressed_data.result.now) c.data-2.result.now ++ c.args.rows.now = c.deref.ensures.value ∙ c.in_ok-body.ensures in
    counted_by (view_of c.args.event.now) c.args.compressed.now (subst IsBytes c.data.ensures c.are_bytes.ensures) c.requires
    (description_of context.result.fde) context.result.event_type_raw c.data-2.result.now c.compressed_data.result.now c.deref.result.now c.args.rows.now c.args.table_map.now c.read-read.result c.read_rows_in-count.result
    fde type c.data-2.ensures c.compressed_data.ensures body c.read-read.ensures c.read_rows_in-count.ensures
