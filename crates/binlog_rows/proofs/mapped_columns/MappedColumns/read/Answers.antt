use Rattle.std.proofs.Common.{◌≡◌, length, ap, sym, ◌∙◌, arith}
use Rattle.binlog_rows.proofs.ColumnsLeft.{columns_left}
use Rattle.binlog_rows.proofs.mapped_columns.MappedColumns.read.Goals as goal

pub invariant_of-result : goal.invariant_of-result
invariant_of-result c =
    let left = columns_left c.args.buf.now c.in_ok-count.count c.read.new.buf c.in_ok-count.ensures _ _ c.in_ok-types.ensures
    _ _ c.in_ok-metadata.ensures _ _ c.in_ok-null_bits.ensures _ _ c.in_ok-optional_metadata.ensures in
    let types : length c.new.result ≡ length c.in_ok-types.types.now = ap length c.new.ensures in
    let metadata : length c.new-2.result ≡ length c.in_ok-metadata.metadata.now = ap length c.new-2.ensures in
    let optional : length c.new-3.result ≡ length c.in_ok-optional_metadata.optional_metadata.now = ap length c.new-3.ensures in
    (left.0 ∙ sym types, omega (arith, left.1, types, metadata, optional, ap length c.buf.view_is, c.buf.told.1))
