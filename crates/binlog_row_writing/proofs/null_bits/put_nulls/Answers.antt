use Rattle.std.proofs.Common.{◌≡◌, ◌+◌, ◌*◌, ◌/◌, ◌++◌, length, drop, ◌∙◌, ap, arith}
use Rattle.binlog_images.specs.NullBits.{null_byte}
use Rattle.binlog_images.proofs.NullBits.{nulls_step}
use Rattle.binlog_row_writing.specs.NullBits.{null_flags, new_nulls}
use Rattle.binlog_row_writing.specs.NullLaws.{byte_at}
use Rattle.binlog_row_writing.proofs.null_bits.put_nulls.Goals as goal

pub loop-index-preserved : goal.loop-index-preserved
loop-index-preserved c =
    let values = c.args.values.now in
    let index = c.loop-index.index in
    let byte : c.null_byte-byte.result ≡ null_byte (drop (8 * index) (null_flags values)) =
    c.null_byte-byte.ensures ∙ ap null_byte c.flags_from.ensures ∙ byte_at values (8 * index) in
    record {
      same = nulls_step c.loop-index.out.items c.put_bytes.new.out.items (c.args.out.now.items ++ new_nulls values) ((length values + 7) / 8) index c.null_byte-byte.result (null_flags values)
          (omega (arith, c.div_ceil-index-end.ensures)) c.loop-index.invariant.same byte c.put_bytes.ensures.items;
      len = omega (arith, c.put_bytes.ensures.len);
      capacity = omega (arith, c.put_bytes.ensures.capacity);
    }
