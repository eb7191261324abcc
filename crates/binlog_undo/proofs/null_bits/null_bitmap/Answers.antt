use Rattle.std.proofs.Common.{◌≡◌, ◌+◌, ◌*◌, ◌/◌, [], ◌∷◌, ◌++◌, length, drop, ◌∙◌, ap, arith, rules}
use Rattle.binlog_images.specs.NullBits.{null_byte, nulls_of}
use Rattle.binlog_images.proofs.NullBits.{nulls_step}
use Rattle.binlog_undo.proofs.null_bits.null_bitmap.Goals as goal

pub loop-index-preserved : goal.loop-index-preserved
loop-index-preserved c =
    let flags = c.args.flags.now in
    let index = c.loop-index.index in
    let byte : c.null_byte-byte.result ≡ null_byte (drop (8 * index) flags) = c.null_byte-byte.ensures ∙ ap null_byte c.from_place.ensures in
    let pushed : c.push.new.self.items ≡ c.loop-index.bytes.items ++ c.null_byte-byte.result ∷ [] = search rules in
    nulls_step c.loop-index.bytes.items c.push.new.self.items (nulls_of flags) ((length flags + 7) / 8) index c.null_byte-byte.result flags
    (omega (arith, c.div_ceil-index-end.ensures)) c.loop-index.invariant byte pushed
