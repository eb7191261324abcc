use Rattle.std.proofs.Common.{ℕ, List, length, ap, subst, ◌∙◌}
use Rattle.byteorder.specs.Endian.{little_number}
use Rattle.binlog_wire.specs.Fields.{IsBytes}
use Rattle.binlog_rows.specs.Images.{bitmap_of}
use Rattle.binlog_images.proofs.NullWords.{of_64, of_fewer}
use Rattle.binlog_images.proofs.image_bits.word_of.Goals as goal

pub returns-then-len-eq64 : goal.returns-then-len-eq64
returns-then-len-eq64 c =
    let same = c.as_bytes-bytes.ensures in
    of_64 (bitmap_of c.args.bits) c.len-len.result c.number_of-number.result c.len-len.ensures c.if-len-eq64.true c.number_of-number.type_inv
    (subst IsBytes same c.are_bytes.ensures) (c.number_of-number.ensures ∙ ap (λ (s : List ℕ). little_number (length s) s) same)

pub returns-else-len-eq64 : goal.returns-else-len-eq64
returns-else-len-eq64 c =
    let same = c.as_bytes-bytes.ensures in
    of_fewer (bitmap_of c.args.bits) c.len-len.result c.number_of-number.result c.len-len.ensures c.if-len-gt64.false c.if-len-eq64.false
    (subst IsBytes same c.are_bytes.ensures) (c.number_of-number.ensures ∙ ap (λ (s : List ℕ). little_number (length s) s) same)
