use Rattle.std.proofs.Common.{ℕ, ap, ◌∙◌}
use Rattle.binlog_rows.specs.Images.{bitmap_of}
use Rattle.binlog_images.specs.Bits.{set_count}
use Rattle.binlog_images.proofs.AlikeBits.{all_counted}
use Rattle.binlog_images.proofs.image_columns.ImageColumns.new.Goals as goal

pub invariant_of-result : goal.invariant_of-result
invariant_of-result c =
    let bits = bitmap_of c.args.present in
    let counted = c.set_count-count.ensures in
    record {
      bit_each = c.requires;
      present_each = λ same k below. all_counted c.args.present.len c.set_count-count.result c.len.result bits counted c.len.ensures same k below;
      counted = counted ∙ ap (λ (n : ℕ). set_count n 0 bits) c.requires;
    }
