use Rattle.binlog_rows.specs.Images.{bitmap_of}
use Rattle.binlog_images.proofs.NullWords.{next_nulls}
use Rattle.binlog_images.proofs.image_bits.ImageBits.advance.Goals as goal

pub invariant_of-self-2 : goal.invariant_of-self-2
invariant_of-self-2 c =
    let bits = c.args.self.now in
    record {
      present_each = bits.present_each;
      null_each = next_nulls bits.null_word c.next_word-self.result (bitmap_of bits.nulls) bits.place bits.null_each c.next_word-self.ensures;
    }
