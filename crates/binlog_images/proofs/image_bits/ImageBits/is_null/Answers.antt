use Rattle.binlog_rows.specs.Images.{bitmap_of}
use Rattle.binlog_images.proofs.NullWords.{first_null}
use Rattle.binlog_images.proofs.image_bits.ImageBits.is_null.Goals as goal

pub returns-in-Some : goal.returns-in-Some
returns-in-Some c =
    let bits = c.args.self.now in
    first_null c.in-Some.word bits.null_word (bitmap_of bits.nulls) bits.place bits.null_each c.in-Some.is
