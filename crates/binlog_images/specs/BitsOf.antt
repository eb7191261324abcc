-- The bits of an image as contracts see them.
use Rattle.binlog_rows.specs.Images.{bitmap_of}
use Rattle.binlog_images.specs.Bits.{Bits}
use Rattle.binlog_images.specs.declared.image_bits.ImageBits.{ImageBits}

abbrev pub bits_of : ImageBits → Bits
bits_of bits = record { present = bitmap_of bits.present; nulls = bitmap_of bits.nulls; index = bits.index; place = bits.place }
