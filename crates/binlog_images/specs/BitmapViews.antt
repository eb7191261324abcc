-- Bitmaps as contracts see them.
use Rattle.std.specs.Prelude.{Result, Ok, Err}
use Rattle.binlog_wire.specs.declared.error.Error.{Error}
use Rattle.binlog_wire.specs.declared.bit_view.BitView.{BitView}
use Rattle.binlog_rows.specs.Columns.{Bitmap}
use Rattle.binlog_rows.specs.Images.{bitmap_of}

-- An answer, with the bits of its view.
abbrev pub answer_bitmap : Result BitView Error → Result Bitmap Error
answer_bitmap (Ok view) = Ok (bitmap_of view)
answer_bitmap (Err e) = Err e
