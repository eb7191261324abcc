-- The diff bits of an image as contracts see them.
use Rattle.std.specs.Prelude.{Option, option_map, Result, Ok, Err}
use Rattle.binlog_wire.specs.declared.error.Error.{Error}
use Rattle.binlog_wire.specs.declared.bit_view.BitView.{BitView}
use Rattle.binlog_rows.specs.Columns.{Bitmap}
use Rattle.binlog_rows.specs.Images.{bitmap_of}
use Rattle.binlog_images.specs.Diffs.{Diffs}
use Rattle.binlog_images.specs.declared.diff_bits.DiffBits.{DiffBits}

abbrev pub diffs_of : Option DiffBits → Diffs
diffs_of diffs = option_map (λ d. (bitmap_of d.bits, d.index)) diffs

-- An answer, with the bits of its view.
abbrev pub answer_diffs : Result (Option BitView) Error → Result (Option Bitmap) Error
answer_diffs (Ok bits) = Ok (option_map bitmap_of bits)
answer_diffs (Err e) = Err e
