-- The columns-present bitmap of a row image, as read and as returned.
use Rattle.binlog_wire.specs.declared.bit_view.BitView.{BitView}
use Rattle.binlog_rows.specs.Columns.{Bitmap}

-- The number of bits and the bytes that a view borrows.
abbrev pub bitmap_of : BitView → Bitmap
bitmap_of view = (view.len, view.bytes.now)
