-- What table maps and row events share: table ids and column bitmaps.
-- Source: MySQL's documentation of its source code, `mysql::binlog::event::Table_map_event` and `Rows_event`.
use Rattle.std.specs.Prelude.{ℕ, ◌==◌, if◌then◌else◌, List, ◌≡◌, length, refl}
use Rattle.binlog_wire.specs.Formats.{Format, anywhere, number, block, made}
use Rattle.binlog_wire.specs.Bits.{bytes_of_bits}

-- The length of a table id for a post-header of this length: 4 bytes if that is 6, else 6 bytes.
abbrev pub id_width : ℕ → ℕ
id_width post_header = if post_header == 6 then 4 else 6

-- A table id, for a post-header of this length.
abbrev pub table_id : ℕ → Format anywhere ℕ
table_id post_header = number (id_width post_header)

-- A column bitmap: the number of columns, and the bytes of the bits, least significant bit first. Unused bits of the
-- last byte are kept.
abbrev pub Bitmap : Type 0
Bitmap = ℕ × List ℕ

-- The bytes are as many as the bits need.
abbrev pub IsBitmap : Bitmap → Type 0
IsBitmap columns = length columns.1 ≡ bytes_of_bits columns.0

-- The bitmap of this many columns.
abbrev pub bitmap : ℕ → Format anywhere Bitmap
bitmap len = made {A = List ℕ} (λ bits. (len, bits)) (λ columns. columns.1) (block (bytes_of_bits len)) (λ s x r h. refl) (λ columns. refl)
