-- The bitmap that is read has the number of columns that it is read for.
use Rattle.std.specs.Prelude.{◌≡◌, ℕ, List, Ok}
use Rattle.std.proofs.Common.{ap, sym}
use Rattle.binlog_wire.specs.Bits.{bytes_of_bits}
use Rattle.binlog_wire.specs.Fields.{block_at}
use Rattle.binlog_wire.specs.Laws.{bind_ok}
use Rattle.binlog_rows.specs.Columns.{Bitmap, bitmap}

-- The bitmap that is read is that of this many columns.
pub bitmap_count : (len : ℕ) (s : List ℕ) (columns : Bitmap) (r : List ℕ) → (bitmap len).reads s ≡ Ok (columns, r) → columns.0 ≡ len
bitmap_count len s columns r e =
    let a = bind_ok (block_at (bytes_of_bits len) s) (λ x. Ok ((len, x.0), x.1)) (columns, r) e in
    let same : ◌≡◌ {A = Bitmap × List ℕ} ((len, a.0.0), a.0.1) (columns, r) = cc in
    sym (ap (λ (x : Bitmap × List ℕ). x.0.0) same)
