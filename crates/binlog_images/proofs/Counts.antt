-- Counting bits.
use Rattle.std.proofs.Common.{◌≡◌, ℕ, suc, ◌+◌, ◌-◌, ◌<◌, List, ◌∷◌, refl, arith}
use Rattle.std.specs.Prelude.{if◌then◌else◌}
use Rattle.binlog_columns.specs.Metadata.{Typed}
use Rattle.binlog_rows.specs.Columns.{Bitmap}
use Rattle.binlog_images.specs.Bits.{is_set, set_count}
use Rattle.binlog_images.specs.Diffs.{is_json, json_count}

-- One more bit is counted.
pub count_step : (len i : ℕ) (bits : Bitmap) → i < len → set_count (len - i) i bits ≡ (if is_set bits i then 1 else 0) + set_count (len - (i + 1)) (i + 1) bits
count_step len i bits less =
    let left : len - i ≡ suc (len - (i + 1)) = omega arith in
    rw left

-- All bits are counted.
pub count_end : (len i count : ℕ) (bits : Bitmap) (all : ℕ) → len - i ≡ 0 → count + set_count (len - i) i bits ≡ all → count ≡ all
count_end len i count bits all none is =
    let last : count + 0 ≡ all = rw none at is in
    omega (arith, last)

-- One more column is counted.
pub json_step : (columns others : List Typed) (column : Typed) → columns ≡ column ∷ others → json_count columns ≡ (if is_json column then 1 else 0) + json_count others
json_step columns others column split = rw split refl
