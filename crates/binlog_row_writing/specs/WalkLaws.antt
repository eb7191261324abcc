-- Laws of images, one column at a time.
use Rattle.std.proofs.Common.{◌≡◌, ℕ, suc, ◌+◌, ◌-◌, ◌<◌, ◌≤◌, ◌^◌, min, List, [], ◌∷◌, ◌++◌, length, None, Some, refl, sym, ap, ◌∙◌, append_assoc, arith}
use Rattle.std.specs.Prelude.{if◌then◌else◌}
use Rattle.std.proofs.lemmas.List.{length-append, append-nil}
use Rattle.binlog_columns.specs.Metadata.{Typed}
use Rattle.binlog_rows.specs.Columns.{Bitmap}
use Rattle.binlog_images.specs.Bits.{is_set, set_count}
use Rattle.binlog_row_writing.specs.NewCells.{cell_refusal, cell_bytes}
use Rattle.binlog_row_writing.specs.Walks.{WalkView, next_walk, value_at}
use Rattle.binlog_row_writing.specs.NewImages.{columns_refusal, columns_bytes}
use Rattle.binlog_row_writing.specs.NullBits.{new_nulls}
use Rattle.binlog_row_writing.specs.declared.new_value.NewValue.{NewValue}
use Rattle.binlog_row_writing.specs.declared.row_write_error.RowWriteErrorKind.{RowWriteErrorKind}

-- ---- counting

-- One more bit is counted.
pub count_step : (len i : ℕ) (bits : Bitmap) → i < len → set_count (len - i) i bits ≡ (if is_set bits i then 1 else 0) + set_count (len - (i + 1)) (i + 1) bits
count_step len i bits less =
    let left : len - i ≡ suc (len - (i + 1)) = omega arith in
    rw left

-- All bits are counted.
pub count_end : (len i count : ℕ) (bits : Bitmap) (all : ℕ) → len - i ≡ 0 → count + set_count (len - i) i bits ≡ all → count ≡ all
count_end len i count bits all none is =
    let last : count + 0 ≡ all = rw none at is in
    omega (arith, last)

-- ---- the places of columns

pub range_first : (columns others : List Typed) (column : Typed) (index len : ℕ) → columns ≡ column ∷ others → index + length columns ≤ len → index < len
range_first columns others column index len split h = omega (arith, ap length split)

pub range_step : (columns others : List Typed) (column : Typed) (index len : ℕ) → columns ≡ column ∷ others → index + length columns ≤ len
    → (index + 1) + length others ≤ len
range_step columns others column index len split h = omega (arith, ap length split)

-- ---- refusals

-- One more column isn't refused.
pub refusal_step : (columns others : List Typed) (column : Typed) (walk : WalkView) (values : List NewValue) → columns ≡ column ∷ others
    → cell_refusal column (value_at walk values) ≡ None → columns_refusal columns walk values ≡ columns_refusal others (next_walk walk) values
refusal_step columns others column walk values split none = rw (split, none) refl

-- A column is refused.
pub refusal_here : (columns others : List Typed) (column : Typed) (walk : WalkView) (values : List NewValue) (kind : RowWriteErrorKind) → columns ≡ column ∷ others
    → cell_refusal column (value_at walk values) ≡ Some kind → columns_refusal columns walk values ≡ Some (record { kind = kind; column = Some walk.index })
refusal_here columns others column walk values kind split some = rw (split, some) refl

-- No column is left.
pub refusal_end : (columns : List Typed) (walk : WalkView) (values : List NewValue) → columns ≡ [] → columns_refusal columns walk values ≡ None
refusal_end columns walk values none = rw none refl

-- ---- lengths

bytes_step : (columns others : List Typed) (column : Typed) (walk : WalkView) (values : List NewValue) → columns ≡ column ∷ others
    → columns_bytes columns walk values ≡ cell_bytes column (value_at walk values) ++ columns_bytes others (next_walk walk) values
bytes_step columns others column walk values split = rw split refl

bytes_end : (columns : List Typed) (walk : WalkView) (values : List NewValue) → columns ≡ [] → columns_bytes columns walk values ≡ []
bytes_end columns walk values none = rw none refl

step_len : (columns others : List Typed) (column : Typed) (walk : WalkView) (values : List NewValue) → columns ≡ column ∷ others
    → length (columns_bytes columns walk values) ≡ length (cell_bytes column (value_at walk values)) + length (columns_bytes others (next_walk walk) values)
step_len columns others column walk values split =
    ap length (bytes_step columns others column walk values split) ∙ length-append (cell_bytes column (value_at walk values)) (columns_bytes others (next_walk walk) values)

-- One more column is counted.
pub len_step : (columns others : List Typed) (column : Typed) (walk : WalkView) (values : List NewValue) (all len next : ℕ) → columns ≡ column ∷ others
    → min (len + length (columns_bytes columns walk values)) (2 ^ 64 - 1) ≡ all → next ≡ min (len + length (cell_bytes column (value_at walk values))) (2 ^ 64 - 1)
    → min (next + length (columns_bytes others (next_walk walk) values)) (2 ^ 64 - 1) ≡ all
len_step columns others column walk values all len next split same is = omega (arith, step_len columns others column walk values split)

-- All columns are counted.
pub len_end : (columns : List Typed) (walk : WalkView) (values : List NewValue) (all len : ℕ) → columns ≡ [] → len ≤ 2 ^ 64 - 1
    → min (len + length (columns_bytes columns walk values)) (2 ^ 64 - 1) ≡ all → len ≡ all
len_end columns walk values all len none small same =
    let last : length (columns_bytes columns walk values) ≡ 0 = ap length (bytes_end columns walk values none) in
    omega (arith, last)

pub image_len : (values : List NewValue) (bytes : List ℕ) → length (new_nulls values ++ bytes) ≡ length (new_nulls values) + length bytes
image_len values bytes = length-append (new_nulls values) bytes

-- ---- writing

-- One more column is written.
pub put_step : (columns others : List Typed) (column : Typed) (walk : WalkView) (values : List NewValue) (s t all : List ℕ) → columns ≡ column ∷ others
    → s ++ columns_bytes columns walk values ≡ all → t ≡ s ++ cell_bytes column (value_at walk values) → t ++ columns_bytes others (next_walk walk) values ≡ all
put_step columns others column walk values s t all split same more =
    let here : List ℕ = cell_bytes column (value_at walk values) in
    let rest : List ℕ = columns_bytes others (next_walk walk) values in
    ap (λ (u : List ℕ). u ++ rest) more ∙ append_assoc s here rest ∙ ap (λ (u : List ℕ). s ++ u) (sym (bytes_step columns others column walk values split)) ∙ same

-- The length after one more column.
pub put_len : (columns others : List Typed) (column : Typed) (walk : WalkView) (values : List NewValue) (len next all : ℕ) → columns ≡ column ∷ others
    → len + length (columns_bytes columns walk values) ≡ all → next ≡ len + length (cell_bytes column (value_at walk values))
    → next + length (columns_bytes others (next_walk walk) values) ≡ all
put_len columns others column walk values len next all split same is = omega (arith, step_len columns others column walk values split)

-- There is room for one more column.
pub put_room : (columns others : List Typed) (column : Typed) (walk : WalkView) (values : List NewValue) (len all capacity : ℕ) → columns ≡ column ∷ others
    → len + length (columns_bytes columns walk values) ≡ all → all ≤ capacity → len + length (cell_bytes column (value_at walk values)) ≤ capacity
put_room columns others column walk values len all capacity split same room = omega (arith, step_len columns others column walk values split)

-- No column is left to be counted.
pub put_all : (columns : List Typed) (walk : WalkView) (values : List NewValue) (len all : ℕ) → columns ≡ [] → len + length (columns_bytes columns walk values) ≡ all → len ≡ all
put_all columns walk values len all none same =
    let last : length (columns_bytes columns walk values) ≡ 0 = ap length (bytes_end columns walk values none) in
    omega (arith, last)

-- All columns are written.
pub put_end : (columns : List Typed) (walk : WalkView) (values : List NewValue) (s all : List ℕ) → columns ≡ [] → s ++ columns_bytes columns walk values ≡ all → s ≡ all
put_end columns walk values s all none same =
    sym (append-nil s) ∙ ap (λ (u : List ℕ). s ++ u) (sym (bytes_end columns walk values none)) ∙ same

-- An image is written in two parts.
pub image_split : (s t u nulls bytes : List ℕ) → t ≡ s ++ nulls → u ≡ t ++ bytes → u ≡ s ++ (nulls ++ bytes)
image_split s t u nulls bytes first second = second ∙ ap (λ (v : List ℕ). v ++ bytes) first ∙ append_assoc s nulls bytes
