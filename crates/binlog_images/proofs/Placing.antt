-- Which bits of an image belong to which column.
use Rattle.std.proofs.Common.{◌≡◌, ◌+◌, ◌≤◌, ◌<◌, ℕ, zero, suc, Bool, true, false, List, [], ◌∷◌, ◌++◌, take, get_or, length, Option, None, Some, refl, sym, ap, subst, ◌∙◌, arith, append_assoc, append-nil}
use Rattle.std.specs.Prelude.{◌&&◌, nat_lt, option_map, if◌then◌else◌}
use Rattle.std.proofs.lemmas.Bool.{lt-ltb}
use Rattle.binlog_columns.specs.Metadata.{Typed}
use Rattle.binlog_rows.specs.Columns.{Bitmap}
use Rattle.binlog_images.specs.Bits.{Bits, is_set, set_count, first_bits, is_present, is_null, next_bits, next_place}
use Rattle.binlog_images.specs.Diffs.{Diffs, is_json, json_count, first_diffs, is_diffs, next_diffs}
use Rattle.binlog_images.specs.Cells.{Cell, cell_as, cells_with}
use Rattle.binlog_images.specs.Placing.{IsCellBy, diffs_by, HasDiffBits, AreCellsBy}

abbrev one_if : Bool → ℕ
one_if b = if b then 1 else 0

-- The last of the counted bits apart.
set_count_on : (count index : ℕ) (bits : Bitmap) → set_count (suc count) index bits ≡ set_count count index bits + one_if (is_set bits (index + count))
set_count_on zero index bits =
    let same : index + zero ≡ index = omega arith in
    let one = ap (λ (i : ℕ). one_if (is_set bits i)) (sym same) in
    omega (arith, one)
set_count_on (suc count) index bits =
    let on = set_count_on count (index + 1) bits in
    let same : (index + 1) + count ≡ index + suc count = omega arith in
    let one = ap (λ (i : ℕ). one_if (is_set bits i)) same in
    omega (arith, on, one)

next_place_is : (b : Bits) → b.place ≡ set_count b.index 0 b.present → next_place (is_present b) b.place ≡ set_count (b.index + 1) 0 b.present
next_place_is b at =
    let next : b.index + 1 ≡ suc b.index = omega arith in
    let on = set_count_on b.index 0 b.present in
    let same : 0 + b.index ≡ b.index = omega arith in
    let one = ap (λ (i : ℕ). one_if (is_set b.present i)) same in
    let count = ap (λ (n : ℕ). set_count n 0 b.present) next in
    placed (is_set b.present b.index) b.place _ _ at (omega (arith, count, on, one))
  where
    placed : (p : Bool) (place before behind : ℕ) → place ≡ before → behind ≡ before + (if p then 1 else 0) → next_place p place ≡ behind
    placed true place before behind at on = omega (arith, at, on)
    placed false place before behind at on = omega (arith, at, on)

json_count_on : (before : List Typed) (column : Typed) → json_count (before ++ column ∷ []) ≡ json_count before + (if is_json column then 1 else 0)
json_count_on [] column = omega arith
json_count_on (first ∷ before) column = let on = json_count_on before column in omega (arith, on)

json_count_front : (before others : List Typed) → json_count before ≤ json_count (before ++ others)
json_count_front [] others = omega arith
json_count_front (first ∷ before) others = let on = json_count_front before others in omega (arith, on)

-- The diff bits behind these columns.
abbrev diffs_behind : Option Bitmap → List Typed → Diffs
diffs_behind diffs before = option_map (λ bits. (bits, json_count before)) diffs

next_diffs_are : (diffs : Option Bitmap) (before others : List Typed) (column : Typed) → HasDiffBits diffs ((before ++ column ∷ []) ++ others) → next_diffs column (diffs_behind diffs before) ≡ diffs_behind diffs (before ++ column ∷ [])
next_diffs_are None before others column has = refl
next_diffs_are (Some bits) before others column has =
    let on = json_count_on before column in
    let least : json_count (before ++ column ∷ []) ≤ bits.0 = omega (arith, json_count_front (before ++ column ∷ []) others, has) in
    ap (λ (n : ℕ). Some (bits, n)) (counted (is_json column) _ _ _ on least)
  where
    counted : (json : Bool) (count next len : ℕ) → next ≡ count + (if json then 1 else 0) → next ≤ len → (if json && nat_lt count len then count + 1 else count) ≡ next
    counted true count next len on least =
        let below : nat_lt count len ≡ true = lt-ltb count len (omega (arith, on, least)) in
        ap (λ (b : Bool). if b then count + 1 else count) below ∙ sym on
    counted false count next len on least = omega (arith, on)

-- What a column's encoding is of.
cell_is : (has_diffs : Bool) (column : Typed) (present null : Bool) (s r : List ℕ) (cell : Cell) → (cell_as has_diffs column present null).spells s cell r → IsCellBy present null has_diffs cell
cell_is false column false is_null s r cell h = h.0
cell_is false column true true s r cell h = h.0
cell_is false column true false s r cell h = subst (λ (x : Cell). IsCellBy true false false x) (sym h.1) refl
cell_is true column false is_null s r cell h = h.0
cell_is true column true true s r cell h = h.0
cell_is true column true false s r cell h = subst (λ (x : Cell). IsCellBy true false true x) (sym h.1) refl

diffs_are : (diffs : Option Bitmap) (before : List Typed) (column : Typed) → is_diffs column (diffs_behind diffs before) ≡ diffs_by diffs before column
diffs_are None before column = refl
diffs_are (Some bits) before column = refl

-- The columns of an image from one on.
from_column : (diffs : Option Bitmap) (before columns : List Typed) (b : Bits) (s r : List ℕ) (cells : List Cell)
    → b.place ≡ set_count b.index 0 b.present → HasDiffBits diffs (before ++ columns) → (cells_with (diffs_behind diffs before) columns b).spells s cells r
    → (k i : ℕ) (d : Typed) (e : Cell) → i ≡ b.index + k → k < length columns
    → IsCellBy (is_set b.present i) (is_set b.nulls (set_count i 0 b.present)) (diffs_by diffs (before ++ take k columns) (get_or columns k d)) (get_or cells k e)
from_column diffs before [] b s r cells at has h k i d e is within = absurd (omega (arith, within))
from_column diffs before (first ∷ others) b s r cells at has h zero i d e is within =
    let i_is : i ≡ b.index = omega (arith, is) in
    let found = cell_is (is_diffs first (diffs_behind diffs before)) first (is_present b) (is_null b) s _ h.0.0 h.2.1 in
    let placed : IsCellBy (is_set b.present b.index) (is_set b.nulls (set_count b.index 0 b.present)) (diffs_by diffs before first) h.0.0 = rw (sym (diffs_are diffs before first), sym at) found in
    let here : IsCellBy (is_set b.present i) (is_set b.nulls (set_count i 0 b.present)) (diffs_by diffs before first) h.0.0 = rw i_is placed in
    let listed = subst (λ (l : List Typed). IsCellBy (is_set b.present i) (is_set b.nulls (set_count i 0 b.present)) (diffs_by diffs l first) h.0.0) (sym (append-nil before)) here in
    subst (λ (l : List Cell). IsCellBy (is_set b.present i) (is_set b.nulls (set_count i 0 b.present)) (diffs_by diffs (before ++ []) first) (get_or l zero e)) (sym h.1) listed
from_column diffs before (first ∷ others) b s r cells at has h (suc k) i d e is within =
    let assoc : (before ++ first ∷ []) ++ others ≡ before ++ (first ∷ others) = append_assoc before (first ∷ []) others in
    let assoc_k : (before ++ first ∷ []) ++ take k others ≡ before ++ (first ∷ take k others) = append_assoc before (first ∷ []) (take k others) in
    let has_on : HasDiffBits diffs ((before ++ first ∷ []) ++ others) = subst (λ (l : List Typed). HasDiffBits diffs l) (sym assoc) has in
    let behind = next_diffs_are diffs before others first has_on in
    let rest = subst (λ (x : Diffs). (cells_with x others (next_bits b)).spells h.2.0 h.0.1 r) behind h.2.2 in
    let next = from_column diffs (before ++ first ∷ []) others (next_bits b) h.2.0 r h.0.1 (next_place_is b at) has_on rest k i d e (omega (arith, is)) (omega (arith, within)) in
    let listed = subst (λ (l : List Typed). IsCellBy (is_set b.present i) (is_set b.nulls (set_count i 0 b.present)) (diffs_by diffs l (get_or others k d)) (get_or h.0.1 k e)) assoc_k next in
    subst (λ (l : List Cell). IsCellBy (is_set b.present i) (is_set b.nulls (set_count i 0 b.present)) (diffs_by diffs (before ++ (first ∷ take k others)) (get_or others k d)) (get_or l (suc k) e)) (sym h.1) listed

first_are : (diffs : Option Bitmap) → diffs_behind diffs [] ≡ first_diffs diffs
first_are None = refl
first_are (Some bits) = refl

pub cells_are_placed : (diffs : Option Bitmap) (columns : List Typed) (present nulls : Bitmap) (s r : List ℕ) (cells : List Cell)
    → HasDiffBits diffs columns → (cells_with (first_diffs diffs) columns (first_bits present nulls)).spells s cells r → AreCellsBy diffs present nulls columns cells
cells_are_placed diffs columns present nulls s r cells has h k d e within =
    let spelled = subst (λ (x : Diffs). (cells_with x columns (first_bits present nulls)).spells s cells r) (sym (first_are diffs)) h in
    from_column diffs [] columns (first_bits present nulls) s r cells refl has spelled k k d e (omega arith) within
