-- Images that are completed are read as the rows after the update.
use Rattle.std.proofs.Common.{◌≡◌, ℕ, zero, suc, ◌+◌, ◌<◌, ◌≤◌, Bool, true, false, List, [], ◌∷◌, ◌++◌, length, get_or, Option, None, Some, Result, Ok, Err, refl, sym, ◌∙◌, ap, subst, append_assoc, arith}
use Rattle.std.specs.Prelude.{option_map, if◌then◌else◌}
use Rattle.std.proofs.lemmas.List.{append-nil, length-append}
use Rattle.binlog_wire.specs.Bits.{bytes_of_bits}
use Rattle.binlog_wire.specs.Reading.{Read}
use Rattle.binlog_columns.specs.Metadata.{Typed}
use Rattle.binlog_rows.specs.Columns.{Bitmap, bitmap}
use Rattle.binlog_images.specs.Bits.{Bits, first_bits, next_bits, next_place, is_set, set_count, is_present, is_null}
use Rattle.binlog_images.specs.Cells.{Cell, absent, cell_in, cell_at, cells, ImageShape, present_count, image, image_if, RowCells}
use Rattle.binlog_images.specs.Agreement.{Agrees}
use Rattle.binlog_images.specs.Images.{image_at}
use Rattle.binlog_images.specs.NullBits.{nulls_of}
use Rattle.binlog_images.specs.Stored.{IsFault}
use Rattle.binlog_images.specs.StoredColumns.{Stored, front, stored_as, stored_with, stored_in, stored_image}
use Rattle.binlog_images.specs.declared.rows_error.RowsErrorKind.{RowsErrorKind}
use Rattle.binlog_images.proofs.Agreement.{image_agrees}
use Rattle.binlog_images.proofs.NullBits.{nulls_len, null_is_set}
use Rattle.binlog_undo.specs.Completion.{updated_stored, completed_stored, value_bytes, values_of, null_flag, null_flags, image_bytes, IsCompletedBy}
use Rattle.binlog_undo.specs.RowBytes.{Encodes, RowBytes, IsRowBytes}
use Rattle.binlog_undo.specs.RowChanges.{TableRow, updated, completed, inverse_row, Covers, HasOldColumns}
use Rattle.binlog_undo.proofs.Local.{local_cell}
use Rattle.binlog_undo.proofs.Stored.{front_is}

-- ---- a column

-- A column that is present is spelled by its own bytes, whatever follows.
present_as : (column : Typed) (n m : Bool) (s r : List ℕ) (a : Cell) → m ≡ n → (cell_in column true n).spells s a r → (q : List ℕ)
    → (cell_in column true m).spells (value_bytes (stored_as true n s r) ++ q) a q
present_as column true m s r a e p q = subst (λ (b : Bool). (cell_in column true b).spells q a q) (sym e) (p.0, refl)
present_as column false m s r a e p q =
    let local = local_cell column true false s a r p in
    let is : front s r ≡ local.0 = ap (λ (t : List ℕ). front t r) local.1 ∙ front_is local.0 r in
    subst (λ (b : Bool). (cell_in column true b).spells (front s r ++ q) a q) (sym e)
    (subst (λ (w : List ℕ). (cell_in column true false).spells (w ++ q) a q) (sym is) (local.2 q))

-- The null bit of a column that is present.
abbrev HasFlag : Bool → List Bool → Type 0
HasFlag m [] = Unit {0}
HasFlag m (flag ∷ flags) = m ≡ flag

column_done : (column : Typed) (px nx py ny m : Bool) (s t r u : List ℕ) (a b : Cell) → (py ≡ true → px ≡ true)
    → HasFlag m (null_flag (updated_stored (stored_as px nx s r) (stored_as py ny t u)))
    → (cell_in column px nx).spells s a r → (cell_in column py ny).spells t b u → (q : List ℕ)
    → (cell_in column px m).spells (value_bytes (updated_stored (stored_as px nx s r) (stored_as py ny t u)) ++ q) (updated a b) q
column_done column false nx false ny m s t r u a b sub flag p o q = (ap (λ (c : Cell). updated c b) p.0 ∙ ap (updated absent) o.0, refl)
column_done column false nx true ny m s t r u a b sub flag p o q = absurd (let e = sub refl in cc)
column_done column true true false ny m s t r u a b sub flag p o q =
    subst (λ (c : Cell). (cell_in column true m).spells q c q) (sym (ap (updated a) o.0)) (present_as column true m s r a flag p q)
column_done column true false false ny m s t r u a b sub flag p o q =
    subst (λ (c : Cell). (cell_in column true m).spells (front s r ++ q) c q) (sym (ap (updated a) o.0)) (present_as column false m s r a flag p q)
column_done column true nx true true m s t r u a b sub flag p o q =
    subst (λ (c : Cell). (cell_in column true m).spells q c q) (o.0 ∙ sym (ap (updated a) o.0)) (present_as column true m t u b flag o q)
column_done column true nx true false m s t r u a b sub flag p o q =
    subst (λ (c : Cell). (cell_in column true m).spells (front t u ++ q) c q) (o.1 ∙ sym (ap (updated a) o.1)) (present_as column false m t u b flag o q)

-- A column that is present has one null bit, another none.
abbrev IsFlag : Bool → List Bool → Type 0
IsFlag true flags = (flag : Bool) × (flags ≡ flag ∷ [])
IsFlag false flags = flags ≡ []

flag_is : (px nx py ny : Bool) (s t r u : List ℕ) → (py ≡ true → px ≡ true) → IsFlag px (null_flag (updated_stored (stored_as px nx s r) (stored_as py ny t u)))
flag_is false nx false ny s t r u sub = refl
flag_is false nx true ny s t r u sub = absurd (let e = sub refl in cc)
flag_is true true false ny s t r u sub = (true, refl)
flag_is true false false ny s t r u sub = (false, refl)
flag_is true nx true true s t r u sub = (true, refl)
flag_is true nx true false s t r u sub = (false, refl)

-- ---- the null bits of the columns

-- The bits from this place on.
abbrev HasFlags : Bitmap → ℕ → List Bool → Type 0
HasFlags nulls place flags = (k : ℕ) → k < length flags → is_set nulls (place + k) ≡ get_or flags k true

flags_here : (present : Bool) (nulls : Bitmap) (place : ℕ) (here rest : List Bool) → IsFlag present here → HasFlags nulls place (here ++ rest) → HasFlag (is_set nulls place) here
flags_here true nulls place here rest is h =
    let all : HasFlags nulls place (is.0 ∷ rest) = subst (λ (fs : List Bool). HasFlags nulls place (fs ++ rest)) is.1 h in
    let e : place + 0 ≡ place = omega arith in
    subst (λ (fs : List Bool). HasFlag (is_set nulls place) fs) (sym is.1) (ap (is_set nulls) (sym e) ∙ all 0 (omega arith))
flags_here false nulls place here rest is h = subst (λ (fs : List Bool). HasFlag (is_set nulls place) fs) (sym is) tt

flags_next : (present : Bool) (nulls : Bitmap) (place : ℕ) (here rest : List Bool) → IsFlag present here → HasFlags nulls place (here ++ rest) → HasFlags nulls (next_place present place) rest
flags_next true nulls place here rest is h =
    let all : HasFlags nulls place (is.0 ∷ rest) = subst (λ (fs : List Bool). HasFlags nulls place (fs ++ rest)) is.1 h in
    λ k less. let e : (place + 1) + k ≡ place + suc k = omega arith in ap (is_set nulls) e ∙ all (suc k) (omega arith)
flags_next false nulls place here rest is h = subst (λ (fs : List Bool). HasFlags nulls place (fs ++ rest)) is h

-- ---- the columns

-- Each column that is present in the second is in the first.
abbrev Within : Bitmap → Bitmap → Type 0
Within before after = (k : ℕ) → is_set after k ≡ true → is_set before k ≡ true

stored_first : (column : Typed) (table : List Typed) (x : Bits) (s m : List ℕ) (c : Cell) → (cell_at None column x).reads s ≡ Ok (c, m)
    → stored_in (column ∷ table) x s ≡ stored_with x s m ∷ stored_in table (next_bits x) m
stored_first column table x s m c read = rw read refl

-- What there is at the first column of two images.
record Firsts (column : Typed) (table : List Typed) (x y : Bits) (s t m n : List ℕ) : Type 0 where
  is : completed_stored (stored_in (column ∷ table) x s) (stored_in (column ∷ table) y t)
      ≡ updated_stored (stored_with x s m) (stored_with y t n) ∷ completed_stored (stored_in table (next_bits x) m) (stored_in table (next_bits y) n)
  flag : IsFlag (is_present x) (null_flag (updated_stored (stored_with x s m) (stored_with y t n)))

within_here : (x y : Bits) → x.index ≡ y.index → Within x.present y.present → is_present y ≡ true → is_present x ≡ true
within_here x y same within is = ap (is_set x.present) same ∙ within y.index is

firsts : (column : Typed) (table : List Typed) (x y : Bits) (s t m n : List ℕ) (c d : Cell) → x.index ≡ y.index → Within x.present y.present
    → (cell_at None column x).spells s c m → (cell_at None column y).spells t d n → Firsts column table x y s t m n
firsts column table x y s t m n c d same within p o = record {
  is =
      ap (λ (xs : List Stored). completed_stored xs (stored_in (column ∷ table) y t)) (stored_first column table x s m c ((cell_at None column x).keeps.complete s c m p))
      ∙ ap (λ (ys : List Stored). completed_stored (stored_with x s m ∷ stored_in table (next_bits x) m) ys) (stored_first column table y t n d ((cell_at None column y).keeps.complete t d n o));
  flag = flag_is (is_present x) (is_null x) (is_present y) (is_null y) s t m n (within_here x y same within);
}

flag_len : (present : Bool) (flags : List Bool) → IsFlag present flags → length flags ≡ (if present then 1 else 0)
flag_len true flags h = ap length h.1
flag_len false flags h = ap length h

-- As many null bits as columns that are present.
flags_count : (table : List Typed) (x y : Bits) (s t r u : List ℕ) (a b : List Cell) → x.index ≡ y.index → Within x.present y.present
    → (cells table x).spells s a r → (cells table y).spells t b u
    → length (null_flags (completed_stored (stored_in table x s) (stored_in table y t))) ≡ set_count (length table) x.index x.present
flags_count [] x y s t r u a b same within p o = refl
flags_count (column ∷ table) x y s t r u a b same within p o =
    let m : List ℕ = p.2.0 in
    let n : List ℕ = o.2.0 in
    let h = firsts column table x y s t m n p.0.0 o.0.0 same within p.2.1 o.2.1 in
    let here : Stored = updated_stored (stored_with x s m) (stored_with y t n) in
    let rest : List Stored = completed_stored (stored_in table (next_bits x) m) (stored_in table (next_bits y) n) in
    let others : length (null_flags rest) ≡ set_count (length table) (x.index + 1) x.present =
    flags_count table (next_bits x) (next_bits y) m n r u p.0.1 o.0.1 (ap (λ (k : ℕ). k + 1) same) within p.2.2 o.2.2 in
    ap (λ (cs : List Stored). length (null_flags cs)) h.is
    ∙ length-append (null_flag here) (null_flags rest)
    ∙ ap (λ (k : ℕ). length (null_flag here) + k) others
    ∙ ap (λ (k : ℕ). k + set_count (length table) (x.index + 1) x.present) (flag_len (is_present x) (null_flag here) h.flag)

-- The columns after the update are spelled by their bytes.
cells_done : (table : List Typed) (x y z : Bits) (s t r u : List ℕ) (a b : List Cell) → x.index ≡ y.index → z.index ≡ x.index → z.present ≡ x.present → Within x.present y.present
    → HasFlags z.nulls z.place (null_flags (completed_stored (stored_in table x s) (stored_in table y t)))
    → (cells table x).spells s a r → (cells table y).spells t b u → (q : List ℕ)
    → (cells table z).spells (values_of (completed_stored (stored_in table x s) (stored_in table y t)) ++ q) (completed a b) q
cells_done [] x y z s t r u a b same place bits within flags p o q = (ap (λ (c : TableRow). completed c b) p.0 ∙ o.0, refl)
cells_done (column ∷ table) x y z s t r u a b same place bits within flags p o q =
    let m : List ℕ = p.2.0 in
    let n : List ℕ = o.2.0 in
    let h = firsts column table x y s t m n p.0.0 o.0.0 same within p.2.1 o.2.1 in
    let here : Stored = updated_stored (stored_with x s m) (stored_with y t n) in
    let rest : List Stored = completed_stored (stored_in table (next_bits x) m) (stored_in table (next_bits y) n) in
    let there : is_present z ≡ is_present x = ap (λ (p : Bitmap). is_set p z.index) bits ∙ ap (is_set x.present) place in
    let all : HasFlags z.nulls z.place (null_flag here ++ null_flags rest) = subst (λ (cs : List Stored). HasFlags z.nulls z.place (null_flags cs)) h.is flags in
    let next : HasFlags z.nulls (next_place (is_present z) z.place) (null_flags rest) =
    flags_next (is_present z) z.nulls z.place (null_flag here) (null_flags rest) (subst (λ (b : Bool). IsFlag b (null_flag here)) (sym there) h.flag) all in
    let others = cells_done table (next_bits x) (next_bits y) (next_bits z) m n r u p.0.1 o.0.1 (ap (λ (k : ℕ). k + 1) same) (ap (λ (k : ℕ). k + 1) place) bits within next p.2.2 o.2.2 q in
    let first = column_done column (is_present x) (is_null x) (is_present y) (is_null y) (is_null z) s t m n p.0.0 o.0.0 (within_here x y same within)
    (flags_here (is_present x) z.nulls z.place (null_flag here) (null_flags rest) h.flag all) p.2.1 o.2.1 (values_of rest ++ q) in
    let split : values_of (here ∷ rest) ++ q ≡ value_bytes here ++ (values_of rest ++ q) = append_assoc (value_bytes here) (values_of rest) q in
    let row : completed a b ≡ updated p.0.0 o.0.0 ∷ completed p.0.1 o.0.1 = ap (λ (c : TableRow). completed c b) p.1 ∙ ap (completed (p.0.0 ∷ p.0.1)) o.1 in
    subst (λ (cs : List Stored). (cells (column ∷ table) z).spells (values_of cs ++ q) (completed a b) q) (sym h.is) (
      (updated p.0.0 o.0.0, completed p.0.1 o.0.1),
      row,
      (
        values_of rest ++ q,
        subst (λ (w : List ℕ). (cell_in column (is_present z) (is_null z)).spells w (updated p.0.0 o.0.0) (values_of rest ++ q)) (sym split)
            (subst (λ (b : Bool). (cell_in column b (is_null z)).spells (value_bytes here ++ (values_of rest ++ q)) (updated p.0.0 o.0.0) (values_of rest ++ q)) (sym there) first),
        others,
      ),
    )

-- ---- the image

-- An image that is encoded has its columns behind its null bitmap.
record HasColumns (shape : ImageShape) (w : List ℕ) (x : Bitmap × List Cell) : Type 0 where
  mid : List ℕ
  spelled : (cells shape.0 (first_bits shape.1 x.0)).spells mid x.1 []
  columns : stored_image shape w ≡ stored_in shape.0 (first_bits shape.1 x.0) mid

has_columns : (shape : ImageShape) (w : List ℕ) (x : Bitmap × List Cell) → Encodes (image shape) w x → HasColumns shape w x
has_columns shape w x h =
    let is : (image shape).spells w x [] = subst (λ (s : List ℕ). (image shape).spells s x []) (append-nil w) (h []) in
    let nulls : (bitmap (present_count shape)).reads w ≡ Ok (x.0, is.0) = (bitmap (present_count shape)).keeps.complete w x.0 is.0 is.1 in
    record {
      mid = is.0;
      spelled = is.2;
      columns = rw nulls refl;
    }

completed_image : (table : List Typed) (before after : Bitmap) (w v : List ℕ) (x y : Bitmap × List Cell) → Within before after
    → Encodes (image (table, before)) w x → Encodes (image (table, after)) v y
    → (nulls : Bitmap) × Encodes (image (table, before)) (image_bytes (completed_stored (stored_image (table, before) w) (stored_image (table, after) v))) (nulls, completed x.1 y.1)
completed_image table before after w v x y within p o =
    let olds = has_columns (table, before) w x p in
    let news = has_columns (table, after) v y o in
    let columns : List Stored = completed_stored (stored_in table (first_bits before x.0) olds.mid) (stored_in table (first_bits after y.0) news.mid) in
    let flags : List Bool = null_flags columns in
    let count : length flags ≡ present_count (table, before) =
    flags_count table (first_bits before x.0) (first_bits after y.0) olds.mid news.mid [] [] x.1 y.1 refl within olds.spelled news.spelled in
    let nulls : Bitmap = (present_count (table, before), nulls_of flags) in
    let set : HasFlags nulls 0 flags = λ k less. let e : 0 + k ≡ k = omega arith in
    ap (is_set nulls) e ∙ subst (λ (n : ℕ). is_set (n, nulls_of flags) k ≡ get_or flags k true) count (null_is_set flags k less) in
    let same : completed_stored (stored_image (table, before) w) (stored_image (table, after) v) ≡ columns =
    ap (λ (cs : List Stored). completed_stored cs (stored_image (table, after) v)) olds.columns ∙ ap (completed_stored (stored_in table (first_bits before x.0) olds.mid)) news.columns in
    let len : length (nulls_of flags) ≡ bytes_of_bits (present_count (table, before)) = nulls_len flags ∙ ap bytes_of_bits count in (
      nulls,
      subst (λ (cs : List Stored). Encodes (image (table, before)) (image_bytes cs) (nulls, completed x.1 y.1)) (sym same) (λ q. (
        values_of columns ++ q,
        (nulls_of flags, refl, (len, append_assoc (nulls_of flags) (values_of columns) q)),
        cells_done table (first_bits before x.0) (first_bits after y.0) (first_bits before nulls) olds.mid news.mid [] [] x.1 y.1 refl refl refl within set olds.spelled news.spelled q,
      )),
    )

-- ---- the row

-- The image of a row that has one.
record HasImage (shape : ImageShape) (w : List ℕ) (o : Option (Bitmap × List Cell)) : Type 0 where
  there : Bitmap × List Cell
  is : o ≡ Some there
  encodes : Encodes (image shape) w there

some_same : (x y : Bitmap × List Cell) (o : Option (Bitmap × List Cell)) → o ≡ Some x → o ≡ Some y → x ≡ y
some_same x y o p q = cc

has_image : (shape : ImageShape) (w : List ℕ) (o : Option (Bitmap × List Cell)) → Encodes (image_if (Some shape)) w o → HasImage shape w o
has_image shape w o h =
    let first = h [] in
    record {
      there = first.0;
      is = first.1;
      encodes = λ q. let p = h q in subst (λ (z : Bitmap × List Cell). (image shape).spells (w ++ q) z q) (some_same p.0 first.0 o p.1 first.1) p.2;
    }

-- A column that isn't in the image before isn't in the image after.
absent_in_both : (column : Typed) (px nx py ny : Bool) (s t r u : List ℕ) (a b : Cell) → (py ≡ true → px ≡ true) → (cell_in column px nx).spells s a r
    → (cell_in column py ny).spells t b u → a ≡ absent → b ≡ absent
absent_in_both column px nx false ny s t r u a b sub p o e = o.0
absent_in_both column false nx true ny s t r u a b sub p o e = absurd (let e = sub refl in cc)
absent_in_both column true true true ny s t r u a b sub p o e = let is = p.0 in absurd cc
absent_in_both column true false true ny s t r u a b sub p o e = let is = p.1 in absurd cc

covers_within : (table : List Typed) (x y : Bits) (s t r u : List ℕ) (a b : TableRow) → x.index ≡ y.index → Within x.present y.present
    → (cells table x).spells s a r → (cells table y).spells t b u → Covers a b
covers_within [] x y s t r u a b same within p o =
    subst (λ (cs : TableRow). Covers cs b) (sym p.0) (subst (λ (cs : TableRow). Covers [] cs) (sym o.0) tt)
covers_within (column ∷ table) x y s t r u a b same within p o =
    subst (λ (cs : TableRow). Covers cs b) (sym p.1) (subst (λ (cs : TableRow). Covers (p.0.0 ∷ p.0.1) cs) (sym o.1) (
      absent_in_both column (is_present x) (is_null x) (is_present y) (is_null y) s t p.2.0 o.2.0 p.0.0 o.0.0 (within_here x y same within) p.2.1 o.2.1,
      covers_within table (next_bits x) (next_bits y) p.2.0 o.2.0 r u p.0.1 o.0.1 (ap (λ (k : ℕ). k + 1) same) within p.2.2 o.2.2,
    ))

-- ---- a row that is completed has bytes

one_within : (b a : Bool) → (a ≡ true → b ≡ true) → (if a then 1 else 0) ≤ (if b then 1 else 0)
one_within b false h = omega arith
one_within true true h = omega arith
one_within false true h = absurd (let e = h refl in cc)

count_within : (n i : ℕ) (before after : Bitmap) → Within before after → set_count n i after ≤ set_count n i before
count_within zero i before after h = omega arith
count_within (suc n) i before after h =
    let first = one_within (is_set before i) (is_set after i) (h i) in
    let others = count_within n (i + 1) before after h in
    omega (arith, first, others)

not_set : (b : Bool) (n : ℕ) → (if b then 1 else 0) + n ≡ 0 → (b ≡ false) × (n ≡ 0)
not_set true n h = absurd (omega (arith, h))
not_set false n h = (refl, omega (arith, h))

none_spelled : (table : List Typed) (x : Bits) (s r : List ℕ) (a : List Cell) → set_count (length table) x.index x.present ≡ 0 → (cells table x).spells s a r → s ≡ r
none_spelled [] x s r a none p = sym p.1
none_spelled (column ∷ table) x s r a none p =
    let not = not_set (is_present x) (set_count (length table) (x.index + 1) x.present) none in
    let first : (cell_in column false (is_null x)).spells s p.0.0 p.2.0 = subst (λ (b : Bool). (cell_in column b (is_null x)).spells s p.0.0 p.2.0) not.0 p.2.1 in
    sym first.1 ∙ none_spelled table (next_bits x) p.2.0 r p.0.1 not.1 p.2.2

no_bytes : (s : List ℕ) → length s ≡ 0 → s ≡ []
no_bytes [] h = refl
no_bytes (b ∷ s) h = absurd (omega (arith, h))

-- An image has bytes exactly if columns are present.
image_some : (shape : ImageShape) (w : List ℕ) (x : Bitmap × List Cell) → Encodes (image shape) w x → 0 < present_count shape → 0 < length w
image_some shape w x h some =
    let is : (image shape).spells w x [] = subst (λ (s : List ℕ). (image shape).spells s x []) (append-nil w) (h []) in
    let nulls = is.1 in
    omega (arith, some, nulls.2.0, ap length nulls.2.1, length-append nulls.0 is.0)

image_none : (shape : ImageShape) (w : List ℕ) (x : Bitmap × List Cell) → Encodes (image shape) w x → present_count shape ≡ 0 → length w ≡ 0
image_none shape w x h none =
    let is : (image shape).spells w x [] = subst (λ (s : List ℕ). (image shape).spells s x []) (append-nil w) (h []) in
    let nulls = is.1 in
    let mid : is.0 ≡ [] = none_spelled shape.0 (first_bits shape.1 x.0) is.0 [] x.1 none is.2 in
    omega (arith, none, nulls.2.0, ap length nulls.2.1, length-append nulls.0 is.0, ap length mid)

row_some : (n : ℕ) (table : List Typed) (before after : Bitmap) (w v : List ℕ) (x y : Bitmap × List Cell) → n ≡ present_count (table, before) → Within before after
    → Encodes (image (table, before)) w x → Encodes (image (table, after)) v y → 0 < length (w ++ v) → 0 < length w
row_some (suc n) table before after w v x y is within p o some = image_some (table, before) w x p (omega (arith, is))
row_some zero table before after w v x y is within p o some =
    let most = count_within (length table) 0 before after within in
    let first = image_none (table, before) w x p (sym is) in
    let second = image_none (table, after) v y o (omega (arith, is, most)) in
    absurd (omega (arith, some, first, second, length-append w v))

-- The bytes that complete a row undo it.
pub completed_undoes : (table : List Typed) (before after : Bitmap) (bytes others : RowBytes) (cells : RowCells) → Within before after
    → IsCompletedBy table before after bytes others → IsRowBytes (Some (table, before), Some (table, after)) bytes cells
    → IsRowBytes (Some (table, before), Some (table, before)) others (inverse_row cells) × HasOldColumns cells
completed_undoes table before after bytes others cells within by h =
    let old = has_image (table, before) bytes.before h.stored.0 h.before in
    let new = has_image (table, after) bytes.after h.stored.1 h.after in
    let made = completed_image table before after bytes.before bytes.after old.there new.there within old.encodes new.encodes in
    let olds = has_columns (table, before) bytes.before old.there old.encodes in
    let news = has_columns (table, after) bytes.after new.there new.encodes in
    let row : RowCells = (Some old.there.1, Some new.there.1) in
    let is : row ≡ cells =
    ap (λ (o : Option (Bitmap × List Cell)). let x : RowCells = (option_map (λ (i : Bitmap × List Cell). i.1) o, Some new.there.1) in x) (sym old.is)
    ∙ ap (λ (o : Option (Bitmap × List Cell)). let x : RowCells = (option_map (λ (i : Bitmap × List Cell). i.1) h.stored.0, option_map (λ (i : Bitmap × List Cell). i.1) o) in x) (sym new.is)
    ∙ h.are in (
      record {
        stored = (Some (made.0, completed old.there.1 new.there.1), Some old.there);
        before = λ q. subst (λ (w : List ℕ). (image_if (Some (table, before))).spells (w ++ q) (Some (made.0, completed old.there.1 new.there.1)) q) (sym by.before)
            ((made.0, completed old.there.1 new.there.1), refl, made.1 q);
        after = λ q. subst (λ (w : List ℕ). (image_if (Some (table, before))).spells (w ++ q) (Some old.there) q) (sym by.after) (old.there, refl, old.encodes q);
        are = ap inverse_row is;
        some =
            let some = row_some (present_count (table, before)) table before after bytes.before bytes.after old.there new.there refl within old.encodes new.encodes h.some in
            omega (arith, some, length-append others.before others.after, ap length by.after);
      },
      subst HasOldColumns is
          (covers_within table (first_bits before old.there.0) (first_bits after new.there.0) olds.mid news.mid [] [] old.there.1 new.there.1 refl within olds.spelled news.spelled),
    )

ok_not_refused : {A B E : Type 0} (view : A → B) (kind : E → RowsErrorKind) (read : Read A) (x : A × List ℕ) (r : Result (B × List ℕ) E) (e : E) → Agrees view kind read r
    → read ≡ Ok x → r ≡ Err e → ⊥
ok_not_refused view kind (Ok y) x (Ok z) e h p q = cc
ok_not_refused view kind (Ok y) x (Err d) e h p q = h
ok_not_refused view kind (Err d) x r e h p q = cc

-- An image that is encoded can be read.
pub never_refused : (shape : ImageShape) (w : List ℕ) (o : Option (Bitmap × List Cell)) → Encodes (image_if (Some shape)) w o → IsFault (image_at shape w) → ⊥
never_refused shape w o h fault =
    let x = has_image shape w o h in
    let is : (image shape).spells w x.there [] = subst (λ (s : List ℕ). (image shape).spells s x.there []) (append-nil w) (x.encodes []) in
    ok_not_refused _ _ ((image shape).reads w) (x.there, []) (image_at shape w) fault.error (image_agrees shape w) ((image shape).keeps.complete w x.there [] is) fault.is
