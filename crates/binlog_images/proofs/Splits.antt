-- The bytes of an event split into rows in one way, and an iteration gives these rows.
use Rattle.std.proofs.Common.{◌≡◌, ℕ, zero, suc, ◌+◌, ◌<◌, ◌≤◌, Bool, true, false, List, [], ◌∷◌, length, map, None, Result, Ok, Err, refl, sym, ap, subst, ◌∙◌, arith}
use Rattle.std.specs.Prelude.{nat_lt, if◌then◌else◌}
use Rattle.std.specs.Iterator.{Yields, Drains}
use Rattle.std.proofs.lemmas.Bool.{ltb-true}
use Rattle.binlog_wire.specs.Fields.{IsBytes}
use Rattle.binlog_wire.specs.Reading.{Read}
use Rattle.binlog_wire.specs.Formats.{Format, anywhere}
use Rattle.binlog_images.specs.Cells.{RowShape, RowsShape, shape_as, whole, partial, RowCells, row, partial_row, cells_in_row, cells_in_partial_row, IsRow, IsRowAs}
use Rattle.binlog_images.specs.Splits.{row_at, left_over, if_taken, first_row, AreRows}
use Rattle.binlog_images.specs.RowCells.{row_cells, answer_row}
use Rattle.binlog_images.specs.RowsLeft.{row_shape, GivesRow}
use Rattle.binlog_images.specs.Agreement.{Agrees}
use Rattle.binlog_images.specs.declared.row.Row.{Row}
use Rattle.binlog_images.specs.declared.rows.Rows.{Rows}
use Rattle.binlog_images.specs.declared.rows_error.RowsError.{RowsError}
use Rattle.binlog_images.proofs.Agreement.{row_agrees, partial_row_agrees}
use Rattle.binlog_images.proofs.Taking.{row_taken}

abbrev Taken : Type 0
Taken = Result (RowCells × List ℕ) RowsError

taken_by : (index len : ℕ) (x y : RowCells × List ℕ) (t : Bool) → nat_lt (length x.1) len ≡ t → ◌≡◌ {A = Taken} (if t then Ok x else Err (left_over index)) (Ok y)
    → (◌≡◌ {A = Taken} (Ok x) (Ok y)) × (length y.1 < len)
taken_by index len x y true is h =
    let same : x ≡ y = cc in
    (h, subst (λ (z : RowCells × List ℕ). length z.1 < len) same (ltb-true (length x.1) len is))
taken_by index len x y false is h = absurd cc

-- A row that is taken was read, and took bytes.
pub taken_ok : (index len : ℕ) (r : Taken) (y : RowCells × List ℕ) → if_taken index len r ≡ Ok y → (r ≡ Ok y) × (length y.1 < len)
taken_ok index len (Ok x) y h = taken_by index len x y (nat_lt (length x.1) len) refl h
taken_ok index len (Err e) y h = absurd cc

-- What is read with its place is read by the format.
read_ok : {S : Type 0} (view : S → RowCells) (read : Read S) (r : Taken) (y : RowCells × List ℕ) → Agrees view (λ (e : RowsError). e.kind) read r → r ≡ Ok y
    → (x : S) × (read ≡ Ok (x, y.1)) × (view x ≡ y.0)
read_ok view (Ok x) (Ok z) y h e =
    let same : z ≡ y = cc in
    let all : ◌≡◌ {A = RowCells × List ℕ} (view x.0, x.1) y = h ∙ same in
    (x.0, ap (λ (p : RowCells × List ℕ). Ok (x.0, p.1)) all, ap (λ (p : RowCells × List ℕ). p.0) all)
read_ok view (Ok x) (Err d) y h e = absurd h
read_ok view (Err d) (Ok z) y h e = absurd h
read_ok view (Err d) (Err f) y h e = absurd cc

-- What the format reads is read with its place.
placed_ok : {S : Type 0} (view : S → RowCells) (read : Read S) (r : Taken) (x : S) (rest : List ℕ) → Agrees view (λ (e : RowsError). e.kind) read r → read ≡ Ok (x, rest)
    → r ≡ Ok (view x, rest)
placed_ok {S} view (Ok z) (Ok y) x rest h e =
    let same : ◌≡◌ {A = S × List ℕ} z (x, rest) = cc in
    ap (λ (p : RowCells × List ℕ). Ok p) (sym h ∙ ap (λ (p : S × List ℕ). (view p.0, p.1)) same)
placed_ok view (Ok z) (Err d) x rest h e = absurd h
placed_ok view (Err d) (Ok y) x rest h e = absurd cc
placed_ok view (Err d) (Err f) x rest h e = absurd cc

-- What is read with its place is spelled.
spelled_by : {S : Type 0} (f : Format anywhere S) (view : S → RowCells) (s : List ℕ) (r : Taken) (y : RowCells × List ℕ) → IsBytes s
    → Agrees view (λ (e : RowsError). e.kind) (f.reads s) r → r ≡ Ok y → ((x : S) × f.spells s x y.1 × (view x ≡ y.0)) × IsBytes y.1
spelled_by f view s r y bytes agree is =
    let read = read_ok view (f.reads s) r y agree is in
    let spelled = f.keeps.sound s (read.0, y.1) bytes read.1 in
    ((read.0, spelled.0, read.2), spelled.1)

-- What is spelled is read with its place.
taken_by_spelling : {S : Type 0} (f : Format anywhere S) (view : S → RowCells) (s : List ℕ) (r : Taken) (x : S) (rest : List ℕ) (cells : RowCells)
    → Agrees view (λ (e : RowsError). e.kind) (f.reads s) r → f.spells s x rest → view x ≡ cells → r ≡ Ok (cells, rest)
taken_by_spelling f view s r x rest cells agree spelled same =
    let placed : r ≡ Ok (view x, rest) = placed_ok view (f.reads s) r x rest agree (f.keeps.complete s x rest spelled) in
    let moved : ◌≡◌ {A = Taken} (Ok (view x, rest)) (Ok (cells, rest)) = ap (λ (c : RowCells). Ok (c, rest)) same in
    placed ∙ moved

is_row_as : (index : ℕ) (is_partial : Bool) (images : RowShape) (s : List ℕ) (y : RowCells × List ℕ) → IsBytes s → row_at index (shape_as is_partial images) s ≡ Ok y
    → IsRowAs is_partial images s y.0 y.1 × IsBytes y.1
is_row_as index false images s y bytes is = spelled_by (row images) cells_in_row s (row_at index (whole images) s) y bytes (row_agrees index images s) is
is_row_as index true images s y bytes is =
    spelled_by (partial_row images) cells_in_partial_row s (row_at index (partial images) s) y bytes (partial_row_agrees index images s) is

-- A row that is taken is one.
pub is_row : (index : ℕ) (shape : RowsShape) (s : List ℕ) (y : RowCells × List ℕ) → IsBytes s → row_at index shape s ≡ Ok y → IsRow shape s y.0 y.1 × IsBytes y.1
is_row index shape s y bytes is = is_row_as index shape.is_partial shape.images s y bytes is

row_is_taken_as : (index : ℕ) (is_partial : Bool) (images : RowShape) (s r : List ℕ) (cells : RowCells) → IsRowAs is_partial images s cells r
    → row_at index (shape_as is_partial images) s ≡ Ok (cells, r)
row_is_taken_as index false images s r cells h = taken_by_spelling (row images) cells_in_row s (row_at index (whole images) s) h.0 r cells (row_agrees index images s) h.1 h.2
row_is_taken_as index true images s r cells h =
    taken_by_spelling (partial_row images) cells_in_partial_row s (row_at index (partial images) s) h.0 r cells (partial_row_agrees index images s) h.1 h.2

-- A row is taken.
row_is_taken : (index : ℕ) (shape : RowsShape) (s r : List ℕ) (cells : RowCells) → IsRow shape s cells r → row_at index shape s ≡ Ok (cells, r)
row_is_taken index shape s r cells h = row_is_taken_as index shape.is_partial shape.images s r cells h

-- Rows that are spelled are the first that are given.
first_spelled : (index : ℕ) (shape : RowsShape) (s r : List ℕ) (cells : RowCells) → IsRow shape s cells r → length r < length s → first_row index shape s ≡ Ok (cells, r)
first_spelled index shape s r cells spelled less = row_taken index shape s r cells (row_is_taken index shape s r cells spelled) less

-- Nothing comes after all bytes were taken.
nothing_more : (items : List (Result Row RowsError)) (rows end : Rows) → rows.rest.now ≡ [] → Yields GivesRow rows items end → map answer_row items ≡ []
nothing_more [] rows end none h = refl
nothing_more (Ok r ∷ items) rows end none h =
    let taken = taken_ok rows.row (length rows.rest.now) (row_at rows.row (row_shape rows) rows.rest.now) (row_cells r, h.0.rest.now) h.1.0 in
    absurd (omega (arith, taken.1, ap length none))
nothing_more (Err e ∷ items) rows end none h = absurd (h.1.0 none)

given_by : (items : List (Result Row RowsError)) (rows end last : Rows) → IsBytes rows.rest.now → Yields GivesRow rows items end → GivesRow end None last
    → AreRows (row_shape rows) rows.row rows.rest.now (map answer_row items)
given_by [] rows end last bytes same ends = ap (λ (r : Rows). r.rest.now) same ∙ ends.0
given_by (Ok r ∷ items) rows end last bytes h ends =
    let shape = row_shape rows in
    let s = rows.rest.now in
    let next = h.0 in
    let taken = taken_ok rows.row (length s) (row_at rows.row shape s) (row_cells r, next.rest.now) h.1.0 in
    let spelled = is_row rows.row shape s (row_cells r, next.rest.now) bytes taken.0 in
    let more : AreRows (row_shape next) next.row next.rest.now (map answer_row items) = given_by items next end last spelled.1 h.2 ends in (
      next.rest.now,
      spelled.0,
      taken.1,
      subst (λ (p : RowsShape). AreRows p (rows.row + 1) next.rest.now (map answer_row items)) h.1.2
          (subst (λ (n : ℕ). AreRows (row_shape next) n next.rest.now (map answer_row items)) h.1.1 more),
    )
given_by (Err e ∷ items) rows end last bytes h ends = (h.1.0, h.1.1, nothing_more items h.0 end h.1.2 h.2)

-- The items of a whole iteration are the rows of its bytes.
pub given_are_rows : (rows : Rows) (items : List (Result Row RowsError)) → IsBytes rows.rest.now → Drains GivesRow rows items
    → AreRows (row_shape rows) rows.row rows.rest.now (map answer_row items)
given_are_rows rows items bytes h = given_by items rows h.1.0 h.0 bytes h.1.1 h.1.2

-- ---- one way

abbrev Items : Type 0
Items = List (Result RowCells RowsError)

both_given : (index : ℕ) (shape : RowsShape) (s r t : List ℕ) (a b : RowCells) → first_row index shape s ≡ Ok (a, r) → first_row index shape s ≡ Ok (b, t) → (a ≡ b) × (r ≡ t)
both_given index shape s r t a b p q =
    let same : ◌≡◌ {A = RowCells × List ℕ} (a, r) (b, t) = cc in
    (ap (λ (x : RowCells × List ℕ). x.0) same, ap (λ (x : RowCells × List ℕ). x.1) same)

-- Two lists of rows of the same bytes are the same list.
pub one_way : (xs ys : Items) (shape : RowsShape) (index : ℕ) (s : List ℕ) → AreRows shape index s xs → AreRows shape index s ys → xs ≡ ys
one_way [] [] shape index s p q = refl
one_way [] (Ok b ∷ ys) shape index s p q = absurd (omega (arith, q.2, ap length p))
one_way [] (Err e ∷ ys) shape index s p q = absurd (q.0 p)
one_way (Ok a ∷ xs) [] shape index s p q = absurd (omega (arith, p.2, ap length q))
one_way (Ok a ∷ xs) (Ok b ∷ ys) shape index s p q =
    let first = first_spelled index shape s p.0 a p.1 p.2 in
    let other = first_spelled index shape s q.0 b q.1 q.2 in
    let same = both_given index shape s p.0 q.0 a b first other in
    let rest : AreRows shape (index + 1) p.0 ys = subst (λ (r : List ℕ). AreRows shape (index + 1) r ys) (sym same.1) q.3 in
    let others : xs ≡ ys = one_way xs ys shape (index + 1) p.0 p.3 rest in
    let here : a ≡ b = same.0 in
    cc
one_way (Ok a ∷ xs) (Err e ∷ ys) shape index s p q =
    let first = first_spelled index shape s p.0 a p.1 p.2 in
    absurd (let refused = q.1 in cc)
one_way (Err e ∷ xs) [] shape index s p q = absurd (p.0 q)
one_way (Err e ∷ xs) (Ok b ∷ ys) shape index s p q =
    let first = first_spelled index shape s q.0 b q.1 q.2 in
    absurd (let refused = p.1 in cc)
one_way (Err e ∷ xs) (Err d ∷ ys) shape index s p q =
    let same : ◌≡◌ {A = Result (RowCells × List ℕ) RowsError} (Err e) (Err d) = sym p.1 ∙ q.1 in
    let none : xs ≡ [] = p.2 in
    let nothing : ys ≡ [] = q.2 in
    let here : e ≡ d = cc in
    cc

-- ---- some way

some_by : (n index : ℕ) (shape : RowsShape) (s : List ℕ) (r : Taken) → first_row index shape s ≡ r → ¬ (s ≡ []) → length s ≤ suc n → IsBytes s
    → ((i : ℕ) (m : List ℕ) → length m ≤ n → IsBytes m → (items : Items) × AreRows shape i m items) → (items : Items) × AreRows shape index s items
some_by n index shape s (Ok y) is some most bytes ih =
    let taken = taken_ok index (length s) (row_at index shape s) y is in
    let spelled = is_row index shape s y bytes taken.0 in
    let more = ih (index + 1) y.1 (omega (arith, taken.1)) spelled.1 in
    (Ok y.0 ∷ more.0, (y.1, spelled.0, taken.1, more.1))
some_by n index shape s (Err e) is some most bytes ih = (Err e ∷ [], (some, is, refl))

not_empty : (b : ℕ) (s : List ℕ) → ¬ (b ∷ s ≡ [])
not_empty b s h = cc

some_within : (n index : ℕ) (shape : RowsShape) (s : List ℕ) → length s ≤ n → IsBytes s → (items : Items) × AreRows shape index s items
some_within n index shape [] most bytes = ([], refl)
some_within zero index shape (b ∷ s) most bytes = absurd (omega arith)
some_within (suc n) index shape (b ∷ s) most bytes =
    some_by n index shape (b ∷ s) (first_row index shape (b ∷ s)) refl (not_empty b s) most bytes (λ i m. some_within n i shape m)

-- All bytes have rows.
pub some_way : (shape : RowsShape) (index : ℕ) (s : List ℕ) → IsBytes s → (items : Items) × AreRows shape index s items
some_way shape index s bytes = some_within (length s) index shape s (omega arith) bytes
