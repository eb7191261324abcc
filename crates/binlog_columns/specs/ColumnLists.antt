-- The metadata of a table's columns as one format.
use Rattle.std.proofs.Common.{◌≡◌, ℕ, suc, List, [], ◌∷◌, None, Ok, Err, refl, ap, ◌∙◌}
use Rattle.binlog_wire.specs.Reading.{Read, ◌>>=◌, read_as}
use Rattle.binlog_wire.specs.Formats.{Format, anywhere, silent, ◌⨾◌, made}
use Rattle.binlog_columns.specs.Metadata.{Typed, column}
use Rattle.binlog_columns.specs.Refusals.{refused_or, refusal, given_and, columns_in}
use Rattle.binlog_columns.specs.declared.column_type.ColumnType.TheVariants.{MYSQL_TYPE_NULL}

-- The first column, and the others.
abbrev pub split_columns : List Typed → Typed × List Typed
split_columns [] = ((MYSQL_TYPE_NULL, 0), [])
split_columns (first ∷ others) = (first, others)

-- The metadata of columns of these types, one after the other.
abbrev pub columns : List ℕ → Format anywhere (List Typed)
columns [] = silent []
columns (number ∷ types) = made {A = Typed × List Typed} (λ x. x.0 ∷ x.1) split_columns (column number ⨾ columns types) (λ s a r h. refl) (λ _. refl)

whole_by : (i : ℕ) (read : Read Typed) (types : List ℕ)
    → ((m : List ℕ) → refusal (suc i) types m ≡ None → (columns types).reads m ≡ Ok (columns_in types m, []))
    → refused_or i read (refusal (suc i) types) ≡ None
    → read_as (λ (x : Typed × List Typed). x.0 ∷ x.1) (read >>= λ a. (columns types).reads a.1 >>= λ b. Ok ((a.0, b.0), b.1)) ≡ Ok (given_and read (columns_in types), [])
whole_by i (Ok x) types ih h = rw (ih x.1 h) refl
whole_by i (Err d) types ih h = absurd cc

-- If no column is refused and no bytes are left, the columns are the result of reading the metadata.
pub whole_read : (i : ℕ) (types m : List ℕ) → refusal i types m ≡ None → (columns types).reads m ≡ Ok (columns_in types m, [])
whole_read i [] [] h = refl
whole_read i [] (byte ∷ m) h = absurd cc
whole_read i (number ∷ types) m h = whole_by i ((column number).reads m) types (λ m. whole_read (suc i) types m) h

-- The first column, and those that are read after it.
abbrev more : Typed → Read (List Typed) → Read (List Typed)
more first (Ok b) = Ok (first ∷ b.0, b.1)
more first (Err d) = Err d

rest_by : (i : ℕ) (x : Typed × List ℕ) (types : List ℕ) (cs : List Typed) (rest : Read (List Typed)) → (columns types).reads x.1 ≡ rest
    → ((m : List ℕ) (ds : List Typed) → (columns types).reads m ≡ Ok (ds, []) → refusal (suc i) types m ≡ None)
    → more x.0 rest ≡ Ok (cs, []) → refusal (suc i) types x.1 ≡ None
rest_by i x types cs (Ok b) is ih h =
    let pairs : ◌≡◌ {A = List Typed × List ℕ} (x.0 ∷ b.0, b.1) (cs, []) = cc in
    let none : b.1 ≡ [] = ap (λ (p : List Typed × List ℕ). p.1) pairs in
    let whole : ◌≡◌ {A = Read (List Typed)} (Ok b) (Ok (b.0, [])) = ap (λ (r : List ℕ). Ok (b.0, r)) none in
    ih x.1 b.0 (is ∙ whole)
rest_by i x types cs (Err d) is ih h = absurd cc

same_rest : (x : Typed × List ℕ) (rest : Read (List Typed)) (y : Read (List Typed))
    → read_as (λ (x : Typed × List Typed). x.0 ∷ x.1) (rest >>= λ b. Ok ((x.0, b.0), b.1)) ≡ y → more x.0 rest ≡ y
same_rest x (Ok b) y h = h
same_rest x (Err d) y h = h

none_read_by : (i : ℕ) (read : Read Typed) (types : List ℕ) (cs : List Typed)
    → ((m : List ℕ) (ds : List Typed) → (columns types).reads m ≡ Ok (ds, []) → refusal (suc i) types m ≡ None)
    → read_as (λ (x : Typed × List Typed). x.0 ∷ x.1) (read >>= λ a. (columns types).reads a.1 >>= λ b. Ok ((a.0, b.0), b.1)) ≡ Ok (cs, [])
    → refused_or i read (refusal (suc i) types) ≡ None
none_read_by i (Ok x) types cs ih h = rest_by i x types cs ((columns types).reads x.1) refl ih (same_rest x ((columns types).reads x.1) (Ok (cs, [])) h)
none_read_by i (Err d) types cs ih h = absurd cc

empty_read : (i : ℕ) (m : List ℕ) (cs : List Typed) → ◌≡◌ {A = Read (List Typed)} (Ok ([], m)) (Ok (cs, [])) → refusal i [] m ≡ None
empty_read i [] cs h = refl
empty_read i (byte ∷ m) cs h =
    let pairs : ◌≡◌ {A = List Typed × List ℕ} ([], byte ∷ m) (cs, []) = cc in
    let none : byte ∷ m ≡ [] = ap (λ (p : List Typed × List ℕ). p.1) pairs in
    absurd cc

-- If the metadata is read as columns, and no bytes are left, no column is refused.
pub read_whole : (i : ℕ) (types m : List ℕ) (cs : List Typed) → (columns types).reads m ≡ Ok (cs, []) → refusal i types m ≡ None
read_whole i [] m cs h = empty_read i m cs h
read_whole i (number ∷ types) m cs h = none_read_by i ((column number).reads m) types cs (λ m ds. read_whole (suc i) types m ds) h
