-- The bytes of a row are those of no other one.
use Rattle.std.proofs.Common.{◌≡◌, ◌==◌, ℕ, ◌+◌, ◌<◌, ◌≤◌, Bool, true, false, cond, List, [], ◌∷◌, ◌++◌, length, map, drop, get_or, refl, sym, ap, subst, ◌∙◌, append_assoc, append-nil, arith, add-one, drop-cons, drop_of_length-le, eqb-true}
use Rattle.binlog_images.specs.StoredColumns.{Stored, absent, null, value, column_of}
use Rattle.binlog_images.specs.declared.stored_columns.StoredColumn.{StoredColumn}
use Rattle.binlog_images.specs.declared.stored_columns.StoredColumn.TheVariants.{Absent}
use Rattle.change_statistics.specs.Facts.{Name}
use Rattle.binlog_later_changes.specs.RowKeys.{Values, byte_code, escaped, column_code, row_code, name_code, key_code}

cons_parts : (a b : ℕ) (s t : List ℕ) → a ∷ s ≡ b ∷ t → (a ≡ b) × (s ≡ t)
cons_parts a b s t e = (cc, cc)

differ : (a b : ℕ) (s t : List ℕ) → a ∷ s ≡ b ∷ t → (a ≡ b → ⊥) → ⊥
differ a b s t e apart = apart (cons_parts a b s t e).0

-- ---- a text

abbrev coded : Bool → ℕ → List ℕ
coded is_zero b = cond is_zero (0 ∷ 1 ∷ []) (b ∷ [])

is_zero_byte : (b : ℕ) → 0 ≡ b → (b == 0) ≡ true
is_zero_byte b e = sym (ap (λ (k : ℕ). k == 0) e)

byte_parts : (b c : ℕ) (s t : List ℕ) → byte_code b ++ s ≡ byte_code c ++ t → (b ≡ c) × (s ≡ t)
byte_parts b c s t e = by (b == 0) (c == 0) refl refl
  where
    by : (x y : Bool) → (b == 0) ≡ x → (c == 0) ≡ y → (b ≡ c) × (s ≡ t)
    by true true p q =
        let both : coded true b ++ s ≡ coded true c ++ t = sym (ap (λ (z : Bool). coded z b ++ s) p) ∙ e ∙ ap (λ (z : Bool). coded z c ++ t) q in
        let behind = cons_parts 0 0 (1 ∷ s) (1 ∷ t) both in
        let rest = cons_parts 1 1 s t behind.1 in
        (eqb-true b 0 p ∙ sym (eqb-true c 0 q), rest.1)
    by true false p q =
        let both : coded true b ++ s ≡ coded false c ++ t = sym (ap (λ (z : Bool). coded z b ++ s) p) ∙ e ∙ ap (λ (z : Bool). coded z c ++ t) q in
        let parts = cons_parts 0 c (1 ∷ s) t both in
        let bad : true ≡ false = sym (is_zero_byte c parts.0) ∙ q in
        absurd cc
    by false true p q =
        let both : coded false b ++ s ≡ coded true c ++ t = sym (ap (λ (z : Bool). coded z b ++ s) p) ∙ e ∙ ap (λ (z : Bool). coded z c ++ t) q in
        let parts = cons_parts b 0 s (1 ∷ t) both in
        let bad : true ≡ false = sym (is_zero_byte b (sym parts.0)) ∙ p in
        absurd cc
    by false false p q =
        let both : coded false b ++ s ≡ coded false c ++ t = sym (ap (λ (z : Bool). coded z b ++ s) p) ∙ e ∙ ap (λ (z : Bool). coded z c ++ t) q in
        cons_parts b c s t both

-- No byte of a text is its end.
no_end : (b : ℕ) (s t : List ℕ) → 0 ∷ 0 ∷ s ≡ byte_code b ++ t → ⊥
no_end b s t e = by (b == 0) refl
  where
    by : (x : Bool) → (b == 0) ≡ x → ⊥
    by true p =
        let both : 0 ∷ 0 ∷ s ≡ 0 ∷ 1 ∷ t = e ∙ ap (λ (z : Bool). coded z b ++ t) p in
        let behind = cons_parts 0 0 (0 ∷ s) (1 ∷ t) both in
        differ 0 1 s t behind.1 (λ h. omega arith)
    by false p =
        let both : 0 ∷ 0 ∷ s ≡ b ∷ t = e ∙ ap (λ (z : Bool). coded z b ++ t) p in
        let parts = cons_parts 0 b (0 ∷ s) t both in
        let bad : true ≡ false = sym (is_zero_byte b parts.0) ∙ p in
        absurd cc

escaped_parts : (s t r u : List ℕ) → escaped s ++ r ≡ escaped t ++ u → (s ≡ t) × (r ≡ u)
escaped_parts [] [] r u e =
    let behind = cons_parts 0 0 (0 ∷ r) (0 ∷ u) e in
    (refl, (cons_parts 0 0 r u behind.1).1)
escaped_parts [] (c ∷ t) r u e = absurd (no_end c r (escaped t ++ u) (e ∙ append_assoc (byte_code c) (escaped t) u))
escaped_parts (b ∷ s) [] r u e = absurd (no_end b u (escaped s ++ r) (sym e ∙ append_assoc (byte_code b) (escaped s) r))
escaped_parts (b ∷ s) (c ∷ t) r u e =
    let parts = byte_parts b c (escaped s ++ r) (escaped t ++ u) (sym (append_assoc (byte_code b) (escaped s) r) ∙ e ∙ append_assoc (byte_code c) (escaped t) u) in
    let rest = escaped_parts s t r u parts.1 in
    (ap (λ (x : ℕ). x ∷ s) parts.0 ∙ ap (λ (l : List ℕ). c ∷ l) rest.0, rest.1)

-- ---- a row

column_parts : (c d : Stored) (s t : List ℕ) → column_code c ++ s ≡ column_code d ++ t → (c ≡ d) × (s ≡ t)
column_parts absent absent s t e = (refl, (cons_parts 0 0 s t e).1)
column_parts absent null s t e = absurd (differ 0 1 s t e (λ h. omega arith))
column_parts absent (value y) s t e = absurd (differ 0 2 s (escaped y ++ t) e (λ h. omega arith))
column_parts null absent s t e = absurd (differ 1 0 s t e (λ h. omega arith))
column_parts null null s t e = (refl, (cons_parts 1 1 s t e).1)
column_parts null (value y) s t e = absurd (differ 1 2 s (escaped y ++ t) e (λ h. omega arith))
column_parts (value x) absent s t e = absurd (differ 2 0 (escaped x ++ s) t e (λ h. omega arith))
column_parts (value x) null s t e = absurd (differ 2 1 (escaped x ++ s) t e (λ h. omega arith))
column_parts (value x) (value y) s t e =
    let parts = escaped_parts x y s t (cons_parts 2 2 (escaped x ++ s) (escaped y ++ t) e).1 in
    (ap (λ (v : List ℕ). value v) parts.0, parts.1)

some_column : (c : Stored) (s : List ℕ) → [] ≡ column_code c ++ s → ⊥
some_column absent s e = absurd cc
some_column null s e = absurd cc
some_column (value x) s e = absurd cc

row_injective : (row other : Values) → row_code row ≡ row_code other → row ≡ other
row_injective [] [] e = refl
row_injective [] (d ∷ other) e = absurd (some_column d (row_code other) e)
row_injective (c ∷ row) [] e = absurd (some_column c (row_code row) (sym e))
row_injective (c ∷ row) (d ∷ other) e =
    let parts = column_parts c d (row_code row) (row_code other) e in
    ap (λ (x : Stored). x ∷ row) parts.0 ∙ ap (λ (l : Values). d ∷ l) (row_injective row other parts.1)

abbrev named : List ℕ → List ℕ → Name
named database table = record { database = database; table = table }

-- A key is that of one row of one table.
pub key_injective : (name other : Name) (row another : Values) → key_code name row ≡ key_code other another → (name ≡ other) × (row ≡ another)
key_injective name other row another e =
    let first = escaped_parts name.database other.database (escaped name.table ++ row_code row) (escaped other.table ++ row_code another)
    (sym (append_assoc (escaped name.database) (escaped name.table) (row_code row)) ∙ e ∙ append_assoc (escaped other.database) (escaped other.table) (row_code another)) in
    let second = escaped_parts name.table other.table (row_code row) (row_code another) first.1 in
    (ap (λ (s : List ℕ). named s name.table) first.0 ∙ ap (λ (s : List ℕ). named other.database s) second.0, row_injective row another second.1)

-- ---- loops

-- One byte more of a text.
pub escaped_more : (old new left others all : List ℕ) (byte : ℕ) → left ≡ byte ∷ others → new ≡ old ++ byte_code byte → old ++ escaped left ≡ all → new ++ escaped others ≡ all
escaped_more old new left others all byte split added same =
    ap (λ (l : List ℕ). l ++ escaped others) added ∙ append_assoc old (byte_code byte) (escaped others) ∙ ap (λ (l : List ℕ). old ++ escaped l) (sym split) ∙ same

pub escaped_end : (old new left all : List ℕ) → left ≡ [] → new ≡ old ++ (0 ∷ 0 ∷ []) → old ++ escaped left ≡ all → new ≡ all
escaped_end old new left all none added same = added ∙ ap (λ (l : List ℕ). old ++ escaped l) (sym none) ∙ same

-- One column more of a row.
pub columns_more : (i : ℕ) (columns : List StoredColumn) (column : StoredColumn) (old new all : List ℕ) → i < length columns → column ≡ get_or columns i Absent
    → new ≡ old ++ column_code (column_of column) → old ++ row_code (map column_of (drop i columns)) ≡ all → new ++ row_code (map column_of (drop (i + 1) columns)) ≡ all
columns_more i columns column old new all within is added same =
    let split : drop i columns ≡ column ∷ drop (i + 1) columns =
    drop-cons columns i Absent within ∙ ap (λ (k : ℕ). get_or columns i Absent ∷ drop k columns) (sym (add-one i)) ∙ ap (λ (x : StoredColumn). x ∷ drop (i + 1) columns) (sym is) in
    let rest : List ℕ = row_code (map column_of (drop (i + 1) columns)) in
    ap (λ (l : List ℕ). l ++ rest) added ∙ append_assoc old (column_code (column_of column)) rest ∙ ap (λ (l : List StoredColumn). old ++ row_code (map column_of l)) (sym split) ∙ same

pub columns_end : (i : ℕ) (columns : List StoredColumn) (code all : List ℕ) → length columns ≤ i → code ++ row_code (map column_of (drop i columns)) ≡ all → code ≡ all
columns_end i columns code all most same =
    sym (append-nil code) ∙ subst (λ (l : List StoredColumn). code ++ row_code (map column_of l) ≡ all) (drop_of_length-le columns {i = i} most) same
