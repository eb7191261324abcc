-- The columns of tables, as lines are added.
use Rattle.std.proofs.Common.{◌≡◌, ℕ, ◌+◌, ◌<◌, ◌&&◌, eqb, Bool, true, false, cond, List, [], ◌∷◌, ◌++◌, length, take, get_or, map, Option, None, Some, refl, sym, ap, subst, ◌∙◌, ◌⊎◌, ⊎_elim, inl, inr, arith, rules, tests}
use Rattle.std.proofs.lemmas.Bool.{eqb-true, eq-eqb, cases_Bool, cases_lt, cond-true, cond-false, false_from_ne_true}
use Rattle.std.proofs.lemmas.List.{map-append, append-nil, get_or_read, length-map, length_push}
use Rattle.std.proofs.lemmas.List.Elements.{filter_more}
use Rattle.std.proofs.lemmas.Map.Lookups.{exact_bytes}
use Rattle.std.proofs.lemmas.Map.Text.{is_eq-slice_cmp}
use Rattle.std.specs.BTreeMap.{BTreeMap, get_by, is_at, UpdatesBy}
use Rattle.std.specs.Cmp.Lexicographic.{slice_cmp}
use Rattle.std.specs.Global.{Vec}
use Rattle.std.specs.Map.{lookup, IsKeyTest, AreApart, KeepsOthers}
use Rattle.std.specs.Ordering.{is_eq, eq_by_cmp, nat_cmp, ordering_then}
use Rattle.std.specs.Str.{bytes_eq}
use Rattle.std.specs.declared.cmp.Ordering.{Ordering}
use Rattle.std.specs.declared.cmp.Ordering.TheVariants.{Less, Equal, Greater}
use Rattle.column_files.specs.Tables.{Described, described, described_by, is_of, lines_of, TableName, compare_names, columns_of, columns_named, AreTables, AddsColumn, IsInPlace, AreInPlace, IsMisplaced}
use Rattle.column_files.specs.declared.files.ColumnLine.{ColumnLine}
use Rattle.column_files.specs.declared.tables.DeclaredColumn.{DeclaredColumn}
use Rattle.column_files.specs.declared.tables.DeclaredTables.{DeclaredTables}

-- ---- names

both_equal : (o p : Ordering) → is_eq (ordering_then o p) ≡ is_eq o && is_eq p
both_equal Less p = refl
both_equal Equal p = refl
both_equal Greater p = refl

-- Names compare as equal exactly if they have the same bytes.
pub by_bytes : (schema table : List ℕ) (name : TableName) → is_at (compare_names schema table) name ≡ bytes_eq schema name.0.items && bytes_eq table name.1.items
by_bytes schema table name =
    rw (both_equal (slice_cmp nat_cmp schema name.0.items) (slice_cmp nat_cmp table name.1.items), is_eq-slice_cmp schema name.0.items, is_eq-slice_cmp table name.1.items) refl

is_equal : (o : Ordering) → is_eq o ≡ true → o ≡ Equal
is_equal Less e = absurd cc
is_equal Equal e = refl
is_equal Greater e = absurd cc

parts_equal : (o p : Ordering) → is_eq (ordering_then o p) ≡ true → (o ≡ Equal) × (p ≡ Equal)
parts_equal Less p e = absurd cc
parts_equal Equal p e = (refl, is_equal p e)
parts_equal Greater p e = absurd cc

same_names : (schema table other_schema other_table : List ℕ) → is_eq (ordering_then (slice_cmp nat_cmp schema other_schema) (slice_cmp nat_cmp table other_table)) ≡ true
    → (schema ≡ other_schema) × (table ≡ other_table)
same_names schema table other_schema other_table e =
    let parts = parts_equal (slice_cmp nat_cmp schema other_schema) (slice_cmp nat_cmp table other_table) e in
    (exact_bytes schema other_schema parts.0, exact_bytes table other_table parts.1)

-- How names compare, as a map of them is ordered.
abbrev pub name_cmp : TableName → TableName → Ordering
name_cmp name other = compare_names name.0.items name.1.items other

is_key_test : (schema table : List ℕ) → IsKeyTest (eq_by_cmp name_cmp) (is_at (compare_names schema table))
is_key_test schema table = λ name other e.
    let same = same_names schema table name.0.items name.1.items e in
    ap (λ (s : List ℕ). is_at (compare_names s table) other) same.0 ∙ ap (λ (t : List ℕ). is_at (compare_names name.0.items t) other) same.1

same_bytes : (schema table other_schema other_table : List ℕ) → bytes_eq schema other_schema && bytes_eq table other_table ≡ true → (schema ≡ other_schema) × (table ≡ other_table)
same_bytes schema table other_schema other_table e =
    same_names schema table other_schema other_table
    (rw (both_equal (slice_cmp nat_cmp schema other_schema) (slice_cmp nat_cmp table other_table), is_eq-slice_cmp schema other_schema, is_eq-slice_cmp table other_table) e)

bytes_of_itself : (schema table : List ℕ) → bytes_eq schema schema && bytes_eq table table ≡ true
bytes_of_itself schema table = search (rules, tests)

are_apart : (schema table other_schema other_table : List ℕ) → bytes_eq schema other_schema && bytes_eq table other_table ≡ false → AreApart (is_at (compare_names schema table)) (is_at (compare_names other_schema other_table))
are_apart schema table other_schema other_table differ = λ name e. false_from_ne_true (is_at (compare_names other_schema other_table) name) (λ yes.
    let here = same_names schema table name.0.items name.1.items e in
    let there = same_names other_schema other_table name.0.items name.1.items yes in
    let schemas : schema ≡ other_schema = here.0 ∙ sym there.0 in
    let tables : table ≡ other_table = here.1 ∙ sym there.1 in
    let same = subst (λ (s : List ℕ). bytes_eq schema s && bytes_eq table other_table ≡ true) schemas
    (subst (λ (t : List ℕ). bytes_eq schema schema && bytes_eq table t ≡ true) tables (bytes_of_itself schema table)) in
    absurd cc)

module _ {K : Type 0} (eq : K → K → Bool) (test : K → Bool) where
  other_entries : {X : Type 0} (old new : List (K × X)) → KeepsOthers eq test old new → (other : K → Bool) → IsKeyTest eq other → AreApart test other → lookup other new ≡ lookup other old
  unfolding KeepsOthers
  other_entries old new h = h

-- What a change at a name leaves at any names.
pub updates_name : {X : Type 0} (m n : BTreeMap TableName X) (schema table : List ℕ) (w : Option X) → UpdatesBy name_cmp (compare_names schema table) m n w → (other_schema other_table : List ℕ)
    → get_by (compare_names other_schema other_table) n ≡ cond (bytes_eq schema other_schema && bytes_eq table other_table) w (get_by (compare_names other_schema other_table) m)
updates_name m n schema table w h other_schema other_table =
    let is_same = bytes_eq schema other_schema && bytes_eq table other_table in
    ⊎_elim
    (λ y. let same = same_bytes schema table other_schema other_table y in
    ap (λ (s : List ℕ). get_by (compare_names s other_table) n) (sym same.0) ∙ ap (λ (t : List ℕ). get_by (compare_names schema t) n) (sym same.1) ∙ h.1
    ∙ sym (cond-true is_same w (get_by (compare_names other_schema other_table) m) y))
    (λ differ. other_entries (eq_by_cmp name_cmp) (is_at (compare_names schema table)) m.entries n.entries h.3 (is_at (compare_names other_schema other_table)) (is_key_test other_schema other_table)
    (are_apart schema table other_schema other_table differ) ∙ sym (cond-false is_same w (get_by (compare_names other_schema other_table) m) differ))
    (cases_Bool is_same)

-- ---- one column more

-- The columns at names, by whether they are those of the line.
at_name : (is_same : Bool) (before : Option (Vec DeclaredColumn)) (columns : Vec DeclaredColumn) (old : List Described) (column : Described) → (is_same ≡ true → map described columns.items ≡ old ++ column ∷ [])
    → old ≡ columns_of before → columns_of (cond is_same (Some columns) before) ≡ cond is_same (old ++ column ∷ []) old
at_name true before columns old column same is = same refl
at_name false before columns old column same is = sym is

without : (is_same : Bool) (columns : Vec DeclaredColumn) (before : Option (Vec DeclaredColumn)) → cond is_same (Some columns) (cond is_same None before) ≡ cond is_same (Some columns) before
without true columns before = refl
without false columns before = refl

-- The columns of a table were taken out of the map, and put back with one more.
pub adds_column : (old mid new : DeclaredTables) (schema table : List ℕ) (line : ColumnLine) (columns : Vec DeclaredColumn) → schema ≡ line.schema → table ≡ line.table
    → ((s t : List ℕ) → get_by (compare_names s t) mid.tables ≡ cond (bytes_eq schema s && bytes_eq table t) None (get_by (compare_names s t) old.tables))
    → ((s t : List ℕ) → get_by (compare_names s t) new.tables ≡ cond (bytes_eq schema s && bytes_eq table t) (Some columns) (get_by (compare_names s t) mid.tables))
    → map described columns.items ≡ columns_named old schema table ++ described_by line ∷ [] → AddsColumn old new line
adds_column old mid new schema table line columns of_schema of_table taken put are s t =
    let is_same = bytes_eq schema s && bytes_eq table t in
    let before = get_by (compare_names s t) old.tables in
    let found : get_by (compare_names s t) new.tables ≡ cond is_same (Some columns) before =
    put s t ∙ ap (λ (x : Option (Vec DeclaredColumn)). cond is_same (Some columns) x) (taken s t) ∙ without is_same columns before in
    let same : is_same ≡ true → map described columns.items ≡ columns_named old s t ++ described_by line ∷ [] =
    λ e. let names = same_bytes schema table s t e in
    are ∙ ap (λ (x : List ℕ). columns_named old x table ++ described_by line ∷ []) names.0 ∙ ap (λ (x : List ℕ). columns_named old s x ++ described_by line ∷ []) names.1 in
    let by_line : is_same ≡ is_of s t line = ap (λ (x : List ℕ). bytes_eq x s && bytes_eq table t) of_schema ∙ ap (λ (x : List ℕ). bytes_eq line.schema s && bytes_eq x t) of_table in
    ap columns_of found ∙ at_name is_same before columns (columns_named old s t) (described_by line) same refl
    ∙ ap (λ (b : Bool). cond b (columns_named old s t ++ described_by line ∷ []) (columns_named old s t)) by_line

-- What was taken with one column more.
pub pushed : (taken columns : List DeclaredColumn) (column : DeclaredColumn) (before : List Described) (line : ColumnLine) → columns ≡ taken ++ column ∷ [] → map described taken ≡ before
    → described column ≡ described_by line → map described columns ≡ before ++ described_by line ∷ []
pushed taken columns column before line is are of_line =
    ap (λ (cs : List DeclaredColumn). map described cs) is ∙ map-append described taken (column ∷ []) ∙ ap (λ (ds : List Described). ds ++ described column ∷ []) are
    ∙ ap (λ (d : Described). before ++ d ∷ []) of_line

-- The names of a table as those of a line.
pub renamed : (old : DeclaredTables) (schema table other_schema other_table : List ℕ) → schema ≡ other_schema → table ≡ other_table → columns_named old schema table ≡ columns_named old other_schema other_table
renamed old schema table other_schema other_table schemas tables = ap (λ (s : List ℕ). columns_named old s table) schemas ∙ ap (λ (t : List ℕ). columns_named old other_schema t) tables

-- ---- lines

one_more : (is_same : Bool) (line : ColumnLine) (lines : List ColumnLine)
    → cond is_same (map described_by lines ++ described_by line ∷ []) (map described_by lines) ≡ map described_by (lines ++ cond is_same (line ∷ []) [])
one_more true line lines = sym (map-append described_by lines (line ∷ []))
one_more false line lines = ap (λ (ls : List ColumnLine). map described_by ls) (sym (append-nil lines))

-- The tables with the line with this index.
pub tables_more : (lines : List ColumnLine) (index : ℕ) (line : ColumnLine) (old new : DeclaredTables) → index < length lines → line ≡ get_or lines index line → AreTables (take index lines) old
    → AddsColumn old new line → AreTables (take (index + 1) lines) new
tables_more lines index line old new within is are adds schema table =
    let is_same = is_of schema table line in
    adds schema table ∙ ap (λ (columns : List Described). cond is_same (columns ++ described_by line ∷ []) columns) (are schema table) ∙ one_more is_same line (lines_of schema table (take index lines))
    ∙ ap (λ (ls : List ColumnLine). map described_by ls)
    (sym (filter_more (is_of schema table) lines index line within ∙ ap (λ (l : ColumnLine). lines_of schema table (take index lines) ++ cond (is_of schema table l) (l ∷ []) []) (sym is)))

earlier_or_same : (i n : ℕ) → i < n + 1 → (i < n) ⊎ (i ≡ n)
earlier_or_same i n below = ⊎_elim (λ less. inl less) (λ past. inr (omega (arith, below, past))) (cases_lt i n)

-- The line with this index is in place, too.
pub in_place_more : (lines : List ColumnLine) (index : ℕ) (line : ColumnLine) → index < length lines → line ≡ get_or lines index line → AreInPlace lines index → IsInPlace lines index line
    → AreInPlace lines (index + 1)
in_place_more lines index line within is before here = λ other none below.
    ⊎_elim (λ earlier. before other none earlier)
    (λ same. subst (λ (i : ℕ). IsInPlace lines i (get_or lines i none)) (sym same) (subst (λ (l : ColumnLine). IsInPlace lines index l) (get_or_read lines index line within is none) here))
    (earlier_or_same other index below)

-- The first line that isn't in place.
pub misplaced_here : (lines : List ColumnLine) (index : ℕ) (line : ColumnLine) → index < length lines → line ≡ get_or lines index line → AreInPlace lines index → (IsInPlace lines index line → ⊥)
    → IsMisplaced lines index
misplaced_here lines index line within is before elsewhere = record {
  within = within;
  before = before;
  misplaced = λ none here. elsewhere (subst (λ (l : ColumnLine). IsInPlace lines index l) (sym (get_or_read lines index line within is none)) here);
}

-- The columns of the table of a line are as many as its lines.
pub counted : (lines : List ColumnLine) (old : DeclaredTables) (schema table : List ℕ) → AreTables lines old → length (columns_named old schema table) ≡ length (lines_of schema table lines)
counted lines old schema table are = ap (λ (columns : List Described). length columns) (are schema table) ∙ length-map (lines_of schema table lines) described_by

-- What the test of a position says.
pub next_is : (position count others : ℕ) (is_next : Bool) → is_next ≡ eqb position (count + 1) → is_next ≡ true → count ≡ others → position ≡ others + 1
next_is position count others is_next test holds same = eqb-true position (count + 1) (sym test ∙ holds) ∙ ap (λ (n : ℕ). n + 1) same

pub next_is_not : (position count others : ℕ) (is_next : Bool) → is_next ≡ eqb position (count + 1) → is_next ≡ false → count ≡ others → position ≡ others + 1 → ⊥
next_is_not position count others is_next test isnt same is =
    let holds : eqb position (count + 1) ≡ true = eq-eqb position (count + 1) (is ∙ ap (λ (n : ℕ). n + 1) (sym same)) in
    let both : false ≡ true = sym isnt ∙ test ∙ holds in
    absurd cc

-- The test of a position, by the number of columns with the one that is added.
pub same_next : (position count : ℕ) (taken columns : List DeclaredColumn) (column : DeclaredColumn) (before : List Described) → map described taken ≡ before → columns ≡ taken ++ column ∷ []
    → count ≡ length columns → eqb position count ≡ eqb position (length before + 1)
same_next position count taken columns column before are is counts =
    ap (λ (n : ℕ). eqb position n)
    (counts ∙ ap (λ (cs : List DeclaredColumn). length cs) is ∙ length_push taken column
    ∙ ap (λ (n : ℕ). n + 1) (sym (length-map taken described) ∙ ap (λ (ds : List Described). length ds) are))
