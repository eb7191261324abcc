-- Counts of rows by their keys, and of the rows themselves.
use Rattle.std.proofs.Common.{◌≡◌, ◌⊎◌, inl, inr, ℕ, zero, suc, ◌+◌, ◌-◌, ◌<◌, ◌||◌, Bool, true, false, not, cond, List, [], ◌∷◌, ◌++◌, map, reverse, take, Option, Some, None, Result, Ok, Err, OnOk, refl, sym, ap, subst, ◌∙◌, arith}
use Rattle.std.specs.Prelude.{unwrap_or, option_map, nat_lt, bytes_eq}
use Rattle.std.specs.List.{list_any}
use Rattle.std.specs.Map.{lookup, IsKeyTest, AreApart, KeepsOthers}
use Rattle.std.proofs.Math.Path.{fun_ext}
use Rattle.std.proofs.lemmas.Bool.{false_from_ne_true}
use Rattle.std.proofs.lemmas.List.{reverse-append}
use Rattle.std.proofs.lemmas.Slice.Eq.{bytes_eq-Decides}
use Rattle.indexmap.specs.IndexMap.{IndexMap, get_by, UpdatesBy}
use Rattle.change_statistics.specs.Facts.{Name}
use Rattle.change_statistics.specs.Names.{name_eq, is_named}
use Rattle.change_statistics.specs.declared.table_name.TableName.{TableName}
use Rattle.table_changes.specs.Changes.{State, IsWith}
use Rattle.table_changes.specs.Parts.{Lowers, nothing}
use Rattle.binlog_later_changes.specs.KeyedRows.{Keys, code_of, keys_in, keys_of, AreKeys, GivesKnown}
use Rattle.binlog_later_changes.specs.KnownRows.{RowImages}
use Rattle.binlog_later_changes.specs.RowKeys.{Values, key_code}
use Rattle.binlog_later_changes.specs.RowsLeft.{Counts, is_code, count_of, SetsCount, Sets, lowered, raised, SetsKeys, SetsAll, is_left_key, removes_key, state_of, tables_of, left_of, Left, nothing_left, LeavesRow, LeavesRows, NotesTable, SetsTable, Leaves, LeavesKeys, is_left, removes_left, is_apart, is_apart_by}
use Rattle.binlog_later_changes.specs.declared.known_rows.KeyedRow.{KeyedRow}
use Rattle.binlog_later_changes.specs.declared.row_key.RowKey.{RowKey}
use Rattle.binlog_later_changes.specs.declared.rows_left.RowsLeft.{RowsLeft}
use Rattle.change_statistics.proofs.NamedTables.{same_name}
use Rattle.binlog_later_changes.proofs.RowKeys.{key_injective}

same_code : (code other : List ℕ) → bytes_eq code other ≡ true → code ≡ other
same_code code other is = (bytes_eq-Decides code other).0 is

own_code : (code : List ℕ) → bytes_eq code code ≡ true
own_code code = (bytes_eq-Decides code code).1 refl

other_code : (code other : List ℕ) → (code ≡ other → ⊥) → bytes_eq code other ≡ false
other_code code other apart = false_from_ne_true (bytes_eq code other) (λ yes. apart (same_code code other yes))

-- No row is left, and no table is known.
pub none_yet : (rows : RowsLeft) → rows.counts.entries ≡ [] → rows.tables.entries ≡ [] → left_of rows ≡ nothing_left
none_yet rows counts tables =
    ap (λ (es : List (RowKey × ℕ)). let l : Left = record { counts = λ name row. unwrap_or (lookup (is_code (key_code name row)) es) 0; tables = tables_of rows } in l) counts
    ∙ ap (λ (es : List (TableName × Bool)). let l : Left = record { counts = nothing; tables = λ name. lookup (is_named name) es } in l) tables

-- ---- one count

is_key_test : (code : List ℕ) → IsKeyTest (λ (key : RowKey). is_code (code_of key)) (is_code code)
is_key_test code = λ key other is. ap (λ (c : List ℕ). bytes_eq c (code_of other)) (same_code code (code_of key) is)

are_apart : (code other : List ℕ) → bytes_eq code other ≡ false → AreApart (is_code code) (is_code other)
are_apart code other apart = λ key is. false_from_ne_true (is_code other key) (λ yes.
    let here : code ≡ code_of key = same_code code (code_of key) is in
    let there : other ≡ code_of key = same_code other (code_of key) yes in
    let same : bytes_eq code other ≡ true = ap (λ (c : List ℕ). bytes_eq code c) (there ∙ sym here) ∙ own_code code in
    absurd (let no : true ≡ false = sym same ∙ apart in cc))

other_entries : {K X : Type 0} (eq : K → K → Bool) (test : K → Bool) (old new : List (K × X)) → KeepsOthers eq test old new → (other : K → Bool) → IsKeyTest eq other → AreApart test other
    → lookup other new ≡ lookup other old
unfolding KeepsOthers
other_entries eq test old new h = h

-- A key gets a value, or none, and all others stay as they are.
updates_code : {S : Type 0} (old new : IndexMap RowKey ℕ S) (key : RowKey) (value : Option ℕ) → UpdatesBy (λ (k : RowKey). is_code (code_of k)) (is_code (code_of key)) old new value
    → (code : List ℕ) → get_by (is_code code) new ≡ cond (bytes_eq (code_of key) code) value (get_by (is_code code) old)
updates_code {S} old new key value updates code = by (bytes_eq (code_of key) code) refl
  where
    by : (b : Bool) → bytes_eq (code_of key) code ≡ b → get_by (is_code code) new ≡ cond (bytes_eq (code_of key) code) value (get_by (is_code code) old)
    by true is =
        let same : code_of key ≡ code = same_code (code_of key) code is in
        ap (λ (n : List ℕ). get_by (is_code n) new) (sym same) ∙ updates.1 ∙ sym (ap (λ (c : Bool). cond c value (get_by (is_code code) old)) is)
    by false is =
        other_entries (λ (k : RowKey). is_code (code_of k)) (is_code (code_of key)) old.entries new.entries updates.3 (is_code code) (is_key_test code) (are_apart (code_of key) code is)
        ∙ sym (ap (λ (c : Bool). cond c value (get_by (is_code code) old)) is)

count_if : (b : Bool) (value old : Option ℕ) → unwrap_or (cond b value old) 0 ≡ cond b (unwrap_or value 0) (unwrap_or old 0)
count_if true value old = refl
count_if false value old = refl

pub sets_count : {S : Type 0} (old new : IndexMap RowKey ℕ S) (key : RowKey) (value : Option ℕ) → UpdatesBy (λ (k : RowKey). is_code (code_of k)) (is_code (code_of key)) old new value
    → (second : List ℕ) → unwrap_or (get_by (is_code second) new) 0 ≡ cond (bytes_eq (code_of key) second) (unwrap_or value 0) (unwrap_or (get_by (is_code second) old) 0)
sets_count {S} old new key value updates second =
    ap (λ (o : Option ℕ). unwrap_or o 0) (updates_code old new key value updates second) ∙ count_if (bytes_eq (code_of key) second) value (get_by (is_code second) old)

-- ---- calls

pub lowered_last : (code : List ℕ) (old new : Counts) (count : ℕ) → count ≡ old code → count < 2 → SetsCount code 0 old new → Sets lowered (Some code) old new
lowered_last code old new count is less sets =
    let none : 0 ≡ old code - 1 = omega arith in
    λ second. sets second ∙ ap (λ (n : ℕ). cond (bytes_eq code second) n (old second)) none

pub lowered_more : {E : Type 0} (answer : Result (Unit {0}) E) (code : List ℕ) (old new : Counts) (count : ℕ) → count ≡ old code → OnOk answer (SetsCount code (count - 1) old new)
    → OnOk answer (Sets lowered (Some code) old new)
lowered_more answer code old new count is sets = subst (λ (n : ℕ). OnOk answer (SetsCount code (n - 1) old new)) is sets

pub raised_more : {E : Type 0} (answer : Result (Unit {0}) E) (code : List ℕ) (old new : Counts) (count : ℕ) → count ≡ old code + 1 → OnOk answer (SetsCount code count old new)
    → OnOk answer (Sets raised (Some code) old new)
raised_more answer code old new count is sets = subst (λ (n : ℕ). OnOk answer (SetsCount code n old new)) is sets

pub row_undone : {E : Type 0} (answer : Result (Unit {0}) E) (keys : Keys) (old mid new : Counts) → Sets lowered keys.0 old mid → OnOk answer (Sets raised keys.1 mid new)
    → OnOk answer (SetsKeys keys old new)
row_undone (Ok done) keys old mid new lowers raises = (mid, lowers, raises)
row_undone (Err e) keys old mid new lowers raises = tt

-- The rows that are left, one of which is undone.
pub rows_next : (left next : List KeyedRow) (row : KeyedRow) (old mid end : Counts) → left ≡ row ∷ next → SetsKeys (keys_in row) old mid → SetsAll (map keys_in next) mid end
    → SetsAll (map keys_in left) old end
rows_next left next row old mid end split one more = subst (λ (l : List KeyedRow). SetsAll (map keys_in l) old end) (sym split) (mid, one, more)

pub rows_end : (left : List KeyedRow) (counts : Counts) → left ≡ [] → SetsAll (map keys_in left) counts counts
rows_end left counts none = subst (λ (l : List KeyedRow). SetsAll (map keys_in l) counts counts) (sym none) (λ second. refl)

-- The last row of a list is the first one of the reversed list.
pub last_first : (old new : List KeyedRow) (row : KeyedRow) → old ≡ new ++ row ∷ [] → reverse old ≡ row ∷ reverse new
last_first old new row split = ap reverse split ∙ reverse-append new (row ∷ [])

-- A list of which nothing is taken from the end.
pub none_last : (old new : List KeyedRow) (len : ℕ) → old ≡ new ++ [] → new ≡ take (len - 1) old → len ≡ 0 → reverse old ≡ []
none_last old new len split rest empty =
    let none : old ≡ [] = split ∙ ap (λ (l : List KeyedRow). l ++ []) (rest ∙ ap (λ (n : ℕ). take (n - 1) old) empty) in
    ap reverse none

pub removes_next : (counts : Counts) (left next : List KeyedRow) (row : KeyedRow) (all : Bool) → left ≡ row ∷ next → removes_key counts (keys_in row) ≡ false
    → list_any (removes_key counts) (map keys_in left) ≡ all → list_any (removes_key counts) (map keys_in next) ≡ all
removes_next counts left next row all split none same =
    ap (λ (b : Bool). b || list_any (removes_key counts) (map keys_in next)) (sym none) ∙ ap (λ (l : List KeyedRow). list_any (removes_key counts) (map keys_in l)) (sym split) ∙ same

pub removes_here : (counts : Counts) (left next : List KeyedRow) (row : KeyedRow) (all : Bool) → left ≡ row ∷ next → removes_key counts (keys_in row) ≡ true
    → list_any (removes_key counts) (map keys_in left) ≡ all → false ≡ not all
removes_here counts left next row all split some same =
    ap not (ap (λ (b : Bool). b || list_any (removes_key counts) (map keys_in next)) (sym some) ∙ ap (λ (l : List KeyedRow). list_any (removes_key counts) (map keys_in l)) (sym split) ∙ same)

pub removes_none : (counts : Counts) (left : List KeyedRow) (all : Bool) → left ≡ [] → list_any (removes_key counts) (map keys_in left) ≡ all → true ≡ not all
removes_none counts left all none same = ap not (ap (λ (l : List KeyedRow). list_any (removes_key counts) (map keys_in l)) (sym none) ∙ same)

-- ---- tables

or_none : (b : Bool) → b ≡ (b || false)
or_none true = refl
or_none false = refl

pub table_first : {E : Type 0} (answer : Result (Unit {0}) E) (name : Name) (is_unknown : Bool) (old new : Name → Option Bool) → old name ≡ None
    → OnOk answer (SetsTable name is_unknown old new) → OnOk answer (NotesTable name is_unknown old new)
table_first (Ok done) name is_unknown old new none sets = λ second.
    sets second ∙ ap (λ (b : Bool). cond (name_eq name second) (Some b) (old second)) (or_none is_unknown ∙ ap (λ (o : Option Bool). is_unknown || unwrap_or o false) (sym none))
table_first (Err e) name is_unknown old new none sets = tt

pub table_unknown : {E : Type 0} (answer : Result (Unit {0}) E) (name : Name) (is_unknown : Bool) (old new : Name → Option Bool) → is_unknown ≡ true
    → OnOk answer (SetsTable name true old new) → OnOk answer (NotesTable name is_unknown old new)
table_unknown (Ok done) name is_unknown old new is sets = λ second.
    sets second ∙ ap (λ (b : Bool). cond (name_eq name second) (Some (b || unwrap_or (old name) false)) (old second)) (sym is)
table_unknown (Err e) name is_unknown old new is sets = tt

or_same : (unknown was : Bool) → (unknown ≡ true → was ≡ true) → (unknown || was) ≡ was
or_same true was to = sym (to refl)
or_same false was to = refl

pub table_again : (name : Name) (is_unknown was : Bool) (old : Name → Option Bool) → old name ≡ Some was → (is_unknown ≡ true → was ≡ true) → NotesTable name is_unknown old old
table_again name is_unknown was old is to = λ second. by second (name_eq name second) refl
  where
    by : (second : Name) (b : Bool) → name_eq name second ≡ b → old second ≡ cond (name_eq name second) (Some (is_unknown || unwrap_or (old name) false)) (old second)
    by second true same =
        let names : name ≡ second = same_name name second same in
        ap old (sym names) ∙ is ∙ ap (λ (b : Bool). Some b) (sym (or_same is_unknown was to)) ∙ ap (λ (o : Option Bool). Some (is_unknown || unwrap_or o false)) (sym is)
        ∙ sym (ap (λ (b : Bool). cond b (Some (is_unknown || unwrap_or (old name) false)) (old second)) same)
    by second false apart = sym (ap (λ (b : Bool). cond b (Some (is_unknown || unwrap_or (old name) false)) (old second)) apart)

-- What is undone of rows that are known, and of others.
pub all_undone : {E : Type 0} (answer : Result (Unit {0}) E) (keys : List Keys) (name : Name) (old mid new : RowsLeft) → SetsAll keys (count_of old) (count_of mid) → mid.tables ≡ old.tables
    → new.counts ≡ mid.counts → OnOk answer (NotesTable name false (tables_of mid) (tables_of new)) → OnOk answer (LeavesKeys name (Some keys) old new)
all_undone (Ok done) keys name old mid new sets tables counts notes = (
  subst (λ m. SetsAll keys (count_of old) (λ code. unwrap_or (get_by (is_code code) m) 0)) (sym counts) sets,
  subst (λ m. NotesTable name false (λ other. get_by (is_named other) m) (tables_of new)) tables notes,
)
all_undone (Err e) keys name old mid new sets tables counts notes = tt

pub unknown_undone : {E : Type 0} (answer : Result (Unit {0}) E) (name : Name) (old new : RowsLeft) → new.counts ≡ old.counts
    → OnOk answer (NotesTable name true (tables_of old) (tables_of new)) → OnOk answer (LeavesKeys name None old new)
unknown_undone (Ok done) name old new counts notes = (λ second. ap (λ m. unwrap_or (get_by (is_code second) m) 0) counts, notes)
unknown_undone (Err e) name old new counts notes = tt

-- ---- the rows themselves

-- States that have each row as often are the same.
same_state : {s t : State Name Values} → ((name : Name) (row : Values) → s name row ≡ t name row) → s ≡ t
same_state h = fun_ext (λ name. fun_ext (h name))

-- The key of another row is another one.
key_apart : (name other : Name) (row another : Values) → ¬ ((other ≡ name) × (another ≡ row)) → bytes_eq (key_code name row) (key_code other another) ≡ false
key_apart name other row another differ = other_code (key_code name row) (key_code other another) (λ same.
    let parts = key_injective name other row another same in differ (sym parts.0, sym parts.1))

count_here : (code : List ℕ) (count : ℕ) (old new : Counts) → SetsCount code count old new → new code ≡ count
count_here code count old new sets = sets code ∙ ap (λ (b : Bool). cond b count (old code)) (own_code code)

count_there : (code second : List ℕ) (count : ℕ) (old new : Counts) → SetsCount code count old new → bytes_eq code second ≡ false → new second ≡ old second
count_there code second count old new sets apart = sets second ∙ ap (λ (b : Bool). cond b count (old second)) apart

raises_row : (name : Name) (row : Option Values) (old new : Counts) → Sets raised (option_map (key_code name) row) old new → IsWith name row (state_of old) (state_of new)
raises_row name None old new sets = same_state (λ other another. sets (key_code other another))
raises_row name (Some row) old new sets = record {
  here = count_here (key_code name row) (old (key_code name row) + 1) old new sets;
  elsewhere = λ other another differ. count_there (key_code name row) (key_code other another) (old (key_code name row) + 1) old new sets (key_apart name other row another differ);
}

lowers_row : (name : Name) (row : Option Values) (old new : Counts) → Sets lowered (option_map (key_code name) row) old new → Lowers name row (state_of old) (state_of new)
lowers_row name None old new sets = same_state (λ other another. sets (key_code other another))
lowers_row name (Some row) old new sets = by (old (key_code name row)) refl
  where
    code : List ℕ
    code = key_code name row

    by : (count : ℕ) → old (key_code name row) ≡ count → Lowers name (Some row) (state_of old) (state_of new)
    by zero none = inr (
      none,
      same_state (λ other another. sets (key_code other another)
          ∙ unset (bytes_eq (key_code name row) (key_code other another)) other another refl),
    )
      where
        unset : (b : Bool) (other : Name) (another : Values) → bytes_eq (key_code name row) (key_code other another) ≡ b
            → cond (bytes_eq (key_code name row) (key_code other another)) (old (key_code name row) - 1) (old (key_code other another)) ≡ old (key_code other another)
        unset true other another same =
            let here : old (key_code name row) ≡ old (key_code other another) = ap old (same_code (key_code name row) (key_code other another) same) in
            ap (λ (b : Bool). cond b (old (key_code name row) - 1) (old (key_code other another))) same ∙ omega (arith, here, none)
        unset false other another apart = ap (λ (b : Bool). cond b (old (key_code name row) - 1) (old (key_code other another))) apart
    by (suc rest) some = inl (record {
      here = let new_is = count_here (key_code name row) (old (key_code name row) - 1) old new sets in omega (arith, new_is, some);
      elsewhere = λ other another differ. sym (count_there (key_code name row) (key_code other another) (old (key_code name row) - 1) old new sets (key_apart name other row another differ));
    })

row_leaves : (name : Name) (images : RowImages) (old new : Counts) → SetsKeys (keys_of name images) old new → LeavesRow name images (state_of old) (state_of new)
row_leaves name images old new (mid, lowers, raises) = record {
  lowered = state_of mid;
  lowers = lowers_row name images.0 old mid lowers;
  raises = raises_row name images.1 mid new raises;
}

rows_leave : (name : Name) (images : List RowImages) (old new : Counts) → SetsAll (map (keys_of name) images) old new → LeavesRows name images (state_of old) (state_of new)
rows_leave name [] old new sets = same_state (λ other another. sets (key_code other another))
rows_leave name (first ∷ images) old new (mid, one, more) = (state_of mid, row_leaves name first old mid one, rows_leave name images mid new more)

-- What is left behind rows that are known, or aren't.
pub keys_leave : (name : Name) (known : Option (List RowImages)) (given : Option (List KeyedRow)) (old new : RowsLeft) → AreKeys name known given
    → LeavesKeys name (option_map (map keys_in) given) old new → Leaves name known (left_of old) (left_of new)
keys_leave name (Some images) (Some rows) old new are (sets, notes) =
    (rows_leave name images (count_of old) (count_of new) (subst (λ (k : List Keys). SetsAll k (count_of old) (count_of new)) are sets), notes)
keys_leave name (Some images) None old new are leaves = absurd are
keys_leave name None (Some rows) old new are leaves = absurd are
keys_leave name None None old new are (sets, notes) = (same_state (λ other another. sets (key_code other another)), notes)

-- Whether rows are apart by their keys, and whether they are.
same_left : (counts : Counts) (name : Name) (row : Option Values) → is_left_key counts (option_map (key_code name) row) ≡ is_left (state_of counts) name row
same_left counts name None = refl
same_left counts name (Some row) = refl

same_any : (counts : Counts) (name : Name) (images : List RowImages) → list_any (removes_key counts) (map (keys_of name) images) ≡ list_any (removes_left (state_of counts) name) images
same_any counts name [] = refl
same_any counts name (first ∷ images) =
    ap (λ (b : Bool). b || list_any (removes_key counts) (map (keys_of name) images)) (same_left counts name first.0)
    ∙ ap (λ (b : Bool). removes_left (state_of counts) name first || b) (same_any counts name images)

pub apart_is : (name : Name) (known : Option (List RowImages)) (given : Option (List KeyedRow)) (counts : Counts) → AreKeys name known given
    → is_apart_by counts (option_map (map keys_in) given) ≡ is_apart (state_of counts) name known
apart_is name (Some images) (Some rows) counts are = ap (λ (k : List Keys). not (list_any (removes_key counts) k)) are ∙ ap not (same_any counts name images)
apart_is name (Some images) None counts are = absurd are
apart_is name None (Some rows) counts are = absurd are
apart_is name None None counts are = refl
