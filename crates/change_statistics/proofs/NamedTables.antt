-- What is known of tables, found by their names.
use Rattle.std.proofs.Common.{◌≡◌, ℕ, ◌&&◌, Bool, true, false, cond, List, Some, refl, sym, ap, ◌∙◌}
use Rattle.std.proofs.lemmas.Bool.{false_from_ne_true}
use Rattle.std.proofs.lemmas.Slice.Eq.{bytes_eq-Decides}
use Rattle.std.specs.Str.{bytes_eq}
use Rattle.std.specs.Map.{lookup, IsKeyTest, AreApart, KeepsOthers}
use Rattle.indexmap.specs.IndexMap.{IndexMap, get_by, UpdatesBy}
use Rattle.change_statistics.specs.Facts.{Name}
use Rattle.change_statistics.specs.Names.{name_of, name_eq, is_named}
use Rattle.change_statistics.specs.declared.table_name.TableName.{TableName}

both : (a b : Bool) → (a && b) ≡ true → (a ≡ true) × (b ≡ true)
both true true is = (refl, refl)
both true false is = absurd cc
both false b is = absurd cc

abbrev named : List ℕ → List ℕ → Name
named database table = record { database = database; table = table }

pub same_name : (name other : Name) → name_eq name other ≡ true → name ≡ other
same_name name other is =
    let parts = both (bytes_eq name.database other.database) (bytes_eq name.table other.table) is in
    let database : name.database ≡ other.database = (bytes_eq-Decides name.database other.database).0 parts.0 in
    let table : name.table ≡ other.table = (bytes_eq-Decides name.table other.table).0 parts.1 in
    ap (λ (s : List ℕ). named s name.table) database ∙ ap (λ (s : List ℕ). named other.database s) table

pub own_name : (name : Name) → name_eq name name ≡ true
own_name name =
    let database : bytes_eq name.database name.database ≡ true = (bytes_eq-Decides name.database name.database).1 refl in
    let table : bytes_eq name.table name.table ≡ true = (bytes_eq-Decides name.table name.table).1 refl in
    ap (λ (b : Bool). b && bytes_eq name.table name.table) database ∙ table

is_key_test : (name : Name) → IsKeyTest (λ (key : TableName). is_named (name_of key)) (is_named name)
is_key_test name = λ key other is. ap (λ (n : Name). name_eq n (name_of other)) (same_name name (name_of key) is)

are_apart : (name other : Name) → name_eq name other ≡ false → AreApart (is_named name) (is_named other)
are_apart name other apart = λ key is. false_from_ne_true (is_named other key) (λ yes.
    let here : name ≡ name_of key = same_name name (name_of key) is in
    let there : other ≡ name_of key = same_name other (name_of key) yes in
    let same : name_eq name other ≡ true = ap (λ (n : Name). name_eq name n) (there ∙ sym here) ∙ own_name name in
    absurd (let no : true ≡ false = sym same ∙ apart in cc))

other_entries : {K X : Type 0} (eq : K → K → Bool) (test : K → Bool) (old new : List (K × X)) → KeepsOthers eq test old new → (other : K → Bool) → IsKeyTest eq other → AreApart test other
    → lookup other new ≡ lookup other old
unfolding KeepsOthers
other_entries eq test old new h = h

-- One key gets a value, and all names stay as they are but its own.
pub updates_name : {X S : Type 0} (old new : IndexMap TableName X S) (key : TableName) (value : X) → UpdatesBy (λ (k : TableName). is_named (name_of k)) (is_named (name_of key)) old new (Some value)
    → (name : Name) → get_by (is_named name) new ≡ cond (name_eq (name_of key) name) (Some value) (get_by (is_named name) old)
updates_name {X} {S} old new key value updates name = by (name_eq (name_of key) name) refl
  where
    by : (b : Bool) → name_eq (name_of key) name ≡ b → get_by (is_named name) new ≡ cond (name_eq (name_of key) name) (Some value) (get_by (is_named name) old)
    by true is =
        let same : name_of key ≡ name = same_name (name_of key) name is in
        ap (λ (n : Name). get_by (is_named n) new) (sym same) ∙ updates.1 ∙ sym (ap (λ (c : Bool). cond c (Some value) (get_by (is_named name) old)) is)
    by false is =
        other_entries (λ (k : TableName). is_named (name_of k)) (is_named (name_of key)) old.entries new.entries updates.3 (is_named name) (is_key_test name) (are_apart (name_of key) name is)
        ∙ sym (ap (λ (c : Bool). cond c (Some value) (get_by (is_named name) old)) is)
