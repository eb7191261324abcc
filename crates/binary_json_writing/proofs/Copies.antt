-- Documents that are written anew.
use Rattle.std.proofs.Common.{◌≡◌, ℕ, zero, suc, ◌+◌, ◌<◌, ◌≤◌, Bool, true, false, cond, List, [], ◌∷◌, ◌++◌, length, map, Option, Some, None, Result, Ok, Err, refl, sym, ap, subst, ◌∙◌, append_assoc, arith}
use Rattle.std.specs.Prelude.{◌||◌, slice_get, slice_range, IfErr}
use Rattle.std.proofs.lemmas.Bool.{lt-ltb, le-ltb}
use Rattle.binary_json.specs.Values.{Json, array, object, Entries, entry, values, members as members_in}
use Rattle.binary_json.specs.Layout.{is_object as is_object_type, entry_count, key_bytes}
use Rattle.binary_json.specs.Decoding.{key_at, entry_at, entries_at, entries_in}
use Rattle.binary_json.specs.Views.{json}
use Rattle.binary_json.specs.declared.value.Value.{Value}
use Rattle.binary_json.specs.declared.value.Value.TheVariants as views
use Rattle.binary_json_writing.specs.Stored.{stored, stored_value}
use Rattle.binary_json_writing.specs.Builders.{member_in, of_elements, of_members}
use Rattle.binary_json_writing.specs.Changes.{keyless, entries_of, is_array, is_object, entries_by, IsUnwritten, AreUnwritten}
use Rattle.binary_json_writing.specs.declared.entry.Entry.{Entry}
use Rattle.binary_json_writing.specs.declared.error.JsonWriteError.{JsonWriteError}
use Rattle.binary_json.proofs.Left.{some}
use Rattle.binary_json_writing.proofs.EntryLists.{range_one, range_split, range_back}
use Rattle.binary_json_writing.proofs.Unwritten.{stored_by, between_others, one_unwritten, whole_unwritten}

-- The entries of an array have no keys, and those of an object have.
elements_only : (value : ℕ → List ℕ → Json) (t : ℕ) (s : List ℕ) (n i : ℕ) → is_object_type t ≡ false → of_elements (values (entries_at value t s n i)) ≡ entries_at value t s n i
unfolding entries_at
elements_only value t s zero i kind = refl
elements_only value t s (suc n) i kind =
    let none : key_at t s i ≡ None = ap (λ (b : Bool). cond b (Some (key_bytes t s i)) None) kind in
    ap (λ (k : Option (List ℕ)). entry k (entry_at value t s i) (of_elements (values (entries_at value t s n (suc i))))) (sym none)
    ∙ ap (λ (es : Entries). entry (key_at t s i) (entry_at value t s i) es) (elements_only value t s n (suc i) kind)

members_only : (value : ℕ → List ℕ → Json) (t : ℕ) (s : List ℕ) (n i : ℕ) → is_object_type t ≡ true → of_members (members_in (entries_at value t s n i)) ≡ entries_at value t s n i
unfolding entries_at
members_only value t s zero i kind = refl
members_only value t s (suc n) i kind =
    let some : key_at t s i ≡ Some (key_bytes t s i) = ap (λ (b : Bool). cond b (Some (key_bytes t s i)) None) kind in
    ap (λ (k : Option (List ℕ)). of_members (members_in (entry k (entry_at value t s i) (entries_at value t s n (suc i))))) some
    ∙ ap (λ (k : Option (List ℕ)). entry k (entry_at value t s i) (of_members (members_in (entries_at value t s n (suc i))))) (sym some)
    ∙ ap (λ (es : Entries). entry (key_at t s i) (entry_at value t s i) es) (members_only value t s n (suc i) kind)

keyless_by : (vs : List Json) → entries_by false (map keyless vs) ≡ of_elements vs
keyless_by [] = refl
keyless_by (v ∷ vs) = ap (λ (es : Entries). entry None v es) (keyless_by vs)

keyed_by : (ms : List (List ℕ × Json)) → entries_by true ms ≡ of_members ms
keyed_by [] = refl
keyed_by (m ∷ ms) = ap (λ (es : Entries). entry (Some m.0) m.1 es) (keyed_by ms)

array_whole : (t : ℕ) (s : List ℕ) → is_object_type t ≡ false → entries_by false (map keyless (values (entries_in t s))) ≡ entries_in t s
unfolding entries_in
array_whole t s kind = keyless_by (values (entries_in t s)) ∙ elements_only _ t s (entry_count t s) 0 kind

object_whole : (t : ℕ) (s : List ℕ) → is_object_type t ≡ true → entries_by true (members_in (entries_in t s)) ≡ entries_in t s
unfolding entries_in
object_whole t s kind = keyed_by (members_in (entries_in t s)) ∙ members_only _ t s (entry_count t s) 0 kind

abbrev IsContainer : Value → Type 0
IsContainer v = (is_array (json v) || is_object (json v)) ≡ true

abbrev whole : Bool → Value → Json
whole keyed v = stored_value keyed (entries_by keyed (entries_of (json v)))

-- An array or an object of a document, by its entries.
view_whole : (v : Value) → IsContainer v → whole (is_object (json v)) v ≡ json v
view_whole (views.Array a) e = ap (λ (es : Entries). array es) (array_whole a.container.kind a.container.bytes.now (le-ltb a.container.kind 2 a.is_array))
view_whole (views.Object o) e = ap (λ (es : Entries). object es) (object_whole o.container.kind o.container.bytes.now (lt-ltb o.container.kind 2 o.is_object))
view_whole v e = let no : false ≡ true = e in absurd cc

pub copied_whole : (v : Value) (keyed : Bool) (es old : List Entry) (count : ℕ) → IsContainer v → keyed ≡ is_object (json v) → old ≡ [] → count ≡ length (entries_of (json v))
    → map member_in es ≡ map member_in old ++ slice_range (entries_of (json v)) 0 count → stored_value keyed (stored keyed es) ≡ json v
copied_whole v keyed es old count is kind none all copied =
    let ps = entries_of (json v) in
    let same : map member_in es ≡ ps = copied ∙ ap (λ (l : List Entry). map member_in l ++ slice_range ps 0 count) none ∙ ap (λ (n : ℕ). slice_range ps 0 n) all ∙ range_back ps 0 in
    ap (λ (l : Entries). stored_value keyed l) (stored_by keyed es)
    ∙ ap (λ (l : List (List ℕ × Json)). stored_value keyed (entries_by keyed l)) same
    ∙ ap (λ (b : Bool). whole b v) kind
    ∙ view_whole v is

pub copy_unwritten : (v : Value) (keyed : Bool) (count : ℕ) (e : JsonWriteError) → IsContainer v → keyed ≡ is_object (json v) → count ≡ length (entries_of (json v)) → AreUnwritten keyed (slice_range (entries_of (json v)) 0 count) e
    → IsUnwritten (json v) e
copy_unwritten v keyed count e is kind all are =
    let ps = entries_of (json v) in
    let same : slice_range ps 0 count ≡ ps = ap (λ (n : ℕ). slice_range ps 0 n) all ∙ range_back ps 0 in
    let of_all : AreUnwritten keyed ps e = subst (λ (l : List (List ℕ × Json)). AreUnwritten keyed l e) same are in
    let back : whole keyed v ≡ json v = ap (λ (b : Bool). whole b v) kind ∙ view_whole v is in
    subst (λ (w : Json). IsUnwritten w e) back (whole_unwritten keyed ps e of_all)

pub range_unwritten : (keyed : Bool) (ps : List (List ℕ × Json)) (i : ℕ) (p : List ℕ × Json) (e : JsonWriteError) → slice_get ps i ≡ some p → IsUnwritten p.1 e → AreUnwritten keyed (slice_range ps i (i + 1)) e
range_unwritten keyed ps i p e is why = subst (λ (l : List (List ℕ × Json)). AreUnwritten keyed l e) (sym (range_one ps i p is)) (one_unwritten keyed p.0 p.1 e why)

pub step_unwritten : (k keyed : Bool) (ps : List (List ℕ × Json)) (from i to : ℕ) (e : JsonWriteError) → k ≡ keyed → from ≤ i → i < to → AreUnwritten k (slice_range ps i (i + 1)) e → AreUnwritten keyed (slice_range ps from to) e
step_unwritten k keyed ps from i to e same low less are =
    let rest = range_split ps i (i + 1) to (omega arith) (omega arith) in
    let all = range_split ps from i to low (omega arith) ∙ ap (λ (l : List (List ℕ × Json)). slice_range ps from i ++ l) rest in
    between_others keyed (slice_range ps from i) (slice_range ps i (i + 1)) (slice_range ps (i + 1) to) (slice_range ps from to) e all (subst (λ (b : Bool). AreUnwritten b (slice_range ps i (i + 1)) e) same are)

pub one_more : {A : Type 0} (new old start : List A) (ps : List A) (from i : ℕ) → new ≡ old ++ slice_range ps i (i + 1) → old ≡ start ++ slice_range ps from i → from ≤ i → new ≡ start ++ slice_range ps from (i + 1)
one_more new old start ps from i more so_far low =
    more ∙ ap (λ l. l ++ slice_range ps i (i + 1)) so_far ∙ append_assoc start (slice_range ps from i) (slice_range ps i (i + 1))
    ∙ ap (λ l. start ++ l) (sym (range_split ps from i (i + 1) low (omega arith)))

pub if_err : {A E : Type 0} (r : Result A E) (P Q : E → Type 0) → ((e : E) → P e → Q e) → IfErr r P → IfErr r Q
if_err (Ok x) P Q f is = tt
if_err (Err e) P Q f is = f e is
