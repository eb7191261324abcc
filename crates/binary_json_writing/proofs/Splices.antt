-- Entries in place of others.
use Rattle.std.proofs.Common.{◌≡◌, ℕ, ◌+◌, Bool, true, List, [], ◌++◌, length, map, take, drop, refl, sym, ap, subst, ◌∙◌, append_assoc}
use Rattle.std.specs.Prelude.{◌||◌, slice_range}
use Rattle.binary_json.specs.Values.{Json, Entries}
use Rattle.binary_json_writing.specs.Stored.{stored, stored_value}
use Rattle.binary_json_writing.specs.Builders.{member_in}
use Rattle.binary_json_writing.specs.Changes.{entries_of, is_array, is_object, entries_by, with_entries, spliced, IsUnwritten, AreUnwritten}
use Rattle.binary_json_writing.specs.declared.entry.Entry.{Entry}
use Rattle.binary_json_writing.specs.declared.error.JsonWriteError.{JsonWriteError}
use Rattle.binary_json_writing.proofs.EntryLists.{range_front, range_back}
use Rattle.binary_json_writing.proofs.Unwritten.{stored_by, between_others, in_front, behind_others, container_is, whole_unwritten}

abbrev Pairs : Type 0
Pairs = List (List ℕ × Json)

module _ (v : Json) (keyed : Bool) (i n count : ℕ) (new : Pairs) (is : (is_array v || is_object v) ≡ true) (kind : keyed ≡ is_object v) (all : count ≡ length (entries_of v)) where
  abbrev ps : Pairs
  ps = entries_of v

  abbrev entries : Pairs
  entries = spliced i n new ps

  back : stored_value keyed (entries_by keyed entries) ≡ with_entries v entries
  back = ap (λ (b : Bool). stored_value b (entries_by b entries)) kind ∙ sym (container_is v entries is)

  behind : slice_range ps (i + n) count ≡ drop (i + n) ps
  behind = ap (λ (k : ℕ). slice_range ps (i + n) k) all ∙ range_back ps (i + n)

  pub splice_made : (l0 l1 l2 l3 : List Entry) → l0 ≡ [] → map member_in l1 ≡ map member_in l0 ++ slice_range ps 0 i → map member_in l2 ≡ map member_in l1 ++ new → map member_in l3 ≡ map member_in l2 ++ slice_range ps (i + n) count
      → stored_value keyed (stored keyed l3) ≡ with_entries v entries
  splice_made l0 l1 l2 l3 none first second third =
      let front : map member_in l1 ≡ take i ps = first ∙ ap (λ (l : List Entry). map member_in l ++ slice_range ps 0 i) none ∙ range_front ps i in
      let whole : map member_in l3 ≡ entries =
      third ∙ ap (λ (l : Pairs). map member_in l2 ++ l) behind ∙ ap (λ (l : Pairs). l ++ drop (i + n) ps) (second ∙ ap (λ (l : Pairs). l ++ new) front) ∙ append_assoc (take i ps) new (drop (i + n) ps) in
      ap (λ (l : Entries). stored_value keyed l) (stored_by keyed l3) ∙ ap (λ (l : Pairs). stored_value keyed (entries_by keyed l)) whole ∙ back

  fails : (e : JsonWriteError) → AreUnwritten keyed entries e → IsUnwritten (with_entries v entries) e
  fails e are = subst (λ (w : Json). IsUnwritten w e) back (whole_unwritten keyed entries e are)

  pub front_fails : (k : Bool) (e : JsonWriteError) → k ≡ keyed → AreUnwritten k (slice_range ps 0 i) e → IsUnwritten (with_entries v entries) e
  front_fails k e same are =
      let front : AreUnwritten keyed (take i ps) e = subst (λ (l : Pairs). AreUnwritten keyed l e) (range_front ps i) (subst (λ (b : Bool). AreUnwritten b (slice_range ps 0 i) e) same are) in
      fails e (in_front keyed (take i ps) (new ++ drop (i + n) ps) e front)

  pub new_fails : (k : Bool) (e : JsonWriteError) → k ≡ keyed → AreUnwritten k new e → IsUnwritten (with_entries v entries) e
  new_fails k e same are = fails e (between_others keyed (take i ps) new (drop (i + n) ps) entries e refl (subst (λ (b : Bool). AreUnwritten b new e) same are))

  pub back_fails : (k : Bool) (e : JsonWriteError) → k ≡ keyed → AreUnwritten k (slice_range ps (i + n) count) e → IsUnwritten (with_entries v entries) e
  back_fails k e same are =
      let last : AreUnwritten keyed (drop (i + n) ps) e = subst (λ (l : Pairs). AreUnwritten keyed l e) behind (subst (λ (b : Bool). AreUnwritten b (slice_range ps (i + n) count) e) same are) in
      fails e (behind_others keyed (take i ps) (new ++ drop (i + n) ps) e (behind_others keyed new (drop (i + n) ps) e last))
