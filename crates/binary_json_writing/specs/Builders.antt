-- What builders have got so far.
use Rattle.std.specs.Prelude.{◌≡◌, ◌⊎◌, ◌^◌, ◌<◌, ◌≤◌, ℕ, true, false, List, [], ◌∷◌, length, map, Some, None}
use Rattle.binary_json.specs.Values.{Json, Entries, no_entries, entry}
use Rattle.binary_json.specs.Decoding.{document_value}
use Rattle.binary_json_writing.specs.Keys.{may_follow}
use Rattle.binary_json_writing.specs.declared.entry.Entry.{Entry}
use Rattle.binary_json_writing.specs.declared.builders.ArrayBuilder.{ArrayBuilder}
use Rattle.binary_json_writing.specs.declared.builders.ObjectBuilder.{ObjectBuilder}
use Rattle.binary_json_writing.specs.declared.error.JsonWriteError.{JsonWriteError}
use Rattle.binary_json_writing.specs.declared.error.JsonWriteError.TheVariants as errors

abbrev pub value_in : Entry → Json
value_in e = document_value e.value.items

abbrev pub member_in : Entry → List ℕ × Json
member_in e = (e.key.items, value_in e)

-- The elements so far, in order.
abbrev pub elements : ArrayBuilder → List Json
elements b = map value_in b.list.entries.items

-- The keys and values of the members so far, in order.
abbrev pub members : ObjectBuilder → List (List ℕ × Json)
members b = map member_in b.list.entries.items

abbrev pub of_elements : List Json → Entries
of_elements [] = no_entries
of_elements (v ∷ vs) = entry None v (of_elements vs)

abbrev pub of_members : List (List ℕ × Json) → Entries
of_members [] = no_entries
of_members (m ∷ ms) = entry (Some m.0) m.1 (of_members ms)

-- Which refusal of a member comes first.
abbrev pub IsRefusedMember : List ℕ → List (List ℕ × Json) → JsonWriteError → Type 0
IsRefusedMember key ms e =
    ((e ≡ errors.KeyTooLong) × (2 ^ 16 ≤ length key))
    ⊎ ((length key < 2 ^ 16) × (((e ≡ errors.KeyOrder) × (may_follow (map (λ m. m.0) ms) key ≡ false)) ⊎ ((e ≡ errors.Memory) × (may_follow (map (λ m. m.0) ms) key ≡ true))))
