-- The entries of an array or an object that is built.
use Rattle.std.specs.Prelude.{◌≡◌, ◌⊎◌, ◌≤◌, ◌<◌, ℕ, Bool, true, false, List, [], ◌∷◌, Option, Some, None}
use Rattle.binary_json.specs.Values.{Json, array, object, Entries, no_entries, entry, entries_nesting}
use Rattle.binary_json.specs.Decoding.{document_value}
use Rattle.binary_json_writing.specs.Written.{key_of, items}
use Rattle.binary_json_writing.specs.Writable.{fits}
use Rattle.binary_json_writing.specs.declared.entry.Entry.{Entry}
use Rattle.binary_json_writing.specs.declared.error.JsonWriteError.{JsonWriteError}
use Rattle.binary_json_writing.specs.declared.error.JsonWriteError.TheVariants as errors

-- An array has no keys.
abbrev pub stored_key : Bool → List ℕ → Option (List ℕ)
stored_key true key = Some key
stored_key false key = None

abbrev pub stored_value : Bool → Entries → Json
stored_value true es = object es
stored_value false es = array es

-- The small type of an object or an array.
abbrev pub small_type : Bool → ℕ
small_type true = 0
small_type false = 2

-- The bytes that stand for the key.
abbrev pub held : Bool → List ℕ → List ℕ
held keyed key = key_of (stored_key keyed key)

abbrev pub stored : Bool → List Entry → Entries
stored keyed [] = no_entries
stored keyed (e ∷ es) = entry (stored_key keyed e.key.items) (document_value e.value.items) (stored keyed es)

abbrev pub key_in : Entry → List ℕ
key_in e = e.key.items

-- Which refusal comes first where an array or an object ends: that it would be too deep, that it would be too large, and want of memory.
abbrev pub IsRefusedEnd : Bool → Entries → JsonWriteError → Type 0
IsRefusedEnd keyed es e =
    ((e ≡ errors.TooDeep) × (100 ≤ entries_nesting es))
    ⊎ ((entries_nesting es < 100) × (((e ≡ errors.TooLarge) × (fits (small_type keyed) (items es) ≡ false)) ⊎ (e ≡ errors.Memory)))
