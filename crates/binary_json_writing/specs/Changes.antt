-- What a diff does with a value. Source: MySQL's reference manual, "Functions That Modify JSON Values": JSON_REPLACE, JSON_INSERT,
-- JSON_ARRAY_INSERT and JSON_REMOVE. A diff of which one of these would do nothing is refused.
use Rattle.std.specs.Prelude.{◌≡◌, ◌⊎◌, ℕ, suc, ◌+◌, ◌-◌, ◌<◌, Bool, true, false, List, [], ◌∷◌, ◌++◌, length, map, take, drop, min, bytes_eq, slice_get, nat_lt, if◌then◌else◌, Option, Some, None, option_map, Result, Ok, Err}
use Rattle.binary_json.specs.Values.{Json, scalar, array, object, Entries, no_entries, entry, nesting, entries_nesting, values, members as members_in}
use Rattle.binary_json.specs.declared.diffs.JsonDiffOperation.{JsonDiffOperation}
use Rattle.binary_json.specs.declared.diffs.JsonDiffOperation.TheVariants as operations
use Rattle.binary_json_writing.specs.Keys.{is_before}
use Rattle.binary_json_writing.specs.Writable.{is_writable, are_writable}
use Rattle.binary_json_writing.specs.Stored.{stored_key}
use Rattle.binary_json_writing.specs.Paths.{Leg, member, element, from_end}
use Rattle.binary_json_writing.specs.declared.error.JsonWriteError.{JsonWriteError}
use Rattle.binary_json_writing.specs.declared.error.JsonWriteError.TheVariants as limits
use Rattle.binary_json_writing.specs.declared.error.JsonChangeError.{JsonChangeError}
use Rattle.binary_json_writing.specs.declared.error.JsonChangeError.TheVariants as faults

abbrev pub Changed : Type 0 → Type 0
Changed A = Result A JsonChangeError

abbrev pub and_then : {A B : Type 0} → Changed A → (A → Changed B) → Changed B
and_then (Ok x) f = f x
and_then (Err e) f = Err e

abbrev pub or_fault : {A : Type 0} → JsonChangeError → Option A → Changed A
or_fault e None = Err e
or_fault e (Some x) = Ok x

-- ---- entries

-- The keys and values of a value's entries, in order. The elements of an array have empty keys.
abbrev pub keyless : Json → List ℕ × Json
keyless v = ([], v)

abbrev pub entries_of : Json → List (List ℕ × Json)
entries_of (scalar x) = []
entries_of (array es) = map keyless (values es)
entries_of (object es) = members_in es

abbrev pub is_array : Json → Bool
is_array (scalar x) = false
is_array (array es) = true
is_array (object es) = false

abbrev pub is_object : Json → Bool
is_object (scalar x) = false
is_object (array es) = false
is_object (object es) = true

-- These entries, with their keys in an object, and without in an array.
abbrev pub entries_by : Bool → List (List ℕ × Json) → Entries
entries_by keyed [] = no_entries
entries_by keyed (p ∷ ps) = entry (stored_key keyed p.0) p.1 (entries_by keyed ps)

-- The array or the object with these entries in place of its own.
abbrev pub with_entries : Json → List (List ℕ × Json) → Json
with_entries (scalar x) ps = scalar x
with_entries (array es) ps = array (entries_by false ps)
with_entries (object es) ps = object (entries_by true ps)

-- Others in place of so many, from the i-th one on.
abbrev pub spliced : ℕ → ℕ → List (List ℕ × Json) → List (List ℕ × Json) → List (List ℕ × Json)
spliced i n new ps = take i ps ++ (new ++ drop (i + n) ps)

-- The index of the first entry with this key.
abbrev pub key_index : List ℕ → List (List ℕ × Json) → Option ℕ
key_index key [] = None
key_index key (p ∷ ps) = if bytes_eq p.0 key then Some 0 else option_map suc (key_index key ps)

-- How many entries come before the first one whose key isn't before this one.
abbrev pub key_rank : List ℕ → List (List ℕ × Json) → ℕ
key_rank key [] = 0
key_rank key (p ∷ ps) = if is_before p.0 key then suc (key_rank key ps) else 0

-- ---- legs

-- The key of an entry to which a leg leads.
abbrev pub key_of : Leg → List ℕ
key_of (member key) = key
key_of (element n) = []
key_of (from_end n) = []

-- The index of the entry to which a leg leads: the first member of its name, or the element at its place.
abbrev pub index_in : Leg → Json → Changed ℕ
index_in (member key) v = if is_object v then or_fault faults.NoMember (key_index key (entries_of v)) else Err faults.NoObject
index_in (element n) v = if is_array v then (if nat_lt n (length (entries_of v)) then Ok n else Err faults.NoElement) else Err faults.NoArray
index_in (from_end n) v = if is_array v then (if nat_lt n (length (entries_of v)) then Ok (length (entries_of v) - (n + 1)) else Err faults.NoElement) else Err faults.NoArray

abbrev pub free_index : List ℕ → List (List ℕ × Json) → Option ℕ → Changed ℕ
free_index key ps None = Ok (key_rank key ps)
free_index key ps (Some i) = Err faults.MemberExists

-- Where an entry is inserted: a member, which isn't there yet, in the order of keys, and an element at its place; at the end of an
-- array with fewer elements, and at the front for a place from the end.
abbrev pub insertion_in : Leg → Json → Changed ℕ
insertion_in (member key) v = if is_object v then free_index key (entries_of v) (key_index key (entries_of v)) else Err faults.NoObject
insertion_in (element n) v = if is_array v then Ok (min n (length (entries_of v))) else Err faults.NoArray
insertion_in (from_end n) v = if is_array v then Ok (length (entries_of v) - (n + 1)) else Err faults.NoArray

-- ---- changes

-- Where an operation takes place, how many entries it takes away there, and which ones come in.
abbrev pub place_in : JsonDiffOperation → Leg → Json → Changed ℕ
place_in operations.Insert leg v = insertion_in leg v
place_in operations.Replace leg v = index_in leg v
place_in operations.Remove leg v = index_in leg v

abbrev pub taken_by : JsonDiffOperation → ℕ
taken_by operations.Insert = 0
taken_by operations.Replace = 1
taken_by operations.Remove = 1

abbrev pub new_entries : List ℕ → Option Json → List (List ℕ × Json)
new_entries key None = []
new_entries key (Some v) = (key, v) ∷ []

-- The document itself can be replaced.
abbrev pub root_changed : JsonDiffOperation → Option Json → Changed Json
root_changed operations.Replace (Some v) = Ok v
root_changed o new = Err faults.Document

abbrev pub within : (Json → Changed Json) → Option (List ℕ × Json) → Changed Json
within change None = Err faults.NoElement
within change (Some p) = change p.1

-- The value with a change at the end of these legs.
abbrev pub changed : JsonDiffOperation → Option Json → List Leg → Json → Changed Json
changed o new [] v = root_changed o new
changed o new (leg ∷ []) v = and_then (place_in o leg v) (λ i. Ok (with_entries v (spliced i (taken_by o) (new_entries (key_of leg) new) (entries_of v))))
changed o new (leg ∷ l ∷ legs) v =
    and_then (index_in leg v) (λ i. and_then (within (changed o new (l ∷ legs)) (slice_get (entries_of v) i)) (λ w. Ok (with_entries v (spliced i 1 (new_entries (key_of leg) (Some w)) (entries_of v)))))

-- ---- what can't be written

-- Why a value isn't written: memory was refused, or it is too deep, or it has a key, or a part, that is too large.
abbrev pub IsUnwritten : Json → JsonWriteError → Type 0
IsUnwritten v e =
    (e ≡ limits.Memory)
    ⊎ (((e ≡ limits.TooDeep) × (100 < nesting v)) ⊎ (((e ≡ limits.KeyTooLong) ⊎ (e ≡ limits.TooLarge)) × (is_writable v ≡ false)))

-- The same, of entries.
abbrev pub AreUnwritten : Bool → List (List ℕ × Json) → JsonWriteError → Type 0
AreUnwritten keyed ps e =
    (e ≡ limits.Memory)
    ⊎ (((e ≡ limits.TooDeep) × (100 < entries_nesting (entries_by keyed ps))) ⊎ (((e ≡ limits.KeyTooLong) ⊎ (e ≡ limits.TooLarge)) × (are_writable keyed (entries_by keyed ps) ≡ false)))

-- How a change is refused.
abbrev pub FailsBy : Changed Json → JsonChangeError → Type 0
FailsBy (Err d) e = e ≡ d
FailsBy (Ok w) e = (d : JsonWriteError) × (e ≡ faults.Write d) × IsUnwritten w d
