-- What the types of this crate show.
use Rattle.std.specs.Prelude.{◌≡◌, ◌⊎◌, ◌≤◌, ◌<◌, ◌^◌, ℕ, Bool, false}
use Rattle.binary_json_writing.specs.Written.{Item}
use Rattle.binary_json_writing.specs.declared.entry.Entry.{Entry}
use Rattle.binary_json_writing.specs.declared.error.JsonWriteError.{JsonWriteError}
use Rattle.binary_json_writing.specs.declared.error.JsonWriteError.TheVariants as errors

abbrev pub item : Entry → Item
item e = record { key = e.key.items; value = e.value.items }

-- Memory was refused, or an array or an object doesn't fit.
abbrev pub IsRefusedWhole : Bool → JsonWriteError → Type 0
IsRefusedWhole fits e = (e ≡ errors.Memory) ⊎ ((e ≡ errors.TooLarge) × (fits ≡ false))

-- Memory was refused, or a string or an opaque value has 2^32 bytes or more.
abbrev pub IsRefusedText : ℕ → JsonWriteError → Type 0
IsRefusedText len e = ((e ≡ errors.Memory) × (len < 2 ^ 32)) ⊎ ((e ≡ errors.TooLarge) × (2 ^ 32 ≤ len))
