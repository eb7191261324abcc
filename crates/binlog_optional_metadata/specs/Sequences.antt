-- Values in sequence.
use Rattle.std.specs.Prelude.{◌≡◌, ℕ, true, is_ok, List, [], Ok, Err}
use Rattle.binlog_variable_fields.specs.Repeated.{times_at}
use Rattle.binlog_wire.specs.Reading.{Read}

-- The values that were read.
abbrev pub values : {V : Type 0} → Read (List V) → List V
values (Ok x) = x.0
values (Err d) = []

-- All of the bytes were read, as this many values.
abbrev pub IsCount : {V : Type 0} → (List ℕ → Read V) → List ℕ → Read (List V) → ℕ → Type 0
IsCount f s whole count = (whole ≡ Ok (values (times_at count f s), [])) × (is_ok (times_at count f s) ≡ true)
