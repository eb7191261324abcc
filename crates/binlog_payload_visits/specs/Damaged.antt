-- The number of items of which a part is an error.
use Rattle.std.specs.Prelude.{◌≡◌, ℕ, ◌+◌, ◌-◌, ◌^◌, min, List, [], ◌∷◌, Option, Some, None, Result}
use Rattle.binlog_wire.specs.declared.error.Error.{Error}
use Rattle.binlog_events.specs.Events.{EventView}
use Rattle.binlog_payload_visits.specs.Finding.{IsFirstError}
use Rattle.binlog_payload_visits.specs.declared.part_error.PartError.{PartError}

-- The number; 2^64 - 1 if it is larger.
abbrev pub saturated : ℕ → ℕ
saturated n = min n (2 ^ 64 - 1)

-- The number behind one more item, with this first error inside.
abbrev pub damaged_behind : Option PartError → ℕ → ℕ
damaged_behind None damaged = damaged
damaged_behind (Some e) damaged = saturated (damaged + 1)

-- One, if there is an error.
abbrev pub one_if : Option PartError → ℕ
one_if None = 0
one_if (Some e) = 1

-- So many of the items have a part that is an error.
abbrev pub HaveDamaged : (limit : ℕ) → List (Result EventView Error) → ℕ → Type 0
HaveDamaged limit [] n = n ≡ 0
HaveDamaged limit (item ∷ items) n =
    (found : Option PartError) × IsFirstError limit item found × (others : ℕ) × HaveDamaged limit items others × (n ≡ one_if found + others)
