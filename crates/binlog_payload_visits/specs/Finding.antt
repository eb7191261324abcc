-- The first error inside an item of a log.
use Rattle.std.specs.Prelude.{◌≡◌, ℕ, ◌+◌, List, [], ◌∷◌, Option, Some, None, Result, Ok, Err}
use Rattle.binlog_wire.specs.declared.error.Error.{Error}
use Rattle.binlog_events.specs.Events.{EventView}
use Rattle.binlog_payload_visits.specs.Parts.{Part, AreParts}
use Rattle.binlog_payload_visits.specs.declared.part_error.PartError.{PartError}

-- The first error among parts, where `number` is that of the first part.
abbrev pub first_error : ℕ → List Part → Option PartError
first_error number [] = None
first_error number (Ok event ∷ parts) = first_error (number + 1) parts
first_error number (Err e ∷ parts) = Some (record { part = number; error = e })

-- This is the first error among the parts of the item, if one is an error. A content of more than `limit` bytes is.
abbrev pub IsFirstError : (limit : ℕ) → Result EventView Error → Option PartError → Type 0
IsFirstError limit item found = (parts : List Part) × AreParts limit item parts × (found ≡ first_error 0 parts)
