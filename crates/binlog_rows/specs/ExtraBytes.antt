-- The extra bytes of row events: at most 65,533 bytes after a 2-byte length that includes itself.
use Rattle.std.specs.Prelude.{ℕ, List, take, ◌-◌}
use Rattle.binlog_wire.specs.Formats.{Format, Place, number, block, then}

-- ---- extra bytes

-- The extra bytes that are used: at most 65,533, since their 2-byte length includes itself.
abbrev pub kept_extra : List ℕ → List ℕ
kept_extra = take 65533

-- A length that includes itself, and the bytes; the lengths 0 and 1 also mean no bytes.
abbrev pub counted : {place : Place} → Format place (ℕ × List ℕ)
counted = then (number 2) (λ count. block (count - 2))
