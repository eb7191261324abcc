-- Intervals of GNOs: the first number, 8 bytes, and the number after the last, 8 bytes.
-- Source: MySQL's source documentation, `Gtid_set::encode`.
use Rattle.std.proofs.Common.{ℕ, refl}
use Rattle.binlog_wire.specs.Formats.{Format, anywhere, number, unit, ◌⨾◌, seen_as}
use Rattle.binlog_variable_fields.specs.declared.gno_interval.GnoInterval.{GnoInterval}

-- Start and end of an interval.
abbrev pub ends_of : GnoInterval → ℕ × ℕ
ends_of i = (i.start, i.end)

-- The interval with this start and end.
abbrev pub interval_of : ℕ × ℕ → GnoInterval
interval_of fields = record { start = fields.0; end = fields.1 }

-- The format of an interval, one unit of 16 bytes.
abbrev pub gno_interval : Format anywhere GnoInterval
gno_interval = seen_as interval_of ends_of (λ _. refl) (λ _. refl) (unit (number 8 ⨾ number 8))
