-- An interval takes 16 bytes.
use Rattle.std.proofs.Common.{◌≡◌, ℕ, ◌+◌, List, length, arith}
use Rattle.binlog_wire.specs.Laws.Numbers.{length-number}
use Rattle.binlog_variable_fields.specs.declared.gno_interval.GnoInterval.{GnoInterval}
use Rattle.binlog_variable_fields.specs.GnoIntervals.{gno_interval}

pub interval_long : (s : List ℕ) (i : GnoInterval) (r : List ℕ) → gno_interval.spells s i r → length s ≡ 16 + length r
interval_long s i r h = omega (arith, length-number 8 s i.start h.0 h.1, length-number 8 h.0 i.end r h.2)
