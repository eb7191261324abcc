-- Lengths of strings, as contracts see them.
use Rattle.std.specs.Prelude.{ℕ}
use Rattle.binlog_columns.specs.declared.layout.Layout.{Layout}
use Rattle.binlog_columns.specs.declared.layout.Layout.TheVariants.{Counted}

-- The greatest length of a string of this layout; 0 for any other layout.
abbrev pub most_bytes : Layout → ℕ
most_bytes (Counted prefix max) = max
most_bytes _ = 0
