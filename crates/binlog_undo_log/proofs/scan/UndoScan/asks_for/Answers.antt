use Rattle.std.proofs.Common.{◌≡◌, Bool, true, false, refl}
use Rattle.std.specs.Prelude.{◌&&◌, not}
use Rattle.binlog_undo_log.proofs.scan.UndoScan.asks_for.Goals as goal

nothing_and : (b other : Bool) → b ≡ false → b ≡ (b && other)
nothing_and true other h = absurd cc
nothing_and false other h = refl

pub returns-else-is_within-clause-ok : goal.returns-else-is_within-clause-ok
returns-else-is_within-clause-ok c = (
  c.in_ok-is_within.is_within,
  c.in_ok-is_without.is_without,
  c.in_ok-is_within.ensures.ok,
  c.in_ok-is_without.ensures.ok,
  nothing_and c.in_ok-is_within.is_within (not c.in_ok-is_without.is_without) c.if-is_within.false,
)
