use Rattle.std.proofs.Common.{length, map}
use Rattle.binlog_undo_items.proofs.FirstLogs.{AreFirst}
use Rattle.binlog_undo_items.proofs.splitting.split_logs.Given as goal

-- The logs so far are at the front.
abbrev pub invariant-sizes : goal.invariant-sizes
invariant-sizes l = AreFirst l.bytes l.sizes (map (λ log. log.now) l.logs.items) l.rest l.left

abbrev pub decreases-sizes : goal.decreases-sizes
decreases-sizes l = length l.left
