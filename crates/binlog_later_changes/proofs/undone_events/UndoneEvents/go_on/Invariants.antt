use Rattle.std.proofs.Common.{◌≡◌, length}
use Rattle.binlog_later_changes.specs.Places.{places_of}
use Rattle.binlog_later_changes.proofs.undone_events.UndoneEvents.go_on.Given as goal

-- The same are left.
abbrev pub invariant-transactions : goal.invariant-transactions
invariant-transactions l = places_of l.self ≡ places_of l.fn.self

abbrev pub decreases-transactions : goal.decreases-transactions
decreases-transactions l = length l.self.transactions.now
