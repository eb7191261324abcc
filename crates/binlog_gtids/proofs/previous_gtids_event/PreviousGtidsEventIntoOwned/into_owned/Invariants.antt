use Rattle.std.proofs.Common.{◌≡◌}
use Rattle.binlog_gtids.proofs.previous_gtids_event.PreviousGtidsEventIntoOwned.into_owned.Given as goal

abbrev pub invariant-loop-sid : goal.invariant-loop-sid
invariant-loop-sid l = l.owned.items ≡ l.yielded
