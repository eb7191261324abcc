use Rattle.std.proofs.Common.{◌≡◌, take}
use Rattle.binlog_gtids.proofs.previous_gtids_event.PreviousGtidsEventTryClone.clone.Given as goal

abbrev pub invariant-loop-sid : goal.invariant-loop-sid
invariant-loop-sid l = l.copies.items ≡ take l.sid-index l.self.sids
