use Rattle.std.proofs.Common.{refl}
use Rattle.binlog_gtid_sets.proofs.AddedGtids.{adds_nothing, refuses_nothing}
use Rattle.binlog_gtid_sets.proofs.gtid_tracker.GtidTracker.add_event.Goals as goal

pub returns-in_default : goal.returns-in_default
returns-in_default c =
    let other = c.in_default in
    record {
      ok = λ p n. rw (adds_nothing c.args.data.now other.not-GtidEvent other.not-PreviousGtidsEvent p n) refl;
      bad = rw (refuses_nothing c.args.data.now other.not-GtidEvent other.not-PreviousGtidsEvent) tt;
      err = tt;
    }
