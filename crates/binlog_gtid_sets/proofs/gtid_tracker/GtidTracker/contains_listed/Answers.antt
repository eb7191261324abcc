use Rattle.std.proofs.Common.{[], None, refl, arith}
use Rattle.std.specs.Prelude.{IsTrue}
use Rattle.binlog_gtid_sets.specs.GtidGroups.{pair_of}
use Rattle.binlog_gtid_sets.proofs.GtidDifferences.{entry_listed, entries_done}
use Rattle.binlog_gtid_sets.proofs.gtid_tracker.GtidTracker.contains_listed.Goals as goal

pub returns-then-not-contains_entry : goal.returns-then-not-contains_entry
returns-then-not-contains_entry c = (
  λ h. absurd cc,
  λ all.
      let e = c.entry-item.result in
      let inside : IsTrue c.contains_entry.result =
      c.contains_entry.ensures.1 (λ n held. all (pair_of e.uuid e.tag) n (entry_listed c.args.entries.now c.loop-entry.entry-index n e c.loop-entry-test.true c.entry-item.is held)) in
      absurd cc,
)

pub returns : goal.returns
returns c = (
  λ h q n listed. entries_done c.args.entries.now c.args.self.now c.loop-entry.entry-index (omega arith) c.loop-entry.invariant q n (record { uuid = []; tag = None; intervals = [] }) listed,
  λ all. refl,
)
