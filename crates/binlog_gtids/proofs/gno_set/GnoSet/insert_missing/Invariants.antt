use Rattle.std.proofs.Common.{◌≡◌, ◌≤◌, ◌&&◌, ◌||◌, ℕ, ltb, leb, not, drop}
use Rattle.binlog_gtids.specs.GnoSets.{is_within, is_held}
use Rattle.binlog_gtids.proofs.GnoDifferences.{EndsFrom}
use Rattle.binlog_gtids.proofs.gno_set.GnoSet.insert_missing.Given as goal

-- the numbers so far, with those from `next` on, are those of the set and those missing in the interval
abbrev pub invariant-loop-other : goal.invariant-loop-other
invariant-loop-other l = record {
  from_start : l.interval.start ≤ l.next;
  ends : EndsFrom l.next (drop l.other-index l.other-items);
  held : (n : ℕ) → (is_held l.self n || (leb l.next n && (ltb n l.interval.end && not (is_held (drop l.other-index l.other-items) n)))) ≡ (is_held l.fn.self n || (is_within l.interval n && not (is_held l.others n)));
}
