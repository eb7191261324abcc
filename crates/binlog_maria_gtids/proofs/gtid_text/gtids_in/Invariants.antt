use Rattle.std.proofs.Common.{◌≡◌, take, map, vec_len}
use Rattle.binlog_maria_gtids.specs.GtidReading.{AreRead}
use Rattle.binlog_maria_gtids.proofs.gtid_text.gtids_in.Given as goal

-- The parts so far are read as the GTIDs.
abbrev pub invariant-loop-part : goal.invariant-loop-part
invariant-loop-part l = record {
  read : AreRead (take l.part-index (map (λ part. part.now) l.parts)) l.gtids.items;
  count : vec_len l.gtids ≡ l.part-index;
}
