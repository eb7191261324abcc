use Rattle.std.proofs.Common.{◌≡◌, ◌++◌, drop, string_bytes}
use Rattle.binlog_gtid_text.specs.Printing.{text_from, set_text}
use Rattle.binlog_gtid_text.proofs.Appended.{AreWritableBelow}
use Rattle.binlog_gtid_text.proofs.printing.to_text.Given as goal

-- the text so far, with that of the groups to come, is the whole
abbrev pub invariant-loop-i : goal.invariant-loop-i
invariant-loop-i l = record {
  whole : string_bytes l.text ++ text_from l.last (drop l.i l.set) ≡ set_text l.set;
  writable : AreWritableBelow l.set l.i;
}
