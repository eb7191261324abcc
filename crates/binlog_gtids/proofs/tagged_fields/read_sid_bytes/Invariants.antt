use Rattle.std.proofs.Common.{◌≡◌, ◌-◌, length, take}
use Rattle.binlog_variable_fields.specs.Repeated.{times_at}
use Rattle.binlog_variable_fields.specs.Laws.RepeatedLoops.{behind_values}
use Rattle.binlog_gtids.specs.TaggedFields.{at_most}
use Rattle.binlog_gtids.proofs.tagged_fields.read_sid_bytes.Given as goal

abbrev pub invariant-loop-index : goal.invariant-loop-index
invariant-loop-index l = record {
  read : times_at 16 (at_most 1 255).reads l.fn.buf ≡ behind_values (take l.index l.sid) (times_at (16 - l.index) (at_most 1 255).reads l.buf);
  whole : length l.sid ≡ 16;
}
