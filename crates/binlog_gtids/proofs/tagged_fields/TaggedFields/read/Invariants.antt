use Rattle.std.proofs.Common.{◌≡◌, List, length}
use Rattle.binlog_wire.specs.Fields.{IsBytes}
use Rattle.binlog_variable_fields.specs.Within.{until_at}
use Rattle.binlog_variable_fields.specs.Laws.RepeatedLoops.{behind_values}
use Rattle.binlog_gtids.specs.TaggedFields.{Entry, entry}
use Rattle.binlog_gtids.specs.Tagged.{fields}
use Rattle.binlog_gtids.specs.TaggedValues.{is_tail}
use Rattle.binlog_gtids.specs.Taking.{no_fields, taken}
use Rattle.binlog_gtids.proofs.tagged_fields.TaggedFields.read.Given as goal

abbrev pub invariant-loop-fields : goal.invariant-loop-fields
invariant-loop-fields l = (es : List Entry) × ((fields l.last_id).reads l.fn.body ≡ behind_values es (until_at (is_tail l.last_id) entry.reads l.buf)) × (l.fields ≡ taken es no_fields) × IsBytes l.buf

abbrev pub decreases-loop-fields : goal.decreases-loop-fields
decreases-loop-fields l = length l.buf
