use Rattle.std.proofs.Common.{◌≡◌, ◌-◌}
use Rattle.binlog_variable_fields.specs.Repeated.{times_at}
use Rattle.binlog_optional_metadata.proofs.Sequences.{rest_of}
use Rattle.binlog_optional_metadata.specs.Lists.{text_list}
use Rattle.binlog_optional_metadata.proofs.member_lists.MemberLists.read.Given as goal

abbrev pub invariant-loop-index : goal.invariant-loop-index
invariant-loop-index l = rest_of (times_at l.left text_list.reads l.fn.buf) ≡ rest_of (times_at (l.left - l._index) text_list.reads l.buf)
