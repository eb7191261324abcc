use Rattle.std.proofs.Common.{append_assoc}
use Rattle.binlog_summaries.proofs.inner_json.write_type.Goals as goal

pub returns : goal.returns
returns c = rw (c.in_ok-end_object.ensures.added, c.in_ok-number_member-2.ensures.added, c.in_ok-number_member.ensures.added, c.in_ok-write_type_members.ensures, c.in_ok-begin_object.ensures.added, c.clear.ensures) (simp append_assoc)
