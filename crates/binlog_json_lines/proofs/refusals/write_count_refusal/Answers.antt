use Rattle.std.proofs.Common.{append_assoc}
use Rattle.binlog_json_lines.proofs.refusals.write_count_refusal.Goals as goal

pub returns : goal.returns
returns c = rw (c.in_ok-end_array.ensures.added, c.in_ok-end_object.ensures.added, c.in_ok-number_member-2.ensures.added, c.in_ok-number_member.ensures.added, c.in_ok-plain_string.ensures.added, c.in_ok-key.ensures.added, c.in_ok-begin_object.ensures.added, c.in_ok-begin_array.ensures.added) (simp append_assoc)
