use Rattle.std.proofs.Common.{append_assoc}
use Rattle.binlog_json_lines.specs.ItemLines.{error_object}
use Rattle.binlog_json_lines.proofs.event_members.write_error.Goals as goal

pub returns : goal.returns
unfolding error_object
returns c = rw (c.in_ok-end_object.ensures.added, c.in_ok-write_mismatch.ensures, c.in_ok-number_member-2.ensures.added, c.in_ok-number_member.ensures.added, c.in_ok-begin_object.ensures.added, c.from.ensures, c.number.ensures) (simp append_assoc)
