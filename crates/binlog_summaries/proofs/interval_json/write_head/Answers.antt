use Rattle.std.proofs.Common.{append_assoc}
use Rattle.binlog_summaries.proofs.interval_json.write_head.Goals as goal

pub returns : goal.returns
returns c = rw (c.in_ok-end_object.ensures.added, c.in_ok-number_member-2.ensures.added, c.in_ok-number_member.ensures.added, c.in_ok-begin_object.ensures.added, c.clear.ensures, c.len.ensures.len, c.get.ensures.value) (simp append_assoc)
