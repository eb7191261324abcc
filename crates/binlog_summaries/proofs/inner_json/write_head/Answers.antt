use Rattle.std.proofs.Common.{append_assoc}
use Rattle.binlog_summaries.proofs.inner_json.write_head.Goals as goal

pub returns : goal.returns
returns c = rw (c.in_ok-end_object.ensures.added, c.in_ok-number_member-3.ensures.added, c.in_ok-number_member-2.ensures.added, c.in_ok-number_member.ensures.added, c.in_ok-begin_object.ensures.added, c.clear.ensures, c.all_bytes.ensures, c.all_events.ensures) (simp append_assoc)
