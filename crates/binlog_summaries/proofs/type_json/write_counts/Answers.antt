use Rattle.std.proofs.Common.{append_assoc}
use Rattle.binlog_summaries.proofs.type_json.write_counts.Goals as goal

pub returns : goal.returns
returns c = rw (c.in_ok-number_member-4.ensures.added, c.in_ok-number_member-3.ensures.added, c.in_ok-number_member-2.ensures.added, c.in_ok-number_member.ensures.added, c.all_bytes.ensures, c.all_events.ensures) (simp append_assoc)
