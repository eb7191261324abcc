use Rattle.std.proofs.Common.{append_assoc}
use Rattle.binlog_summaries.proofs.table_json.write_counts.Goals as goal

pub returns : goal.returns
returns c = rw (c.in_ok-write_time-2.ensures, c.in_ok-write_time.ensures, c.in_ok-number_member-7.ensures.added, c.in_ok-number_member-6.ensures.added, c.in_ok-number_member-5.ensures.added, c.in_ok-number_member-4.ensures.added, c.in_ok-number_member-3.ensures.added, c.in_ok-number_member-2.ensures.added, c.in_ok-number_member.ensures.added) (simp append_assoc)
