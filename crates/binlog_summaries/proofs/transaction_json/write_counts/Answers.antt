use Rattle.std.proofs.Common.{append_assoc}
use Rattle.binlog_summaries.proofs.transaction_json.write_counts.Goals as goal

pub returns : goal.returns
returns c = rw (c.in_ok-number_member-6.ensures.added, c.in_ok-number_member-5.ensures.added, c.in_ok-number_member-4.ensures.added, c.in_ok-number_member-3.ensures.added, c.in_ok-number_member-2.ensures.added, c.in_ok-number_member.ensures.added) (simp append_assoc)
