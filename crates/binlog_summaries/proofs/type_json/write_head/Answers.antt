use Rattle.std.proofs.Common.{append_assoc}
use Rattle.binlog_summaries.proofs.type_json.write_head.Goals as goal

pub returns : goal.returns
returns c = rw (c.in_ok-end_object.ensures.added, c.in_ok-write_largest.ensures, c.in_ok-write_times.ensures, c.in_ok-write_counts.ensures, c.in_ok-begin_object.ensures.added, c.clear.ensures) (simp append_assoc)
