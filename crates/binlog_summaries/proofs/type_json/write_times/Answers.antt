use Rattle.std.proofs.Common.{append_assoc}
use Rattle.binlog_summaries.proofs.type_json.write_times.Goals as goal

pub returns : goal.returns
returns c = rw (c.in_ok-write_time-2.ensures, c.in_ok-write_time.ensures) (simp append_assoc)
