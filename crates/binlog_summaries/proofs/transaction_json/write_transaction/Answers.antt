use Rattle.std.proofs.Common.{append_assoc}
use Rattle.binlog_summaries.proofs.transaction_json.write_transaction.Goals as goal

pub returns : goal.returns
returns c = rw (c.in_ok-end_object.ensures.added, c.in_ok-write_tables.ensures, c.in_ok-write_counts.ensures, c.in_ok-write_places.ensures, c.in_ok-write_gtid.ensures, c.as_str.ensures, c.in_ok-begin_object.ensures.added, c.clear.ensures) (simp append_assoc)
