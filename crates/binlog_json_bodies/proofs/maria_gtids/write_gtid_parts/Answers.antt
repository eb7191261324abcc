use Rattle.std.proofs.Common.{append_assoc}
use Rattle.binlog_json_bodies.proofs.maria_gtids.write_gtid_parts.Goals as goal

pub returns : goal.returns
returns c = rw (c.in_ok-write_extra_or_null.ensures, c.in_ok-key-3.ensures.added, c.in_ok-write_xa_id_or_null.ensures, c.in_ok-key-2.ensures.added, c.in_ok-write_number_or_null.ensures, c.in_ok-key.ensures.added, c.commit_id.ensures, c.xa_id.ensures, c.extra.ensures) (simp append_assoc)
