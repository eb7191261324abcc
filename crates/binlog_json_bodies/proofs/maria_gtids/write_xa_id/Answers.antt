use Rattle.std.proofs.Common.{append_assoc}
use Rattle.binlog_json_bodies.proofs.maria_gtids.write_xa_id.Goals as goal

pub returns : goal.returns
returns c = rw (c.in_ok-end_object.ensures.added, c.in_ok-bytes_member-2.ensures, c.in_ok-bytes_member.ensures, c.in_ok-number_member.ensures.added, c.in_ok-begin_object.ensures.added, c.from.ensures, c.format_id.ensures, c.gtrid.ensures, c.bqual.ensures) (simp append_assoc)
