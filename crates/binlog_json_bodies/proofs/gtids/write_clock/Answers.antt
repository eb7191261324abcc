use Rattle.std.proofs.Common.{append_assoc}
use Rattle.binlog_json_bodies.proofs.gtids.write_clock.Goals as goal

pub returns : goal.returns
returns c = rw (c.in_ok-number_member-2.ensures.added, c.in_ok-number_member.ensures.added, c.in_ok-byte_or_null.ensures.added, c.in_ok-key.ensures.added, c.lc_typecode.ensures, c.last_committed.ensures, c.sequence_number.ensures) (simp append_assoc)
