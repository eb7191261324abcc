use Rattle.std.proofs.Common.{append_assoc}
use Rattle.binlog_json_bodies.proofs.maria_gtids.write_extra.Goals as goal

pub returns : goal.returns
returns c = rw (c.in_ok-end_object.ensures.added, c.in_ok-write_thread_id_or_null.ensures, c.in_ok-key-3.ensures.added, c.in_ok-write_number_or_null.ensures, c.in_ok-key-2.ensures.added, c.in_ok-byte_or_null.ensures.added, c.in_ok-key.ensures.added, c.in_ok-number_member.ensures.added, c.in_ok-begin_object.ensures.added, c.from.ensures, c.flags.ensures, c.engines.ensures, c.alter_sequence.ensures, c.thread_id.ensures) (simp append_assoc)
