use Rattle.std.proofs.Common.{append_assoc}
use Rattle.binlog_json_bodies.proofs.bodies.write_description_head.Goals as goal

pub returns : goal.returns
returns c = rw (c.in_ok-number_member-2.ensures.added, c.in_ok-text_member.ensures, c.in_ok-number_member.ensures.added, c.from-2.ensures, c.from.ensures, c.binlog_version.ensures, c.before_zero.ensures, c.server_version_raw.ensures, c.from-3.ensures, c.create_timestamp.ensures) (simp append_assoc)
