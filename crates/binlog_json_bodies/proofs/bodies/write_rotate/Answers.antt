use Rattle.std.proofs.Common.{append_assoc}
use Rattle.binlog_json_bodies.proofs.bodies.write_rotate.Goals as goal

pub returns : goal.returns
returns c = rw (c.in_ok-end_object.ensures.added, c.in_ok-text_member.ensures, c.in_ok-number_member.ensures.added, c.in_ok-begin_object.ensures.added, c.position.ensures, c.name_raw.ensures) (simp append_assoc)
