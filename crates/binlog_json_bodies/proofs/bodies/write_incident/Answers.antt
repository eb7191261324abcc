use Rattle.std.proofs.Common.{append_assoc}
use Rattle.binlog_json_bodies.proofs.bodies.write_incident.Goals as goal

pub returns : goal.returns
returns c = rw (c.in_ok-end_object.ensures.added, c.in_ok-text_member.ensures, c.in_ok-number_member.ensures.added, c.in_ok-begin_object.ensures.added, c.from.ensures, c.incident_number.ensures, c.incident_type.ensures, c.message_raw.ensures) (simp append_assoc)
