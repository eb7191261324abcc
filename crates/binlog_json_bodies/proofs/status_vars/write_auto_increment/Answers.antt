use Rattle.std.proofs.Common.{append_assoc}
use Rattle.binlog_json_bodies.proofs.status_vars.write_auto_increment.Goals as goal

pub returns : goal.returns
returns c = rw (c.in_ok-end_object-2.ensures.added, c.in_ok-end_object.ensures.added, c.in_ok-number_member-2.ensures.added, c.in_ok-number_member.ensures.added, c.in_ok-begin_object.ensures.added, c.in_ok-begin_entry.ensures.added, c.from.ensures, c.from-2.ensures) (simp append_assoc)
