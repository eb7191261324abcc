use Rattle.std.proofs.Common.{append_assoc}
use Rattle.binlog_json_bodies.proofs.status_vars.write_invoker.Goals as goal

pub returns : goal.returns
returns c = rw (c.in_ok-end_object-2.ensures.added, c.in_ok-end_object.ensures.added, c.in_ok-text_member-2.ensures, c.in_ok-text_member.ensures, c.in_ok-begin_object.ensures.added, c.in_ok-begin_entry.ensures.added) (simp append_assoc)
