use Rattle.std.proofs.Common.{append_assoc}
use Rattle.binlog_json_bodies.proofs.statements.write_statement_head.Goals as goal

pub returns : goal.returns
returns c = rw (c.in_ok-number_member-3.ensures.added, c.in_ok-number_member-2.ensures.added, c.in_ok-number_member.ensures.added, c.from.ensures, c.from-2.ensures, c.from-3.ensures) (simp append_assoc)
