use Rattle.std.proofs.Common.{append_assoc}
use Rattle.binlog_json_bodies.proofs.statements.write_user_var_value.Goals as goal

pub returns : goal.returns
returns c = rw (c.in_ok-number_member-2.ensures.added, c.in_ok-bytes_member.ensures, c.in_ok-number_member.ensures.added, c.in_ok-write_value_type.ensures, c.in_ok-key.ensures.added, c.value_type.ensures, c.from.ensures, c.charset.ensures, c.value.ensures, c.from-2.ensures, c.flags_raw.ensures) (simp append_assoc)
