use Rattle.std.proofs.Common.{append_assoc}
use Rattle.binlog_json_bodies.proofs.rows.write_table.Goals as goal

pub returns : goal.returns
returns c = rw (c.in_ok-text_member-2.ensures, c.in_ok-text_member.ensures, c.in_ok-number_member-2.ensures.added, c.in_ok-number_member.ensures.added, c.table_id.ensures.id, c.from.ensures, c.flags_raw.ensures, c.database_name_raw.ensures, c.table_name_raw.ensures) (simp append_assoc)
