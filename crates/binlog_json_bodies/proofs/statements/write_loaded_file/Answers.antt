use Rattle.std.proofs.Common.{append_assoc}
use Rattle.binlog_json_bodies.proofs.statements.write_loaded_file.Goals as goal

pub returns : goal.returns
returns c = rw (c.in_ok-number_member-4.ensures.added, c.in_ok-number_member-3.ensures.added, c.in_ok-number_member-2.ensures.added, c.in_ok-number_member.ensures.added, c.from.ensures, c.file_id.ensures, c.from-2.ensures, c.start_pos.ensures, c.from-3.ensures, c.end_pos.ensures, c.from-5.ensures, c.from-4.ensures, c.dup_handling.ensures) (simp append_assoc)
