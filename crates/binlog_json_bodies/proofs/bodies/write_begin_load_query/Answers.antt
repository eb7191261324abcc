use Rattle.std.proofs.Common.{append_assoc}
use Rattle.binlog_json_bodies.proofs.bodies.write_begin_load_query.Goals as goal

pub returns : goal.returns
returns c = rw (c.in_ok-end_object.ensures.added, c.in_ok-bytes_member.ensures, c.in_ok-number_member.ensures.added, c.in_ok-begin_object.ensures.added, c.from.ensures, c.file_id.ensures, c.block_data.ensures) (simp append_assoc)
