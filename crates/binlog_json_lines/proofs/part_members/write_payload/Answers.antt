use Rattle.std.proofs.Common.{append_assoc}
use Rattle.binlog_json_lines.proofs.Answered.{map_ok}
use Rattle.binlog_json_lines.proofs.part_members.write_payload.Goals as goal

pub returns : goal.returns
returns c = map_ok c.end_object.result c.end_object.ensures.added (λ is. rw (is, c.in_ok-write_stored.ensures, c.in_ok-write_size.ensures, c.in_ok-key-2.ensures.added, c.in_ok-number_member.ensures.added, c.in_ok-plain_string.ensures.added, c.in_ok-key.ensures.added, c.in_ok-begin_object.ensures.added, c.uncompressed_size.ensures, c.payload_size.ensures, c.compression_name.ensures.name, c.algorithm.ensures) (simp append_assoc))
