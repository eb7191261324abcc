use Rattle.std.proofs.Common.{append_assoc}
use Rattle.binlog_json_lines.specs.ItemLines.{source_members, origin_members, extent_members, header_members, event_fields, event_head}
use Rattle.binlog_json_lines.proofs.event_members.write_next_event_head.Goals as goal

pub returns : goal.returns
unfolding source_members origin_members extent_members header_members event_fields event_head
returns c = rw (c.in_ok-write_checksum.ensures, c.in_ok-write_extent.ensures, c.in_ok-write.ensures, c.in_ok-number_member.ensures.added, c.header-header.ensures) (simp append_assoc)
