use Rattle.std.proofs.Common.{append_assoc}
use Rattle.binlog_json_lines.specs.ItemLines.{source_members, extent_members, header_members}
use Rattle.binlog_json_lines.proofs.header_members.write_header.Goals as goal

pub returns : goal.returns
unfolding source_members extent_members header_members
returns c = rw (c.in_ok-write_extent.ensures, c.in_ok-write_source.ensures) (simp append_assoc)
