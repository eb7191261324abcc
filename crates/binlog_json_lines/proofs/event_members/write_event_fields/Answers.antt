use Rattle.std.proofs.Common.{append_assoc}
use Rattle.binlog_json_lines.specs.ItemLines.{event_fields}
use Rattle.binlog_json_lines.proofs.event_members.write_event_fields.Goals as goal

pub returns : goal.returns
unfolding event_fields
returns c = rw (c.in_ok-write_checksum.ensures, c.in_ok-write_header.ensures, c.in_ok-write_type.ensures, c.header-header.ensures) (simp append_assoc)
