use Rattle.binlog_json_lines.proofs.part_members.write_stored.Goals as goal

pub returns-then-keeps_stored : goal.returns-then-keeps_stored
returns-then-keeps_stored c = rw c.if-keeps_stored.true (rw c.payload_raw.ensures at c.bytes_member.ensures)
