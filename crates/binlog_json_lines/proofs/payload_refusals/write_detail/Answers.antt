use Rattle.binlog_json_lines.proofs.payload_refusals.write_detail.Goals as goal

pub returns-in-Kind : goal.returns-in-Kind
returns-in-Kind c = rw c.in-Kind.is c.number_member.ensures.added

pub returns-in-Type : goal.returns-in-Type
returns-in-Type c = rw c.in-Type.is (rw c.from.ensures at c.number_member-in-Type.ensures.added)
