use Rattle.std.proofs.Common.{arith}
use Rattle.binlog_json_values.proofs.SetTexts.{member_passed, no_bits}
use Rattle.binlog_json_values.proofs.members.push_members.Goals as goal

pub members-preserved-then-bit-eq0 : goal.members-preserved-then-bit-eq0
members-preserved-then-bit-eq0 c =
    member_passed c.args.comma.now c.members.text.items _ c.args.members.now c.members.member-index c.members.bits c.members.is_first (omega arith) (omega (arith, c.if-bit-eq0.true)) c.members.invariant

pub returns-then-bits-eq0 : goal.returns-then-bits-eq0
returns-then-bits-eq0 c = no_bits c.args.comma.now c.members.text.items _ c.args.members.now c.members.member-index c.members.bits c.members.is_first (omega (arith, c.if-bits-eq0.true)) c.members.invariant
