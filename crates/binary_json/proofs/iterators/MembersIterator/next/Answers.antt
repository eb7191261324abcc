use Rattle.std.proofs.Common.{arith}
use Rattle.binary_json.specs.Views.{members}
use Rattle.binary_json.specs.Iterators.{member_of}
use Rattle.binary_json.proofs.Left.{yields}
use Rattle.binary_json.proofs.iterators.MembersIterator.next.Goals as goal

pub returns-clause-steps : goal.returns-clause-steps
returns-clause-steps c = yields member_of (members c.args.self.now.object) c.args.self.now.index c.get_entry-member.result c.get_entry-member.ensures (omega (arith, c.if-self-len.false, c.len.ensures))
