use Rattle.std.proofs.Common.{arith}
use Rattle.binary_json.specs.Views.{elements, json}
use Rattle.binary_json.proofs.Left.{yields}
use Rattle.binary_json.proofs.iterators.ElementsIterator.next.Goals as goal

pub returns-clause-steps : goal.returns-clause-steps
returns-clause-steps c = yields json (elements c.args.self.now.array) c.args.self.now.index c.get-value.result c.get-value.ensures (omega (arith, c.if-self-len.false, c.len.ensures))
