use Rattle.std.proofs.Common.{arith}
use Rattle.binary_json_writing.proofs.Appending.{variable_pushed}
use Rattle.binary_json_writing.proofs.words.+push_variable.Goals as goal

pub returns : goal.returns
returns t c = variable_pushed c.push_variable.result c.args.most c.args.number c.args.out.now.items c.push-2.new.self.items c.push_variable.new.out.items (omega arith) (omega arith) c.in_ok-push-3.ensures.items c.push_variable.ensures
