use Rattle.binary_json.specs.Diffs.{diff_of}
use Rattle.binary_json.proofs.DiffLists.{first_diff}
use Rattle.binary_json.proofs.diffs.JsonDiffsIterator.next.Goals as goal

pub returns-in-Ok-clause-steps : goal.returns-in-Ok-clause-steps
returns-in-Ok-clause-steps c = first_diff c.args.self.now.rest.now (diff_of c.in-Ok.diff) c.in-Ok.rest.now c.in-Ok.ensures
