use Rattle.binary_json.specs.Views.{members}
use Rattle.binary_json.proofs.Keys.{Passed}
use Rattle.binary_json.proofs.containers.Object.get.Given as goal

-- No key so far is the one.
abbrev pub invariant-members : goal.invariant-members
invariant-members l = Passed l.key l.index (members l.self)
