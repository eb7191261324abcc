use Rattle.binary_json.proofs.scalar.+variable_in.Given as goal

abbrev pub decreases-variable_in : goal.decreases-variable_in
decreases-variable_in l = l.most
