use Rattle.binary_json_writing.proofs.words.+push_variable.Given as goal

abbrev pub decreases-push_variable : goal.decreases-push_variable
decreases-push_variable l = l.most
