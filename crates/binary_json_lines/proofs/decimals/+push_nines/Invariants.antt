use Rattle.binary_json_lines.proofs.decimals.+push_nines.Given as goal

abbrev pub decreases-push_nines : goal.decreases-push_nines
decreases-push_nines l = l.count
