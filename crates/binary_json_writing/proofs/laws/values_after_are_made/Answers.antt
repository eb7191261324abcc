use Rattle.binary_json_writing.proofs.ValuesAfter.{all_make, after_known, not_applied}
use Rattle.binary_json_writing.proofs.laws.values_after_are_made.Goals as goal

pub returns-clause-made : goal.returns-clause-made
returns-clause-made c = all_make

pub returns-clause-known : goal.returns-clause-known
returns-clause-known c = after_known

pub returns-clause-refused : goal.returns-clause-refused
returns-clause-refused c = not_applied
