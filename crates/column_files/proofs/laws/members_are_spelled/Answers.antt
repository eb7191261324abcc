use Rattle.column_files.proofs.MemberSpellings.{members_back, are_spelled}
use Rattle.column_files.proofs.laws.members_are_spelled.Goals as goal

pub returns-clause-back : goal.returns-clause-back
returns-clause-back c = members_back

pub returns-clause-spelled : goal.returns-clause-spelled
returns-clause-spelled c = are_spelled
