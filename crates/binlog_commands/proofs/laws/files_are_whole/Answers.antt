use Rattle.std.proofs.Common.{◌++◌}
use Rattle.binlog_commands.proofs.Wholes.{none_of_mysql, none_of_maria}
use Rattle.binlog_commands.proofs.laws.files_are_whole.Goals as goal

pub returns-clause-mysql : goal.returns-clause-mysql
returns-clause-mysql c = none_of_mysql

pub returns-clause-maria : goal.returns-clause-maria
returns-clause-maria c = λ list front rest new same. none_of_maria (list ++ front) rest new same
