use Rattle.binlog_statements.proofs.VariableLaws.{variables_are, variables_only}
use Rattle.binlog_statements.proofs.laws.one_list_of_variables.Goals as goal

pub returns : goal.returns
returns c = record { some = variables_are; one = variables_only }
