use Rattle.std.proofs.Common.{sym, rules}
use Rattle.binlog_statements.proofs.VariableLaws.{variables-some, variables-none, variables-nil, fewer_behind}
use Rattle.binlog_statements.proofs.status_vars.StatusVarsIteratorIterator.next.Goals as goal

pub returns-in-Some-clause-steps : goal.returns-in-Some-clause-steps
returns-in-Some-clause-steps c = variables-some _ _ (sym c.in-Some.ensures)

pub returns-in-Some-clause-goes : goal.returns-in-Some-clause-goes
returns-in-Some-clause-goes c =
    let less = fewer_behind _ _ _ (variables-some _ _ (sym c.in-Some.ensures)) in
    record { on = λ _. (search rules, search rules, less); keeps = search rules; rests = λ _. search rules }

pub returns-in-None-clause-steps : goal.returns-in-None-clause-steps
returns-in-None-clause-steps c = (variables-none _ (sym c.in-None.ensures), variables-nil)
