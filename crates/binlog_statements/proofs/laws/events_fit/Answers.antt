use Rattle.binlog_statements.specs.Laws.Ranges.{query_fits, load_query_fits, user_var_fits}
use Rattle.binlog_statements.proofs.laws.events_fit.Goals as goal

pub returns-clause-query : goal.returns-clause-query
returns-clause-query c = λ version event range. query_fits 13 event range

pub returns-clause-load_query : goal.returns-clause-load_query
returns-clause-load_query c = λ version event range. load_query_fits event range

pub returns-clause-user_var : goal.returns-clause-user_var
returns-clause-user_var c = λ version event range. user_var_fits event range
