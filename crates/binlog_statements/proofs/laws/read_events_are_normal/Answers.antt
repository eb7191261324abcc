use Rattle.binlog_consts.specs.declared.event_type.EventType.TheVariants.{QUERY_EVENT}
use Rattle.binlog_event_format.specs.DescriptionRefs.{description_of}
use Rattle.binlog_event_format.specs.PostHeaders.{post_header}
use Rattle.binlog_statements.specs.ExecuteLoadQuery.{execute_load_query}
use Rattle.binlog_statements.specs.Query.{query}
use Rattle.binlog_statements.specs.UserVar.{user_var}
use Rattle.binlog_statements.proofs.laws.read_events_are_normal.Goals as goal

pub returns-clause-query : goal.returns-clause-query
returns-clause-query c = λ ctx version s event r bytes read.
    let form = query (post_header (description_of ctx.fde) QUERY_EVENT) in
    form.settled s event r (form.keeps.sound s (event, r) bytes read).0

pub returns-clause-load_query : goal.returns-clause-load_query
returns-clause-load_query c = λ ctx version s event r bytes read. execute_load_query.settled s event r (execute_load_query.keeps.sound s (event, r) bytes read).0

pub returns-clause-user_var : goal.returns-clause-user_var
returns-clause-user_var c = λ ctx version s event r bytes read. user_var.settled s event r (user_var.keeps.sound s (event, r) bytes read).0
