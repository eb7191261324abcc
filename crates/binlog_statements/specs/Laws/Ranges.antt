-- Events of statements whose fields are in the ranges of their types fit their formats.
use Rattle.std.specs.Prelude.{ℕ, ◌<◌, ◌≤◌, ◌^◌, Option, Some, None, List, length, take}
use Rattle.std.proofs.Common.{arith, refl}
use Rattle.std.proofs.lemmas.List.{length-take}
use Rattle.binlog_wire.specs.Formats.{FitsEither}
use Rattle.binlog_statements.specs.Statements.{head, head_of}
use Rattle.binlog_statements.specs.Query.{query}
use Rattle.binlog_statements.specs.ExecuteLoadQuery.{execute_load_query}
use Rattle.binlog_statements.specs.UserVar.{user_var, user_var_value, sum_of}
use Rattle.binlog_statements.specs.Ranges.{IsStatementInRange, IsQueryInRange, IsLoadQueryInRange, IsHeldInRange, IsUserVarInRange}
use Rattle.binlog_statements.specs.declared.statement.Statement.{Statement}
use Rattle.binlog_statements.specs.declared.query.QueryEvent.{QueryEvent}
use Rattle.binlog_statements.specs.declared.execute_load_query.ExecuteLoadQueryEvent.{ExecuteLoadQueryEvent}
use Rattle.binlog_statements.specs.declared.user_var.UserVarValue.{UserVarValue}
use Rattle.binlog_statements.specs.declared.user_var.UserVarEvent.{UserVarEvent}

-- A truncated text has at most the maximum length.
cut_fits : (max : ℕ) (s : List ℕ) → length (take max s) ≤ max
cut_fits max s = omega (arith, length-take max s)

head_fits : (e : Statement) → IsStatementInRange e → head.Fits (head_of e)
head_fits e range =
    let schema : length (take 255 e.texts.schema) < 256 ^ 1 = omega (arith, cut_fits 255 e.texts.schema) in
    let variables : length (take 65535 e.texts.status_vars.0) < 256 ^ 2 = omega (arith, cut_fits 65535 e.texts.status_vars.0) in
    (range.thread_id, (range.execution_time, (schema, (range.error_code, variables))))

pub query_fits : (post_header : ℕ) (e : QueryEvent) → IsQueryInRange e → (query post_header).Fits e
query_fits post_header e range = (head_fits e.statement range.statement, (refl, (refl, tt)))

pub load_query_fits : (e : ExecuteLoadQueryEvent) → IsLoadQueryInRange e → execute_load_query.Fits e
load_query_fits e range =
    ((head_fits e.statement range.statement, (range.file_id, (range.start_pos, (range.end_pos, tt)))), (refl, (refl, tt)))

held_fits : (x : Option UserVarValue) → IsHeldInRange x → FitsEither user_var_value.Fits (λ null. Unit {0}) (sum_of x)
held_fits (Some value) range = ((range.value_type, range.charset), (tt, range.flags))
held_fits None range = tt

pub user_var_fits : (e : UserVarEvent) → IsUserVarInRange e → user_var.Fits e
user_var_fits e range = (tt, held_fits e.value range.value)
