-- Values whose fields are in the ranges of their types: numbers of their width, texts of bytes. Each fits its format.
use Rattle.std.specs.Prelude.{ℕ, ◌<◌, ◌^◌, Option, Some, None}
use Rattle.binlog_wire.specs.Fields.{IsBytes}
use Rattle.binlog_statements.specs.declared.statement.Statement.{Statement}
use Rattle.binlog_statements.specs.declared.query.QueryEvent.{QueryEvent}
use Rattle.binlog_statements.specs.declared.execute_load_query.ExecuteLoadQueryEvent.{ExecuteLoadQueryEvent}
use Rattle.binlog_statements.specs.declared.user_var.UserVarValue.{UserVarValue}
use Rattle.binlog_statements.specs.declared.user_var.UserVarEvent.{UserVarEvent}

-- ---- statements

-- The fields of a statement are in the ranges of their types.
pub record IsStatementInRange (e : Statement) : Type 0 where
  pub thread_id : e.thread_id < 256 ^ 4
  pub execution_time : e.execution_time < 256 ^ 4
  pub error_code : e.error_code < 256 ^ 2
  pub status_vars : IsBytes e.texts.status_vars.0
  pub schema : IsBytes e.texts.schema
  pub query : IsBytes e.texts.query

-- The fields of a QUERY event are in the ranges of their types.
pub record IsQueryInRange (e : QueryEvent) : Type 0 where
  pub statement : IsStatementInRange e.statement

-- The fields of an EXECUTE_LOAD_QUERY event are in the ranges of their types.
pub record IsLoadQueryInRange (e : ExecuteLoadQueryEvent) : Type 0 where
  pub statement : IsStatementInRange e.statement
  pub file_id : e.file_id < 256 ^ 4
  pub start_pos : e.start_pos < 256 ^ 4
  pub end_pos : e.end_pos < 256 ^ 4

-- ---- user variables

-- The fields of a user variable's value are in the ranges of their types.
pub record IsValueInRange (v : UserVarValue) : Type 0 where
  pub value_type : v.value_type < 256
  pub charset : v.charset < 256 ^ 4
  pub value : IsBytes v.value
  pub flags : v.flags < 256

-- A null has no fields.
abbrev pub IsHeldInRange : Option UserVarValue → Type 0
IsHeldInRange (Some value) = IsValueInRange value
IsHeldInRange None = Unit {0}

-- The fields of a USER_VAR event are in the ranges of their types.
pub record IsUserVarInRange (e : UserVarEvent) : Type 0 where
  pub name : IsBytes e.name
  pub value : IsHeldInRange e.value
