-- The objects of statements and user variables.
use Rattle.std.specs.Prelude.{ℕ, ℤ, pos, Bool, List, [], ◌∷◌, ◌++◌, take, codes, is_none, Option, Result, Ok, Err}
use Rattle.std.specs.Fmt.{signed_decimal}
use Rattle.std.specs.Int.{cast_signed, w8}
use Rattle.json.specs.Token.{Token, number, boolean}
use Rattle.binlog_file.specs.StatementCodes.{dup_handling_number, item_result_number, item_result_of}
use Rattle.binlog_file.specs.declared.ItemResult.{ItemResult}
use Rattle.binlog_file.specs.declared.UnknownItemResultType.{UnknownItemResultType}
use Rattle.binlog_file.specs.UserVar.{type_of, charset_of, bytes_of, flags_of}
use Rattle.binlog_file.specs.Types.{Statement}
use Rattle.binlog_file.specs.declared.QueryEvent.{QueryEvent}
use Rattle.binlog_file.specs.declared.ExecuteLoadQueryEvent.{ExecuteLoadQueryEvent}
use Rattle.binlog_file.specs.declared.UserVarEvent.{UserVarEvent}
use Rattle.json_line.specs.Tokens.{number_value, text_value, text_value_in_stated, bytes_value, member, object}
use Rattle.character_sets.specs.declared.character_set.CharacterSet.{CharacterSet}
use Rattle.binlog_json_bodies.specs.StatusVars.{status_vars_members}
use Rattle.binlog_json_bodies.specs.ClientSets.{client_set}

-- ---- statements

-- The thread id, the execution time and the error code.
abbrev pub head_members : (thread_id execution_time error_code : ℕ) → List Token
head_members thread_id execution_time error_code =
    member (codes "thread_id") (number_value thread_id)
    ++ member (codes "execution_time") (number_value execution_time)
    ++ member (codes "error_code") (number_value error_code)

abbrev pub statement_head : Statement → List Token
statement_head s = head_members s.thread_id s.execution_time s.error_code

-- The schema name and the statement, which is a text in this character set.
abbrev pub schema_and_query : Option CharacterSet → (schema query : List ℕ) → List Token
schema_and_query client schema query = member (codes "schema") (text_value schema) ++ member (codes "query") (text_value_in_stated client query)

-- The status variables and the bytes after them, the schema name and the statement, in the client's character set.
abbrev pub texts_members : (is_maria : Bool) → (status_vars schema query : List ℕ) → List Token
texts_members is_maria status_vars schema query =
    status_vars_members status_vars ++ schema_and_query (client_set is_maria status_vars) schema query

-- The same of a statement in a log that MariaDB wrote, or MySQL.
abbrev pub statement_texts : (is_maria : Bool) → Statement → List Token
statement_texts is_maria s = texts_members is_maria (take 65535 s.texts.status_vars.0) (take 255 s.texts.schema) s.texts.query

-- The object of a QUERY event.
abbrev pub query_object : (is_maria : Bool) → QueryEvent → List Token
query_object is_maria e = object (statement_head e.statement ++ statement_texts is_maria e.statement)

-- The fields of the file that is loaded.
abbrev pub loaded_file : ExecuteLoadQueryEvent → List Token
loaded_file e =
    member (codes "file_id") (number_value e.file_id)
    ++ member (codes "start_pos") (number_value e.start_pos)
    ++ member (codes "end_pos") (number_value e.end_pos)
    ++ member (codes "dup_handling") (number_value (dup_handling_number e.dup_handling))

-- The object of an EXECUTE_LOAD_QUERY event.
abbrev pub execute_load_query_object : (is_maria : Bool) → ExecuteLoadQueryEvent → List Token
execute_load_query_object is_maria e = object (statement_head e.statement ++ loaded_file e ++ statement_texts is_maria e.statement)

-- ---- user variables

-- The number of a value type, known or not.
abbrev pub value_type_number : Result ItemResult UnknownItemResultType → ℤ
value_type_number (Ok type) = pos (item_result_number type)
value_type_number (Err unknown) = unknown.0

-- The value of a user variable; a null is an empty text.
abbrev pub user_var_value : UserVarEvent → List Token
user_var_value e =
    member (codes "value_type") (number (signed_decimal (value_type_number (item_result_of (cast_signed w8 (type_of e.value))))) ∷ [])
    ++ member (codes "charset") (number_value (charset_of e.value))
    ++ member (codes "value") (bytes_value (bytes_of e.value))
    ++ member (codes "flags") (number_value (flags_of e.value))

-- The object of a USER_VAR event.
abbrev pub user_var_object : UserVarEvent → List Token
user_var_object e =
    object (member (codes "name") (text_value (take 4294967295 e.name)) ++ member (codes "is_null") (boolean (is_none e.value) ∷ []) ++ user_var_value e)
