-- The names of the event types of both servers, by number.
use Rattle.std.specs.Prelude.{ℕ, List, Option, option_map}
use Rattle.std.specs.Option.{option_or}
use Rattle.std.specs.Result.{result_ok}
use Rattle.binlog_consts.specs.EventTypes.{event_type_of}
use Rattle.binlog_mariadb.specs.EventTypes.{maria_event_type_of}
use Rattle.binlog_event_types.specs.MysqlNames.{type_name}
use Rattle.binlog_event_types.specs.MariaNames.{maria_name}

-- The name of MySQL's type with this number, if there is one.
abbrev pub mysql_name_of_number : ℕ → Option (List ℕ)
mysql_name_of_number number = option_map type_name (result_ok (event_type_of number))

-- The name of MariaDB's own type with this number, if there is one.
abbrev pub maria_name_of_number : ℕ → Option (List ℕ)
maria_name_of_number number = option_map maria_name (result_ok (maria_event_type_of number))

-- The name of the type with this number, of either server.
abbrev pub name_of_number : ℕ → Option (List ℕ)
name_of_number number = option_or (mysql_name_of_number number) (maria_name_of_number number)
