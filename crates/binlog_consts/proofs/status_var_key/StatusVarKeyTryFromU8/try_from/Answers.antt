use Rattle.std.proofs.Common.{sym, arith}
use Rattle.binlog_consts.specs.StatusVarKeys.{status_var_key_past}
use Rattle.binlog_consts.proofs.status_var_key.StatusVarKeyTryFromU8.try_from.Goals as goal

pub returns-in-21-to-255 : goal.returns-in-21-to-255
returns-in-21-to-255 c = sym (status_var_key_past c.args.number (omega arith))
