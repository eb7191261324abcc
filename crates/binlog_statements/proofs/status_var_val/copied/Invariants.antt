use Rattle.std.proofs.Common.{◌≡◌, take}
use Rattle.binlog_statements.proofs.status_var_val.copied.Given as goal

abbrev pub invariant-loop-name : goal.invariant-loop-name
invariant-loop-name l = l.copies.items ≡ take l.name-index l.names
