use Rattle.std.proofs.Common.{take}
use Rattle.binlog_statements.specs.StatusVariables.{Variable, variables, HasNoKey, IsFirstOfKey}
use Rattle.binlog_statements.proofs.status_vars.StatusVars.get_status_var.Given as goal

-- what holds of the remaining variables holds of all
abbrev pub invariant-loop-var : goal.invariant-loop-var
invariant-loop-var l = record {
  first : (v : Variable) → IsFirstOfKey l.key (variables l.var-iterator.unread.now) v → IsFirstOfKey l.key (variables (take 65535 l.self.0)) v;
  none : HasNoKey l.key (variables l.var-iterator.unread.now) → HasNoKey l.key (variables (take 65535 l.self.0));
}
