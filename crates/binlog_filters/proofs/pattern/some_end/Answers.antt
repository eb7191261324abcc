use Rattle.std.proofs.Common.{sym, ◌∙◌, rules}
use Rattle.binlog_filters.proofs.Patterns.{none_found}
use Rattle.binlog_filters.proofs.pattern.some_end.Goals as goal

pub returns-in-None : goal.returns-in-None
returns-in-None c = sym (none_found c.ends.pattern.now c.ends.name.now (search rules) (search rules)) ∙ c.ends.invariant
