use Rattle.std.proofs.Common.{◌≡◌, length}
use Rattle.binlog_json_values.proofs.names.NumberedNames.make.Given as goal

-- There are as many names as columns before this one.
abbrev pub invariant-names : goal.invariant-names
invariant-names l = length l.self.names.items ≡ l.number
