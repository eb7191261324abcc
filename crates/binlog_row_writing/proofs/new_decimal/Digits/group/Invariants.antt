use Rattle.std.proofs.Common.{◌≡◌, ◌-◌}
use Rattle.binlog_row_writing.specs.Decimals.{group_number}
use Rattle.binlog_row_writing.proofs.new_decimal.Digits.group.Given as goal

abbrev pub invariant-loop-index : goal.invariant-loop-index
invariant-loop-index l = l.number ≡ group_number l.self.precision l.self.digits.now (l.index - l.at) l.at
