use Rattle.std.proofs.Common.{sym}
use Rattle.std.proofs.Math.Nat.{mod-eq_of_lt}
use Rattle.json_line.proofs.place_decimal.last_number.Goals as goal

pub returns-then-number-power-clause-is : goal.returns-then-number-power-clause-is
returns-then-number-power-clause-is c = sym (mod-eq_of_lt c.if-number-power.true)
