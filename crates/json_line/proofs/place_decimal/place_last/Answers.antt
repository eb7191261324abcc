use Rattle.std.proofs.Common.{arith}
use Rattle.json_line.proofs.Decimals.{behind_kept}
use Rattle.json_line.proofs.place_decimal.place_last.Goals as goal

pub returns-clause-placed : goal.returns-clause-placed
returns-clause-placed c = behind_kept c.args.memory.now c.args.at (omega (arith, c.requires)) (omega (arith, c.requires)) c.place_behind.ensures.placed
