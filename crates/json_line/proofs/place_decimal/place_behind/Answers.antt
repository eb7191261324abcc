use Rattle.std.proofs.Common.{arith}
use Rattle.json_line.proofs.Decimals.{behind_one, one_within, byte_placed}
use Rattle.json_line.proofs.place_decimal.place_behind.Goals as goal

pub write_digits-requires : goal.write_digits-requires
write_digits-requires c =
    let power = c.pow_10-power.ensures in
    let digits = behind_one _ c.args.digits c.args.number _ power.power power.small power.some c.last_number-last.ensures.is in
    (omega (arith, digits.1, c.from.ensures), omega (arith, c.requires, c.from.ensures))

pub bounds-memory-at : goal.bounds-memory-at
bounds-memory-at c =
    let power = c.pow_10-power.ensures in
    let digits = behind_one _ c.args.digits c.args.number _ power.power power.small power.some c.last_number-last.ensures.is in
    let within = one_within c.args.memory.now c.write_digits.new.buf c.args.at c.args.digits c.args.number _ _ _ digits.0 digits.1 c.write_digits.ensures.start (omega (arith, c.from.ensures)) c.write_digits.ensures.written in
    within.2

pub returns-clause-placed : goal.returns-clause-placed
returns-clause-placed c =
    let power = c.pow_10-power.ensures in
    let digits = behind_one _ c.args.digits c.args.number _ power.power power.small power.some c.last_number-last.ensures.is in
    byte_placed c.args.memory.now c.write_digits.new.buf c.args.at c.args.byte c.args.digits c.args.number _ _ _ digits.0 digits.1 c.write_digits.ensures.start (omega (arith, c.from.ensures))
    (omega (arith, c.requires, c.from.ensures)) c.write_digits.ensures.written c.write_digits.ensures.before
