use Rattle.std.proofs.Common.{◌≡◌, ◌+◌, arith}
use Rattle.std.specs.Fmt.{decimal}
use Rattle.std.proofs.lemmas.Fmt.{decimal_digit}
use Rattle.json_line.proofs.Digits.{at_most_twenty}
use Rattle.json_line.proofs.BufferTexts.{ending_at}
use Rattle.json_line.proofs.place.place_number.Goals as goal

pub overflow_add-end : goal.overflow_add-end
overflow_add-end c = record { fits = omega (arith, at_most_twenty c.args.number c.ranges.number.fits, c.decimal_len.ensures, c.requires) }

pub write_digits-requires : goal.write_digits-requires
write_digits-requires c =
    let few = at_most_twenty c.args.number c.ranges.number.fits in
    (omega (arith, c.decimal_len.ensures), omega (arith, few, c.decimal_len.ensures))

pub returns-clause-placed : goal.returns-clause-placed
returns-clause-placed c =
    let few = at_most_twenty c.args.number c.ranges.number.fits in
    let same : c.write_digits.result ≡ c.args.at = omega (arith, c.write_digits.ensures.start, c.decimal_len.ensures) in
    ending_at c.args.memory.now c.write_digits.new.buf (decimal c.args.number) c.args.at (c.args.at + c.decimal_len.result)
    (omega (arith, c.decimal_len.ensures)) (omega (arith, few, c.decimal_len.ensures, c.requires)) (rw same at c.write_digits.ensures.written) (rw same at c.write_digits.ensures.before)

pub returns-clause-short : goal.returns-clause-short
returns-clause-short c = omega (arith, at_most_twenty c.args.number c.ranges.number.fits, c.decimal_len.ensures)

pub returns-then-number-lt10-clause-placed : goal.returns-then-number-lt10-clause-placed
returns-then-number-lt10-clause-placed c = rw (decimal_digit c.args.number c.if-number-lt10.true) c.place_byte.ensures
