use Rattle.std.proofs.Common.{◌/◌, arith}
use Rattle.itoa.proofs.Decimal.{length_wide}
use Rattle.json_line.proofs.Digits.{five_more, ten_more, fifteen_more}
use Rattle.json_line.proofs.decimal.decimal_len.Goals as goal

pub overflow_add-result : goal.overflow_add-result
overflow_add-result c = record { fits = omega (arith, length_wide (c.args.number / 100000) (omega arith), c.short_len-then-number-lt10000000000.ensures) }

pub overflow_add-result-then-number-lt1000000000000000 : goal.overflow_add-result-then-number-lt1000000000000000
overflow_add-result-then-number-lt1000000000000000 c = record { fits = omega (arith, length_wide (c.args.number / 10000000000) (omega arith), c.short_len-then-number-lt1000000000000000.ensures) }

pub overflow_add-result-else-number-lt1000000000000000 : goal.overflow_add-result-else-number-lt1000000000000000
overflow_add-result-else-number-lt1000000000000000 c = record { fits = omega (arith, length_wide (c.args.number / 1000000000000000) (omega arith), c.short_len-else-number-lt1000000000000000.ensures) }

pub returns-then-number-lt10000000000 : goal.returns-then-number-lt10000000000
returns-then-number-lt10000000000 c = omega (arith, five_more c.args.number c.if-number-lt100000.false c.ranges.number.fits, c.short_len-then-number-lt10000000000.ensures)

pub returns-then-number-lt1000000000000000 : goal.returns-then-number-lt1000000000000000
returns-then-number-lt1000000000000000 c = omega (arith, ten_more c.args.number c.if-number-lt10000000000.false c.ranges.number.fits, c.short_len-then-number-lt1000000000000000.ensures)

pub returns-else-number-lt1000000000000000 : goal.returns-else-number-lt1000000000000000
returns-else-number-lt1000000000000000 c = omega (arith, fifteen_more c.args.number c.if-number-lt1000000000000000.false c.ranges.number.fits, c.short_len-else-number-lt1000000000000000.ensures)
