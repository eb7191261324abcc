use Rattle.std.proofs.Common.{arith}
use Rattle.binlog_listing.proofs.Digits.{HEX_DIGITS_at}
use Rattle.binlog_listing.proofs.line.write_two_digits.Goals as goal

pub returns-clause-written : goal.returns-clause-written
returns-clause-written c = rw (c.write_byte.ensures.written, c.write_byte-middle.ensures.written) (HEX_DIGITS_at c.args.byte _ (omega (arith, c.ranges.byte.fits)))
