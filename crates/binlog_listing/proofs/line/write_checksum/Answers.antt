use Rattle.std.proofs.Common.{arith}
use Rattle.binlog_listing.proofs.Digits.{four_bytes}
use Rattle.binlog_listing.proofs.line.write_checksum.Goals as goal

pub returns-in-Some-clause-written : goal.returns-in-Some-clause-written
returns-in-Some-clause-written c =
    rw (c.write_two_digits.ensures.written, c.write_two_digits-second_start.ensures.written, c.write_two_digits-third_start.ensures.written, c.write_two_digits-fourth_start.ensures.written, c.in-Some.is) (four_bytes c.in-Some.checksum _ (omega arith))
