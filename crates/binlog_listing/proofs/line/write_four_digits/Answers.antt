use Rattle.std.proofs.Common.{refl}
use Rattle.binlog_listing.proofs.Digits.{two_bytes}
use Rattle.binlog_listing.proofs.line.write_four_digits.Goals as goal

pub returns-clause-written : goal.returns-clause-written
returns-clause-written c = rw (c.write_two_digits.ensures.written, c.write_two_digits-middle.ensures.written, c.to_be_bytes.ensures) (two_bytes _ _ refl)
