use Rattle.std.proofs.Common.{sym}
use Rattle.crc32_ieee.proofs.Linear.{by_half_bytes}
use Rattle.crc32_ieee.proofs.Crc32.after_half.Goals as goal

pub returns : goal.returns
returns c =
    rw (c.entry.ensures, c.entry-2.ensures, c.entry-3.ensures, c.entry-4.ensures, c.from-half.ensures)
    (sym (by_half_bytes c.args.half))
