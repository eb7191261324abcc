use Rattle.std.proofs.Common.{sym}
use Rattle.crc32_ieee.proofs.Linear.{by_bytes}
use Rattle.crc32_ieee.proofs.Crc32.after_word.Goals as goal

pub returns : goal.returns
returns c =
    rw (c.entry.ensures, c.entry-2.ensures, c.entry-3.ensures, c.entry-4.ensures, c.entry-5.ensures, c.entry-6.ensures, c.entry-7.ensures, c.entry-8.ensures)
    (sym (by_bytes c.args.word))
