use Rattle.crc32_ieee.proofs.Entries.{are_entries}
use Rattle.crc32_ieee.proofs.tables.all_tables.Goals as goal

pub returns : goal.returns
returns c = are_entries
