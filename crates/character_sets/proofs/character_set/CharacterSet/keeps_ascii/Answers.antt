use Rattle.character_sets.proofs.AsciiKept.{on_single, on_utf8}
use Rattle.character_sets.proofs.character_set.CharacterSet.keeps_ascii.Goals as goal

pub returns-then-has_ascii_bytes : goal.returns-then-has_ascii_bytes
returns-then-has_ascii_bytes c = on_single c.has_ascii_bytes.result c.args.self c.has_ascii_bytes.ensures

pub returns-else-has_ascii_bytes : goal.returns-else-has_ascii_bytes
returns-else-has_ascii_bytes c = on_utf8 c.is_utf8.result c.args.self c.coding_of.result c.coding_of.ensures c.is_utf8.ensures
