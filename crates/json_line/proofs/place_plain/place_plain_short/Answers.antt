use Rattle.std.proofs.Common.{rules}
use Rattle.json_line.proofs.PlacedPlain.{on, front_kept, ends_there}
use Rattle.json_line.proofs.place_plain.place_plain_short.Goals as goal

pub returns-clause-kept : goal.returns-clause-kept
returns-clause-kept c = front_kept (search rules) c.place_bytes.ensures

pub returns-clause-placed : goal.returns-clause-placed
returns-clause-placed c = on c.is_plain.result (ends_there c.place_bytes.ensures)
