use Rattle.json_line.proofs.Passed.{passed_from_lanes}
use Rattle.json_line.proofs.plain.is_plain_block.Goals as goal

pub returns : goal.returns
returns g c = passed_from_lanes c.args.text.now c.args.at g.row.N c.requires.1 c.requires.0 c.type_inv.text
