use Rattle.json_line.proofs.Passed.{as_it_is, is_ascii}
use Rattle.json_line.proofs.place_plain.place_plain.Goals as goal

pub returns-then-text-ge16-clause-as_it_is : goal.returns-then-text-ge16-clause-as_it_is
returns-then-text-ge16-clause-as_it_is c = as_it_is c.place_plain_blocks.result c.args.text.now c.place_plain_blocks.ensures.plain

pub returns-then-text-ge16-clause-ascii : goal.returns-then-text-ge16-clause-ascii
returns-then-text-ge16-clause-ascii c = is_ascii c.place_plain_blocks.result c.args.text.now c.place_plain_blocks.ensures.plain
