use Rattle.column_files.proofs.TextPositions.{behind_first}
use Rattle.column_files.proofs.positions.behind.Goals as goal

pub returns-in-Some : goal.returns-in-Some
returns-in-Some c = behind_first c.args.byte c.count_before.result c.args.text.now c.in-Some.rest.now c.in-Some.field-0-0.now c.count_before.ensures.count c.in-Some.ensures.cases.0
