use Rattle.binlog_undo.proofs.FullImages.{image_there, no_image}
use Rattle.binlog_undo.proofs.full_rows.behind_image.Goals as goal

pub returns-in-Some : goal.returns-in-Some
returns-in-Some c = image_there c.args.image.now _ c.args.bytes.now c.behind.result c.in-Some.is c.behind.ensures

pub returns-in-None : goal.returns-in-None
returns-in-None c = no_image c.args.image.now c.args.bytes.now c.in-None.is
