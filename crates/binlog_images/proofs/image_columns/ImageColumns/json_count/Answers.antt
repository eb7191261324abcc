use Rattle.std.proofs.Common.{arith, ap, length}
use Rattle.binlog_images.proofs.image_columns.ImageColumns.json_count.Goals as goal

pub overflow_add-count : goal.overflow_add-count
overflow_add-count c =
    let step = c.in-Some.ensures.steps in
    omega (arith, ap length step)
