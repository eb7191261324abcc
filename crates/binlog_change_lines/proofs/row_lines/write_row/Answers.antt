use Rattle.std.proofs.Common.{◌∷◌, []}
use Rattle.json.specs.Token.{begin_object, end_object}
use Rattle.binlog_change_lines.specs.RowLines.{change_parts}
use Rattle.binlog_change_lines.proofs.Parts.{shows_exact, shows_both, then_exactly}
use Rattle.binlog_change_lines.proofs.row_lines.write_row.Goals as goal

pub returns : goal.returns
unfolding change_parts
returns c =
    let begun = shows_exact _ _ (begin_object ∷ []) c.in_ok-begin_object.ensures.added in
    let head = shows_exact _ _ _ c.in_ok-write_head.ensures in
    let images = rw c.deref.ensures.value at c.in_ok-write_images.ensures in
    then_exactly c.end_object.result c.args.line.now c.write_images.new.line c.end_object.new.self _ (end_object ∷ []) (shows_both (shows_both begun head) images) c.end_object.ensures.added
