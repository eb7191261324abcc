use Rattle.binlog_change_lines.proofs.Parts.{then_written}
use Rattle.binlog_change_lines.proofs.row_lines.write_images.Goals as goal

pub returns : goal.returns
returns c =
    let first = rw c.before-before.ensures at c.in_ok-write_image_member.ensures in
    let second = rw (c.before-before.ensures, c.after.ensures) at c.write_image_member-2.ensures in
    then_written c.write_image_member-2.result c.args.line.now c.write_image_member.new.line c.write_image_member-2.new.line _ _ first second
