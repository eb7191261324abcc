use Rattle.std.proofs.Common.{◌∷◌, []}
use Rattle.json.specs.Token.{begin_object, end_object}
use Rattle.binlog_json_values.specs.Rows.{row_parts}
use Rattle.binlog_json_values.proofs.Parts.{shows_exact, shows_both, then_exactly}
use Rattle.binlog_json_values.proofs.values.ValueWriter.write_row.Goals as goal

pub returns : goal.returns
unfolding row_parts
returns c =
    let begun = shows_exact _ _ (begin_object ∷ []) c.in_ok-begin_object.ensures.added in
    let first = rw c.before-before.ensures at c.in_ok-write_image_member.ensures in
    let second = rw (c.before-before.ensures, c.after.ensures) at c.in_ok-write_image_member-2.ensures in
    then_exactly c.end_object.result c.args.line.now c.write_image_member-2.new.line c.end_object.new.self _ (end_object ∷ []) (shows_both (shows_both begun first) second) c.end_object.ensures.added
