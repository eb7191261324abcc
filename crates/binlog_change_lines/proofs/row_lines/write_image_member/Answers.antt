use Rattle.std.proofs.Common.{◌∷◌, []}
use Rattle.std.specs.Prelude.{option_map}
use Rattle.json.specs.Token.{key}
use Rattle.binlog_images.specs.ImageCells.{cells_of}
use Rattle.binlog_json_values.specs.Parts.{exactly}
use Rattle.binlog_json_values.specs.Rows.{image_parts, before_or_none}
use Rattle.binlog_change_lines.proofs.Parts.{shows_exact, then_written}
use Rattle.binlog_change_lines.proofs.row_lines.write_image_member.Goals as goal

pub returns-in_ok-key-in-Some : goal.returns-in_ok-key-in-Some
returns-in_ok-key-in-Some c =
    let name = shows_exact _ _ (key c.args.name.now ∷ []) c.in_ok-key-in-Some.ensures.added in
    rw c.in-Some.is
    (then_written c.write_image.result c.args.line.now c.key.new.self c.write_image.new.line (exactly (key c.args.name.now) ∷ [])
    (image_parts c.args.columns.now (before_or_none (option_map cells_of c.args.before)) (cells_of c.in-Some.image)) name c.write_image.ensures)
