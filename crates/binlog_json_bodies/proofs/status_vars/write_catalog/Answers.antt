use Rattle.std.proofs.Common.{◌<◌, arith}
use Rattle.std.specs.Prelude.{slice_index}
use Rattle.binlog_json_bodies.proofs.WholeTexts.{text_behind}
use Rattle.binlog_json_bodies.proofs.status_vars.write_catalog.Goals as goal

pub returns : goal.returns
returns c =
    let few : slice_index c.args.value.now 0 < 256 = let fits = c.type_inv.value 0 in omega arith in
    rw (text_behind c.args.value.now c.requires few) c.write_text.ensures
