use Rattle.std.proofs.Common.{◌∙◌, sym}
use Rattle.binlog_mariadb.specs.Flavour.{found_is}
use Rattle.binlog_mariadb.proofs.flavour.contains.Goals as goal

pub returns : goal.returns
returns c =
    let is = found_is c.args.text.now c.args.part.now c.find.result c.find.ensures in
    (λ yes. is.0 (sym c.is_some.ensures ∙ yes), λ occurs. c.is_some.ensures ∙ is.1 occurs)
