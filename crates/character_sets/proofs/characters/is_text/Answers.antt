use Rattle.std.proofs.Common.{◌<◌, length, sym, ap, ◌∙◌, rules}
use Rattle.std.specs.Prelude.{is_some}
use Rattle.character_sets.proofs.Decoded.{decoded-no_first, decoded-nothing}
use Rattle.character_sets.proofs.characters.is_text.Goals as goal

pub returns-in_default : goal.returns-in_default
returns-in_default c =
    let some : 0 < length c.loop-rest.rest.now = search rules in
    ap is_some (sym (decoded-no_first c.args.set c.loop-rest.rest.now c.in_default.ensures some)) ∙ c.loop-rest.invariant

pub returns : goal.returns
returns c = ap is_some (sym (decoded-nothing c.args.set c.loop-rest.rest.now (search rules))) ∙ c.loop-rest.invariant
