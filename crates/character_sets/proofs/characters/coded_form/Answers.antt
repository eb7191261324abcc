use Rattle.std.proofs.Common.{◌≡◌, true, false, ap, rules}
use Rattle.std.specs.Prelude.{is_some}
use Rattle.character_sets.specs.Decoding.{decoded}
use Rattle.character_sets.proofs.Decoded.{decoded-text, text-left}
use Rattle.character_sets.proofs.characters.coded_form.Goals as goal

pub returns-then-is_text-clause-text : goal.returns-then-is_text-clause-text
returns-then-is_text-clause-text c =
    let sound : is_some (decoded c.args.set c.args.bytes.now) ≡ true = search rules in
    (sound, text-left c.args.set c.args.bytes.now sound)

pub returns-else-is_text-clause-none : goal.returns-else-is_text-clause-none
returns-else-is_text-clause-none c = λ characters is.
    let unsound : is_some (decoded c.args.set c.args.bytes.now) ≡ false = search rules in
    let found = ap is_some (decoded-text c.args.set c.args.bytes.now characters c.requires is) in
    cc
