use Rattle.std.proofs.Common.{◌≡◌, None, rules}
use Rattle.character_sets.specs.Characters.{characters_of}
use Rattle.character_sets.proofs.Reading.{characters-text, no_characters}
use Rattle.character_sets.proofs.character_set.CharacterSet.decode.Goals as goal

pub returns-in_err-form-clause-given : goal.returns-in_err-form-clause-given
returns-in_err-form-clause-given c =
    let none : characters_of c.args.self c.args.bytes.now ≡ None = no_characters c.args.self c.args.bytes.now c.in_err-form.ensures.none in
    search rules

pub returns-clause-given : goal.returns-clause-given
returns-clause-given c = characters-text c.args.self c.args.bytes.now _ c.in_ok-form.ensures.text.1
