use Rattle.std.proofs.Common.{◌++◌, sym, ap, ◌∙◌}
use Rattle.std.specs.Prelude.{encode_utf8}
use Rattle.std.proofs.lemmas.Str.{chars_past_char}
use Rattle.character_sets.proofs.characters.first_of_utf8.Goals as goal

pub returns : goal.returns
returns c =
    chars_past_char c.args.text.now c.as_str.result.now c.in_ok-first.first c.utf8.text
    (sym c.chars-characters.ensures.rest ∙ c.in_ok-first.ensures.steps.0 ∙ ap (λ l. encode_utf8 c.in_ok-first.first ++ l) (sym c.as_str.ensures))
