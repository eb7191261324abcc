-- The text of an optional tag decodes to it.
use Rattle.std.proofs.Common.{◌≡◌, ℕ, Option, None, Some, List, [], ◌∷◌, Ok, refl, arith}
use Rattle.binlog_wire.specs.Formats.{anywhere}
use Rattle.binlog_variable_fields.specs.Laws.Tags.{tag_short}
use Rattle.binlog_variable_fields.specs.VarlenTexts.{varlen_text}
use Rattle.binlog_variable_fields.specs.Chosen.{IsChoice}
use Rattle.binlog_gtids.specs.OptionalTags.{tag_of, tag_text, FitsTag}

-- ---- an optional tag, as a text that may be empty

shows_tag : (o : Option (List ℕ)) → FitsTag o → tag_of (tag_text o) ≡ Ok o
shows_tag None fits = refl
shows_tag (Some []) fits = absurd cc
shows_tag (Some (b ∷ s)) fits = rw fits refl

tag_fits : (o : Option (List ℕ)) → FitsTag o → varlen_text.Fits (tag_text o)
tag_fits None fits = (omega arith, refl)
tag_fits (Some t) fits = (omega (arith, tag_short t fits), refl)

pub tag_choice : IsChoice {place = anywhere} varlen_text tag_of tag_text (λ o. o) FitsTag
tag_choice = record { fits = tag_fits; shows = shows_tag; settled = λ s a r b h d. refl; twice = λ o. refl; again = λ o fits. refl }
