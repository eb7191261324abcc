use Rattle.std.proofs.Common.{◌∙◌}
use Rattle.binary_json_writing.proofs.owned.OwnedDocument.number.Goals as goal

pub of_scalar-requires : goal.of_scalar-requires
of_scalar-requires c = (c.requires.0, c.in_ok-bytes.ensures ∙ c.requires.1, c.requires.2)

pub returns : goal.returns
returns c = λ x e fits. c.of_scalar.ensures x (c.in_ok-bytes.ensures ∙ e) fits
