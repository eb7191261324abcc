use Rattle.std.proofs.Common.{◌≡◌, IsUtf8, subst, sym}
use Rattle.json.specs.Print.{escape}
use Rattle.json_line.proofs.PlainTexts.{plain_text}
use Rattle.json_line.proofs.line.Line.plain_string.Goals as goal

pub string_as_it_is-requires : goal.string_as_it_is-requires
string_as_it_is-requires c = (subst (λ s. escape s ≡ s) (sym c.as_bytes.ensures.value) (plain_text _ c.requires), subst IsUtf8 (sym c.as_bytes.ensures.value) c.utf8.text)

pub returns-clause-added : goal.returns-clause-added
returns-clause-added c = rw c.as_bytes.ensures.value at c.string_as_it_is.ensures.added
