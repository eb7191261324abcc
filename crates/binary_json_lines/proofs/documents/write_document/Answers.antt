use Rattle.std.proofs.Common.{◌≡◌, true, subst, arith}
use Rattle.binary_json.specs.Values.{Json}
use Rattle.binary_json.specs.Views.{json}
use Rattle.binary_json_lines.specs.Parts.{Shows}
use Rattle.binary_json_lines.specs.Documents.{value_parts}
use Rattle.binary_json_lines.proofs.Begun.{with_text}
use Rattle.binary_json_lines.proofs.documents.write_document.Goals as goal

pub returns-then-branch : goal.returns-then-branch
returns-then-branch c =
    let has : c.in_ok-write_text.field-0 ≡ true = grind (arith, c.if-branch.true) in
    let written = with_text c.in_ok-write_text.field-0 (json c.value.result) c.args.line.now c.write_text.new.line has c.in_ok-write_text.ensures in
    subst (λ (v : Json). Shows c.args.line.now c.write_text.new.line (value_parts v)) c.value.ensures written.1
