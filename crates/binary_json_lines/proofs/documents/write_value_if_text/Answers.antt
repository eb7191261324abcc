use Rattle.std.proofs.Common.{◌≡◌, true, false, arith}
use Rattle.binary_json.specs.Views.{json}
use Rattle.binary_json_lines.proofs.Begun.{with_text, without_text}
use Rattle.binary_json_lines.proofs.documents.write_value_if_text.Goals as goal

pub cut-requires : goal.cut-requires
cut-requires c =
    let hasnt : c.in_ok-write_text.field-0 ≡ false = grind (arith, c.if-not-branch.true) in
    let none = without_text c.in_ok-write_text.field-0 (json c.args.value.now) c.args.line.now c.write_text.new.line hasnt c.in_ok-write_text.ensures in
    record { before = c.args.line.now; after = none.1.0; stands = c.mark-start.ensures; is = none.1.1 }

pub returns-then-not-branch : goal.returns-then-not-branch
returns-then-not-branch c =
    let hasnt : c.in_ok-write_text.field-0 ≡ false = grind (arith, c.if-not-branch.true) in
    let none = without_text c.in_ok-write_text.field-0 (json c.args.value.now) c.args.line.now c.write_text.new.line hasnt c.in_ok-write_text.ensures in
    (none.0, c.cut.ensures c.args.line.now none.1.0 c.mark-start.ensures none.1.1)

pub returns : goal.returns
returns c =
    let has : c.in_ok-write_text.field-0 ≡ true = grind (arith, c.if-not-branch.false) in
    with_text c.in_ok-write_text.field-0 (json c.args.value.now) c.args.line.now c.write_text.new.line has c.in_ok-write_text.ensures
