use Rattle.std.proofs.Common.{◌≡◌, true, false, List, sym, subst, ap, ◌∙◌, ◌++◌, arith}
use Rattle.std.specs.Prelude.{codes}
use Rattle.json.specs.Token.{Token}
use Rattle.binlog_json_values.specs.Parts.{Part, Shows, Writes, exact}
use Rattle.binlog_json_values.specs.Documents.{encoded_value}
use Rattle.binlog_json_values.proofs.JsonDocuments.{shown_if, digits_if, if_shown, if_hidden}
use Rattle.binlog_json_values.proofs.Parts.{written_exactly}
use Rattle.binlog_json_values.proofs.documents.write_json.Goals as goal

pub returns-then-branch : goal.returns-then-branch
returns-then-branch c =
    let is : c.in_ok-write_shown.field-0 ≡ true = grind (arith, c.if-branch.true) in
    let both = if_shown c.in_ok-write_shown.field-0 c.args.bytes.now c.args.line.now c.write_shown.new.line is c.in_ok-write_shown.ensures in
    subst (λ (parts : List Part). Shows c.args.line.now c.write_shown.new.line parts) (sym (shown_if c.args.bytes.now both.0)) both.1

pub returns : goal.returns
returns c =
    let isnt : c.in_ok-write_shown.field-0 ≡ false = grind (arith, c.if-branch.false) in
    let both = if_hidden c.in_ok-write_shown.field-0 c.args.bytes.now c.args.line.now c.write_shown.new.line isnt c.in_ok-write_shown.ensures in
    let written = written_exactly c.write_encoded.result c.write_shown.new.line c.write_encoded.new.line (encoded_value (codes "jsonb") c.args.bytes.now) c.write_encoded.ensures in
    subst (λ (parts : List Part). Writes c.write_encoded.result c.args.line.now c.write_encoded.new.line parts) (sym (digits_if c.args.bytes.now both.0))
    (subst (λ (l : List Token). Writes c.write_encoded.result l c.write_encoded.new.line (exact (encoded_value (codes "jsonb") c.args.bytes.now))) both.1 written)
