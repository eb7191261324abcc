use Rattle.std.proofs.Common.{◌≡◌, true, false, sym, ◌∙◌}
use Rattle.binary_json.specs.Diffs.{diff_items}
use Rattle.binary_json_lines.specs.Diffs.{items_have_text, diffs_parts}
use Rattle.binlog_json_values.specs.Documents.{diffs_value}
use Rattle.binlog_json_values.proofs.Parts.{written_exactly, written_document}
use Rattle.binlog_json_values.proofs.documents.write_diffs_value.Goals as goal

pub returns-then-diffs_have_text : goal.returns-then-diffs_have_text
unfolding diffs_value
returns-then-diffs_have_text c =
    let shown : items_have_text (diff_items c.args.bytes.now) ≡ true = sym c.diffs_have_text.ensures ∙ c.if-diffs_have_text.true in
    rw shown (written_document c.write_diffs.result c.args.line.now c.write_diffs.new.line (diffs_parts (diff_items c.args.bytes.now)) c.write_diffs.ensures)

pub returns : goal.returns
unfolding diffs_value
returns c =
    let hidden : items_have_text (diff_items c.args.bytes.now) ≡ false = sym c.diffs_have_text.ensures ∙ c.if-diffs_have_text.false in
    rw hidden (written_exactly c.bytes.result c.args.line.now c.bytes.new.self _ c.bytes.ensures.added)
