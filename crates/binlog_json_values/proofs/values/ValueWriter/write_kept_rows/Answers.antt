use Rattle.std.proofs.Common.{◌≡◌, List, map, ap, ◌∙◌}
use Rattle.binlog_optional_metadata.specs.Facts.{facts_of}
use Rattle.binlog_optional_metadata.specs.declared.column_facts.ColumnFacts.{ColumnFacts}
use Rattle.binlog_json_values.specs.KeptColumns.{kept_facts}
use Rattle.binlog_json_values.proofs.KeptFacts.{printed_of, shown_by_facts, shown_by_kept}
use Rattle.binlog_json_values.proofs.values.ValueWriter.write_kept_rows.Goals as goal

pub write_named_rows-requires-clause-printed : goal.write_named_rows-requires-clause-printed
write_named_rows-requires-clause-printed c =
    rw (c.deref.ensures.value, c.deref-2.ensures.value) (printed_of c.in_ok-facts.facts.items (kept_facts c.args.columns.now) c.args.columns.now.keys.lines.items c.in_ok-facts.ensures c.args.columns.now.named)

pub returns-clause-by_any_facts : goal.returns-clause-by_any_facts
returns-clause-by_any_facts c = λ facts same bytes.
    let borrowed : map facts_of c.deref.result.now ≡ map facts_of facts = ap (λ (l : List ColumnFacts). map facts_of l) c.deref.ensures.value ∙ c.in_ok-facts.ensures ∙ same in
    shown_by_facts c.write_named_rows.result c.deref.result.now facts c.args.rows c.args.line.now c.write_named_rows.new.line borrowed (c.write_named_rows.ensures bytes)

pub returns-clause-by_facts : goal.returns-clause-by_facts
returns-clause-by_facts c = λ bytes.
    let borrowed : map facts_of c.deref.result.now ≡ kept_facts c.args.columns.now = ap (λ (l : List ColumnFacts). map facts_of l) c.deref.ensures.value ∙ c.in_ok-facts.ensures in
    shown_by_kept c.write_named_rows.result c.deref.result.now (kept_facts c.args.columns.now) c.args.rows c.args.line.now c.write_named_rows.new.line borrowed (c.write_named_rows.ensures bytes)
