use Rattle.std.proofs.Common.{Bool, List, subst, ◌∙◌}
use Rattle.binlog_optional_metadata.specs.declared.column_facts.ColumnFacts.{ColumnFacts}
use Rattle.binlog_json_values.specs.RowWriting.{WritesRest}
use Rattle.binlog_json_values.proofs.RowLists.{rows_shown, of_ok}
use Rattle.binlog_json_values.proofs.values.ValueWriter.write_named_rows.Goals as goal

pub returns : goal.returns
returns c = λ bytes.
    let shown : Bool → Type 0 = λ all_read. WritesRest c.new-writer.result.columns.now c.args.rows all_read c.new-writer.result.line c.write_rest-written.new.self.line in
    let rest = of_ok shown c.write_rest-written.result c.in_ok-all_read.all_read c.in_ok-all_read.was (c.write_rest-written.ensures bytes) in
    let begun = c.new-writer.ensures.line ∙ c.take-2.ensures.taken ∙ c.in_ok-begin_array.ensures.added in
    let written = subst (λ (l : List ColumnFacts). WritesRest l c.args.rows c.in_ok-all_read.all_read c.new-writer.result.line c.write_rest-written.new.self.line) c.new-writer.ensures.columns rest in
    rows_shown c.args.columns.now c.args.rows c.in_ok-all_read.all_read c.args.line.now c.new-writer.result.line c.write_rest-written.new.self.line c.end_array.new.self begun written c.in_ok-end_array.ensures.added

pub write_rest-written-requires : goal.write_rest-written-requires
write_rest-written-requires c = rw (c.new-writer.ensures.before, c.new-writer.ensures.after) c.requires.images
