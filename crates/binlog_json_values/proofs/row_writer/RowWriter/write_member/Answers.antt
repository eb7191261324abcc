use Rattle.std.proofs.Common.{◌≡◌, Some, ◌∙◌}
use Rattle.std.specs.List.{slice_get}
use Rattle.binlog_optional_metadata.specs.Facts.{facts_of}
use Rattle.binlog_json_values.specs.Rows.{column_name}
use Rattle.binlog_json_values.specs.RowWriting.{row_before, document_at}
use Rattle.binlog_json_values.proofs.KeyedMembers.{item_there, member_written}
use Rattle.binlog_json_values.proofs.row_writer.RowWriter.write_member.Goals as goal

pub returns-in-Null-clause-written : goal.returns-in-Null-clause-written
returns-in-Null-clause-written c =
    let index = c.args.index in
    let writer = c.args.self.now in
    let facts = c.in-Some.facts.now in
    let there : slice_get writer.columns.now index ≡ Some facts = item_there _ _ c.in-Some.facts c.in-Some.ensures.lookup in
    let printed = c.index-keys-index.is ∙ (writer.printed index facts there).is c.index-keys-index.result in
    rw c.in-Null.is
    (member_written c.write_null.result writer.columns.now index facts (document_at index (row_before writer)) _ writer.line c.write_null.new.line there
    (c.write_null.ensures (column_name (facts_of facts) index) printed))

pub returns-in-Value-clause-written : goal.returns-in-Value-clause-written
returns-in-Value-clause-written c =
    let index = c.args.index in
    let writer = c.args.self.now in
    let facts = c.in-Some.facts.now in
    let there : slice_get writer.columns.now index ≡ Some facts = item_there _ _ c.in-Some.facts c.in-Some.ensures.lookup in
    let printed = c.index-keys-index.is ∙ (writer.printed index facts there).is c.index-keys-index.result in
    rw c.in-Value.is
    (member_written c.write_named_value.result writer.columns.now index facts (document_at index (row_before writer)) _ writer.line c.write_named_value.new.line there
    (c.write_named_value.ensures (column_name (facts_of facts) index) printed))

pub returns-in-Diffs-clause-written : goal.returns-in-Diffs-clause-written
returns-in-Diffs-clause-written c =
    let index = c.args.index in
    let writer = c.args.self.now in
    let facts = c.in-Some.facts.now in
    let there : slice_get writer.columns.now index ≡ Some facts = item_there _ _ c.in-Some.facts c.in-Some.ensures.lookup in
    let printed = c.index-keys-index.is ∙ (writer.printed index facts there).is c.index-keys-index.result in
    rw c.in-Diffs.is
    (member_written c.write_diffs.result writer.columns.now index facts (document_at index (row_before writer)) _ writer.line c.write_diffs.new.self.line there
    (c.write_diffs.ensures.written (column_name (facts_of facts) index) printed))
