use Rattle.std.proofs.Common.{◌∷◌, [], get_or, subst, arith}
use Rattle.json.specs.Token.{end_object}
use Rattle.std.specs.Prelude.{ℕ, List, Option, option_copied}
use Rattle.binlog_images.specs.ImageCells.{cells_of}
use Rattle.binlog_optional_metadata.specs.Facts.{facts_of}
use Rattle.binlog_optional_metadata.specs.declared.column_facts.ColumnFacts.{ColumnFacts}
use Rattle.binlog_json_values.specs.Parts.{Shows}
use Rattle.binlog_json_values.specs.Rows.{first_parts, image_parts}
use Rattle.binlog_json_values.proofs.Parts.{then_exactly}
use Rattle.binlog_json_values.proofs.RowTexts.{columns_left, members_begun, member_shown, members_shown}
use Rattle.binlog_json_values.proofs.values.ValueWriter.write_image.Goals as goal

pub loop-index-init : goal.loop-index-init
loop-index-init c = members_begun c.args.columns.now (columns_left c.args.before) (cells_of c.args.image) _ _ c.in_ok-begin_object.ensures.added

pub loop-index-preserved : goal.loop-index-preserved
loop-index-preserved c =
    let index = c.loop-index.index in
    let old = c.loop-index.line in
    let new = c.write_next.new.line in
    let cells = cells_of c.loop-index.cells in
    let document = option_copied c.next_document-document.result in
    let known = get_or c.args.columns.now index c.index-columns-index.result in
    let shown = subst (λ (facts : ColumnFacts). Shows old new (first_parts (facts_of facts) index document cells)) c.index-columns-index.is c.in_ok-write_next.ensures.written in
    let member = subst (λ (d : Option (List ℕ)). Shows old new (first_parts (facts_of known) index d cells)) c.next_document-document.ensures.document shown in
    rw (c.in_ok-write_next.ensures.rest, c.next_document-document.ensures.rest)
    (member_shown c.args.columns.now (columns_left c.args.before) (cells_of c.args.image) (columns_left c.loop-index.left) cells index c.index-columns-index.result c.args.line.now old new (omega arith) c.loop-index.invariant member)

pub returns : goal.returns
unfolding image_parts
returns c =
    let members = members_shown c.args.columns.now (columns_left c.args.before) (cells_of c.args.image) (columns_left c.loop-index.left) (cells_of c.loop-index.cells) c.loop-index.index _ _ (omega arith) c.loop-index.invariant in
    then_exactly c.end_object.result c.args.line.now c.loop-index.line c.end_object.new.self _ (end_object ∷ []) members c.end_object.ensures.added
