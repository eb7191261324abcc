use Rattle.std.proofs.Common.{sym, ◌∙◌, arith}
use Rattle.binlog_variable_fields.specs.LenEnc.{lenenc_at}
use Rattle.binlog_optional_metadata.proofs.Columns.{index_is_number}
use Rattle.binlog_optional_metadata.proofs.ToEnd.{none_so_far, fewer_left, one_so_far, refused_so_far, all_so_far}
use Rattle.binlog_optional_metadata.specs.Columns.{column_index, index_moves}
use Rattle.binlog_optional_metadata.proofs.numbers.count_indexes.Goals as goal

pub loop-buf-init : goal.loop-buf-init
loop-buf-init c = none_so_far (column_index c.args.columns) c.args.bytes.now (λ i. omega (arith, c.type_inv.bytes i))

pub loop-buf-smaller : goal.loop-buf-smaller
loop-buf-smaller c =
    fewer_left (column_index c.args.columns) (index_moves c.args.columns) c.args.bytes.now c.loop-buf.buf c.read_column_index.new.buf c.loop-buf.count c.in_default.field-0 c.loop-buf.invariant c.in_default.ensures

pub loop-buf-preserved : goal.loop-buf-preserved
loop-buf-preserved c =
    one_so_far (column_index c.args.columns) (index_moves c.args.columns) c.args.bytes.now c.loop-buf.buf c.read_column_index.new.buf c.loop-buf.count c.in_default.field-0 (sym c.loop-buf-test.true ∙ c.is_empty.ensures) c.loop-buf.invariant c.in_default.ensures

pub returns-in-Err : goal.returns-in-Err
returns-in-Err c =
    refused_so_far (column_index c.args.columns) (index_moves c.args.columns) c.args.bytes.now c.loop-buf.buf c.loop-buf.count c.in-Err.error (sym c.loop-buf-test.true ∙ c.is_empty.ensures) c.loop-buf.invariant c.in-Err.ensures

pub returns : goal.returns
returns c =
    all_so_far (column_index c.args.columns) (index_moves c.args.columns) lenenc_at (index_is_number c.args.columns) c.args.bytes.now c.loop-buf.buf c.loop-buf.count (sym c.loop-buf-test.false ∙ c.is_empty.ensures) c.loop-buf.invariant
