use Rattle.std.proofs.Common.{sym, ◌∙◌, arith}
use Rattle.binlog_optional_metadata.proofs.Columns.{indexed_is_any}
use Rattle.binlog_optional_metadata.proofs.ToEnd.{none_so_far, fewer_left, one_so_far, refused_so_far, all_so_far}
use Rattle.binlog_optional_metadata.specs.Columns.{indexed_number, any_indexed, indexed_moves}
use Rattle.binlog_optional_metadata.proofs.indexed_numbers.count_indexed.Goals as goal

pub loop-buf-init : goal.loop-buf-init
loop-buf-init c = none_so_far (indexed_number c.args.columns) c.args.bytes.now (λ i. omega (arith, c.type_inv.bytes i))

pub loop-buf-smaller : goal.loop-buf-smaller
loop-buf-smaller c =
    fewer_left (indexed_number c.args.columns) (indexed_moves c.args.columns) c.args.bytes.now c.loop-buf.buf c.read_indexed.new.buf c.loop-buf.count c.in_default.field-0 c.loop-buf.invariant c.in_default.ensures

pub loop-buf-preserved : goal.loop-buf-preserved
loop-buf-preserved c =
    one_so_far (indexed_number c.args.columns) (indexed_moves c.args.columns) c.args.bytes.now c.loop-buf.buf c.read_indexed.new.buf c.loop-buf.count c.in_default.field-0 (sym c.loop-buf-test.true ∙ c.is_empty.ensures) c.loop-buf.invariant c.in_default.ensures

pub returns-in-Err : goal.returns-in-Err
returns-in-Err c =
    refused_so_far (indexed_number c.args.columns) (indexed_moves c.args.columns) c.args.bytes.now c.loop-buf.buf c.loop-buf.count c.in-Err.error (sym c.loop-buf-test.true ∙ c.is_empty.ensures) c.loop-buf.invariant c.in-Err.ensures

pub returns : goal.returns
returns c =
    all_so_far (indexed_number c.args.columns) (indexed_moves c.args.columns) any_indexed.reads (indexed_is_any c.args.columns) c.args.bytes.now c.loop-buf.buf c.loop-buf.count (sym c.loop-buf-test.false ∙ c.is_empty.ensures) c.loop-buf.invariant
