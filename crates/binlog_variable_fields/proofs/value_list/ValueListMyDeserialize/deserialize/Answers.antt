use Rattle.std.specs.Prelude.{⊤}
use Rattle.std.proofs.Common.{arith}
use Rattle.std.proofs.lemmas.Result.{err_from_is_err_and}
use Rattle.binlog_variable_fields.specs.Repeated.{times_at}
use Rattle.binlog_variable_fields.specs.Laws.Refusing.{refused_as}
use Rattle.binlog_variable_fields.specs.Laws.RepeatedLoops.{times_turn, times_refused}
use Rattle.binlog_variable_fields.proofs.value_list.ValueListMyDeserialize.deserialize.Goals as goal

pub returns-in_err-item : goal.returns-in_err-item
returns-in_err-item g c =
    let ctx = c.args.ctx in
    let reads = g.T.MyDeserialize.reads ctx.1 in
    let whole = times_at ctx.0 reads c.args.buf.now in
    let p = err_from_is_err_and c.from_residual.result c.from_residual.ensures.1 in
    rw (p.1, p.2)
    (refused_as (g.T.MyDeserialize.grows ctx.1) ⊤ (λ _. tt) _ (reads c.loop-index.buf) whole
    (λ d e. times_refused reads whole c.loop-index.items.items ctx.0 c.loop-index._index c.loop-index.buf d (omega arith) c.loop-index.invariant e)
    c.in_err-item.ensures)

pub loop-index-preserved : goal.loop-index-preserved
loop-index-preserved g c =
    let ctx = c.args.ctx in
    let reads = g.T.MyDeserialize.reads ctx.1 in
    let whole = times_at ctx.0 reads c.args.buf.now in
    let turned = times_turn reads whole c.loop-index.items.items ctx.0 c.loop-index._index c.loop-index.buf c.deserialize.new.buf c.in_ok-item.item (omega arith) c.loop-index.invariant c.in_ok-item.ensures in
    rw c.in_ok-push.ensures.ok turned
