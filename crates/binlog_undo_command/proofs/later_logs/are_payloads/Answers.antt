use Rattle.binlog_undo_command.proofs.LaterFound.{inside_next, inside_end}
use Rattle.binlog_undo_command.proofs.later_logs.are_payloads.Goals as goal

pub loop-transaction-preserved : goal.loop-transaction-preserved
loop-transaction-preserved g c = record {
  rest = λ others more. inside_next (g.F.Frames.is_at c.args.frames.now) (g.F.Frames.is_at c.loop-transaction.frames) c.args.transactions.now c.loop-transaction.transaction-index _ c.loop-transaction.are_inside.items
      c.push.new.self.items c.in_ok-is_inside.is_inside others c.loop-transaction-test.true (rw (c.is_err.ensures.negation, c.if-is_err.false) at c.push.ensures.items) c.loop-transaction.invariant.among
      c.in_ok-is_inside.ensures.is c.loop-transaction.invariant.rest more;
  among = λ place frame h. c.loop-transaction.invariant.among place frame (c.in_ok-is_inside.ensures.same place frame h);
}

pub returns : goal.returns
returns g c =
    inside_end (g.F.Frames.is_at c.args.frames.now) c.args.transactions.now c.loop-transaction.transaction-index c.loop-transaction.are_inside.items c.loop-transaction-test.false c.loop-transaction.invariant.rest
