use Rattle.std.proofs.Common.{◌∙◌, sym, ap}
use Rattle.std.proofs.lemmas.Result.{IfOk-weaker}
use Rattle.binlog_undo_index.specs.declared.index.UndoIndex.{UndoIndex}
use Rattle.binlog_undo_log.proofs.one_transaction.begin_one.Goals as goal

pub returns : goal.returns
returns g c =
    let transactions = c.transactions.ensures ∙ ap (λ (i : UndoIndex). i.transactions.items) c.index.ensures in
    IfOk-weaker c.begin_under.result _ _
    (λ commit h. record {
      front = _;
      transaction = c.in-Some.transaction.now;
      are = sym transactions ∙ c.in-Some.ensures.cases.0;
      place = c.in-Some-description.place;
      at = sym c.description.ensures ∙ c.in-Some-description.is;
      begins = h;
    })
    c.begin_under.ensures
