use Rattle.std.proofs.Common.{sym, refl, ◌∙◌, arith}
use Rattle.std.proofs.lemmas.List.{same_lists}
use Rattle.binlog_commands.proofs.continuation.is_same_list.Goals as goal

pub returns : goal.returns
returns c = (
  λ yes. sym c.entries-gtids.ensures.list
      ∙ same_lists c.entries-gtids.result.now c.entries-others.result.now (omega arith) (λ k d within. c.loop-i.invariant k d (omega arith))
      ∙ c.entries-others.ensures.list,
  λ same. refl,
)
