use Rattle.std.proofs.Common.{ℕ, List, sym, subst}
use Rattle.binlog_statements.specs.declared.layout.Layout.{Layout}
use Rattle.binlog_statements.specs.Layouts.{IsWholeLen}
use Rattle.binlog_statements.proofs.LayoutLaws.{counted_is_there, counted_is_whole}
use Rattle.binlog_statements.proofs.status_vars.StatusVar.first.Goals as goal

pub split_at-requires : goal.split_at-requires
split_at-requires c = counted_is_there _ _ _ (sym c.in_ok-len.ensures)

pub invariant_of-result : goal.invariant_of-result
invariant_of-result c =
    let whole = counted_is_whole _ _ _ (sym c.in_ok-len.ensures) in
    record {
      whole = subst (λ (l : Layout). IsWholeLen l c.split_at.result.0.now) c.of.ensures
          (subst (λ (t : List ℕ). IsWholeLen c.of.result t) (sym c.split_at.ensures.front) whole);
    }
