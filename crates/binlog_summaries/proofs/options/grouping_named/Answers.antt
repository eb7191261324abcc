use Rattle.std.proofs.Common.{refl}
use Rattle.binlog_summaries.proofs.GroupingNames.{no_name, differs}
use Rattle.binlog_summaries.proofs.options.grouping_named.Goals as goal

pub returns-in_err-seconds : goal.returns-in_err-seconds
returns-in_err-seconds c =
    rw c.from_residual.ensures
    (no_name c.args.name.now (differs _ _ _ c.eq.ensures c.if-eq.false refl) (differs _ _ _ c.eq-2.ensures c.if-eq-2.false refl) (differs _ _ _ c.eq-3.ensures c.if-eq-3.false refl) c.in_err-seconds.ensures)
