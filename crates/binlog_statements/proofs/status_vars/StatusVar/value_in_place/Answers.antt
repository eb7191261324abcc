use Rattle.std.proofs.Common.{subst}
use Rattle.binlog_consts.specs.declared.status_var_key.StatusVarKey.{StatusVarKey}
use Rattle.binlog_statements.specs.Layouts.{layout_of, IsLaidOut}
use Rattle.binlog_statements.proofs.LayoutLaws.{whole_is}
use Rattle.binlog_statements.proofs.status_vars.StatusVar.value_in_place.Goals as goal

pub two_texts-username-requires : goal.two_texts-username-requires
two_texts-username-requires c =
    subst (λ (k : StatusVarKey). IsLaidOut (layout_of k) c.args.self.now.value.now) c.in-Invoker.is
    (whole_is (layout_of c.args.self.now.key) c.args.self.now.value.now c.args.self.now.whole)
