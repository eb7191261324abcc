use Rattle.std.proofs.Common.{◌≡◌, ◌≢◌, sym, ◌∙◌, rules}
use denote.Enum.Bare.{same_true, same_false}
use Rattle.binlog_consts.specs.contracts.status_var_key.StatusVarKey.{the_type}
use Rattle.binlog_statements.specs.StatusVars.{variable_of}
use Rattle.binlog_statements.proofs.VariableLaws.{first_here, first_later, none_later, none_here}
use Rattle.binlog_statements.proofs.status_vars.StatusVars.get_status_var.Goals as goal

pub returns-then-eq : goal.returns-then-eq
returns-then-eq c =
    let has : c.in-Some.var.key ≡ c.args.key = same_true the_type (search rules) _ _ (sym c.eq.ensures ∙ c.if-eq.true) in
    c.loop-var.invariant.first (variable_of c.in-Some.var) (first_here _ _ (variable_of c.in-Some.var) _ c.in-Some.ensures.steps has)

pub loop-var-preserved : goal.loop-var-preserved
loop-var-preserved c =
    let other : c.in-Some.var.key ≢ c.args.key = same_false the_type _ _ (sym c.eq.ensures ∙ c.if-eq.false) in
    record {
      first = λ v h. c.loop-var.invariant.first v (first_later _ _ (variable_of c.in-Some.var) _ v c.in-Some.ensures.steps other h);
      none = λ h. c.loop-var.invariant.none (none_later c.args.key _ (variable_of c.in-Some.var) _ c.in-Some.ensures.steps other h);
    }

pub returns : goal.returns
returns c = c.loop-var.invariant.none (none_here c.args.key _ c.in-None.ensures.steps.0)
