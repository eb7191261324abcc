use Rattle.std.proofs.Common.{ℕ, List, Option, subst}
use Rattle.binlog_file.specs.StatusVars.{variable_of}
use Rattle.binlog_json_bodies.specs.ClientSets.{GivesFirst}
use Rattle.binlog_json_bodies.proofs.KnownVariables.{listed_fits, listed_stated, none_listed}
use Rattle.binlog_json_bodies.proofs.known_variables.first_known.Goals as goal

pub behind_variable-behind-requires : goal.behind_variable-behind-requires
behind_variable-behind-requires c =
    listed_fits c.args.text.now c.new-variables.result.unread.now _ (variable_of c.in-Some.variable) c.in-Some.ensures.steps c.new-variables.ensures

pub returns-in-Some : goal.returns-in-Some
returns-in-Some c =
    listed_stated c.args.text.now c.new-variables.result.unread.now _ (variable_of c.in-Some.variable) c.collation_of-stated.result c.behind_variable-behind.result.now
    c.in-Some.ensures.steps c.new-variables.ensures c.collation_of-stated.ensures c.behind_variable-behind.ensures

pub returns-in-None : goal.returns-in-None
returns-in-None c =
    let same = none_listed c.args.text.now c.new-variables.result.unread.now c.in-None.ensures.steps.0 c.new-variables.ensures in
    subst (λ (first : Option (Option ℕ × List ℕ)). GivesFirst c.first_unlisted.result first) same c.first_unlisted.ensures
