use Rattle.std.proofs.Common.{◌≡◌, refl, ℕ, List, [], Option, unwrap_or, map, sym, ap, ◌∙◌, subst}
use Rattle.binlog_event_types.specs.TypeNames.{AreNamed}
use Rattle.binlog_cli.proofs.NamedTypes.{texts_if_given}
use Rattle.binlog_cli.proofs.type_names.types.Goals as goal

pub returns-clause-ok : goal.returns-clause-ok
returns-clause-ok g c =
    let given = texts_if_given c.get_strs.result _ refl in
    let stated = ap (λ (texts : Option (List (List ℕ))). unwrap_or texts []) c.get_strs.ensures in
    subst (λ (names : List (List ℕ)). AreNamed names c.in_ok-types.types.items) (ap (λ names. map (λ name. name.now) names.now) c.unwrap_or.ensures ∙ given ∙ stated) c.in_ok-types.ensures.ok
