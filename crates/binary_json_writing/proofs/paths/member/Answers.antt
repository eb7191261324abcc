use Rattle.std.proofs.lemmas.Result.{err_from_is_err_and}
use Rattle.binary_json_writing.proofs.PathLegs.{quoted_found, quoted_refused}
use Rattle.binary_json_writing.proofs.paths.member.Goals as goal

pub returns-in_err-name-clause-refused : goal.returns-in_err-name-clause-refused
returns-in_err-name-clause-refused c =
    let p = err_from_is_err_and c.from_residual.result c.from_residual.ensures.1 in
    rw (p.1, p.2) (quoted_refused _ c.in-Some.spelled.now c.args.bytes.now _ c.in-Some.ensures.is c.in_err-name.ensures.refused)

pub returns-clause-found : goal.returns-clause-found
returns-clause-found c = quoted_found c.in_ok-name.name.items c.in_ok-name.rest.now c.in-Some.spelled.now c.args.bytes.now _ c.in-Some.ensures.is c.in_ok-name.ensures.found
