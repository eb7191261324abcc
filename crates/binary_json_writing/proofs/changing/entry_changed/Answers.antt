use Rattle.std.specs.Prelude.{option_map}
use Rattle.std.proofs.lemmas.Result.{err_from_is_err_and}
use Rattle.binary_json.specs.Views.{json}
use Rattle.binary_json_writing.specs.Paths.{leg_of}
use Rattle.binary_json_writing.proofs.Placed.{placed, new_unwritten}
use Rattle.binary_json_writing.proofs.changing.entry_changed.Goals as goal

pub returns-in_err-new-clause-refused : goal.returns-in_err-new-clause-refused
returns-in_err-new-clause-refused c =
    let p = err_from_is_err_and c.from_residual-in_err-new.result c.from_residual-in_err-new.ensures.1 in
    rw (p.1, p.2) (new_unwritten c.args.operation (option_map json c.args.new.now) (leg_of c.args.leg.now) (json c.args.value.now) c.in_ok-index.index _ c.in_ok-index.ensures c.in_err-new.ensures.refused)

pub spliced-requires-clause-within : goal.spliced-requires-clause-within
spliced-requires-clause-within c =
    (placed c.args.operation (leg_of c.args.leg.now) (json c.args.value.now) c.in_ok-index.index c.taken_by.result c.in_ok-index.ensures c.taken_by.ensures.is).room
