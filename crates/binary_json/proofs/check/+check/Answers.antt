use Rattle.std.proofs.Common.{sym}
use Rattle.std.proofs.lemmas.Result.{err_from_is_err_and}
use Rattle.binary_json.specs.Refusals.{value_left}
use Rattle.binary_json.proofs.Entries.{goes_on, key_ends, value_ends, all_checked}
use Rattle.binary_json.proofs.check.+check.Goals as goal

pub check_entries-returns-in_err-rest : goal.check_entries-returns-in_err-rest
check_entries-returns-in_err-rest t c =
    let p = err_from_is_err_and c.from_residual.result c.from_residual.ensures.1 in
    let k = c.args.container.now in
    rw (p.1, p.2) (sym (key_ends (value_left c.args.depth) k.kind c.args.place k.bytes.now k.count c.entries.index c.entries.rest _ c.entries-test.true c.entries.invariant c.in_err-rest.field-0.0 (sym c.in_err-rest.ensures)))

pub check_entries-returns-in_err-rest-2 : goal.check_entries-returns-in_err-rest-2
check_entries-returns-in_err-rest-2 t c =
    let p = err_from_is_err_and c.from_residual-in_err-rest-2.result c.from_residual-in_err-rest-2.ensures.1 in
    let k = c.args.container.now in
    rw (p.1, p.2) (sym (value_ends (value_left c.args.depth) k.kind c.args.place k.bytes.now k.count c.entries.index c.entries.rest _ c.entries-test.true c.entries.invariant c.in_ok-rest.rest c.in_err-rest-2.field-0.0 (sym c.in_ok-rest.ensures) (sym c.in_err-rest-2.ensures)))

pub check_entries-entries-preserved : goal.check_entries-entries-preserved
check_entries-entries-preserved t c =
    let k = c.args.container.now in
    goes_on (value_left c.args.depth) k.kind c.args.place k.bytes.now k.count c.entries.index c.entries.rest _ c.entries-test.true c.entries.invariant c.in_ok-rest.rest c.in_ok-rest-2.rest (sym c.in_ok-rest.ensures) (sym c.in_ok-rest-2.ensures)

pub check_entries-returns : goal.check_entries-returns
check_entries-returns t c =
    let k = c.args.container.now in
    sym (all_checked (value_left c.args.depth) k.kind c.args.place k.bytes.now k.count c.entries.index c.entries.rest _ c.entries-test.false c.entries.invariant)
