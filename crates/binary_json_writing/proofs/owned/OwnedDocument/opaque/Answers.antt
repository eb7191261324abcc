use Rattle.std.proofs.Common.{◌^◌, ◌<◌, length, arith}
use Rattle.binary_json.specs.Values.{opaque}
use Rattle.binary_json_writing.proofs.Kept.{opaque_is, opaque_fits}
use Rattle.binary_json_writing.proofs.owned.OwnedDocument.opaque.Goals as goal

pub of_scalar-requires : goal.of_scalar-requires
of_scalar-requires c =
    let v = c.args.value.now in
    let few : length c.data-text.result.now < 2 ^ 32 = omega arith in
    (opaque v.column v.bytes.now, opaque_is v.column c.value_type.result v.bytes.now c.data-text.result.now _ _ c.value_type.ensures c.data-text.ensures c.in_ok-bytes.ensures c.in_ok-push_counted.ensures, opaque_fits v.column v.bytes.now c.data-text.result.now c.data-text.ensures few v.fits)

pub returns-clause-made : goal.returns-clause-made
returns-clause-made c =
    let v = c.args.value.now in
    let few : length c.data-text.result.now < 2 ^ 32 = omega arith in
    c.of_scalar.ensures (opaque v.column v.bytes.now) (opaque_is v.column c.value_type.result v.bytes.now c.data-text.result.now _ _ c.value_type.ensures c.data-text.ensures c.in_ok-bytes.ensures c.in_ok-push_counted.ensures)
    (opaque_fits v.column v.bytes.now c.data-text.result.now c.data-text.ensures few v.fits)
