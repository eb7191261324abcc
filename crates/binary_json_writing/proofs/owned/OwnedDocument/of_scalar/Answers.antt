use Rattle.std.proofs.Common.{arith}
use Rattle.binary_json.specs.Values.{scalar}
use Rattle.binary_json_writing.proofs.Kept.{kept}
use Rattle.binary_json_writing.proofs.owned.OwnedDocument.of_scalar.Goals as goal

pub invariant_of-result : goal.invariant_of-result
invariant_of-result c =
    let k = kept (scalar c.requires.0) c.args.bytes.items c.requires.1 c.requires.2 (omega arith) in
    record { exact = k.exact; possible = k.possible; deep = k.deep; shallow = omega arith }

pub returns : goal.returns
returns c = λ x e fits. (kept (scalar x) c.args.bytes.items e fits (omega arith)).value
