use Rattle.std.proofs.Common.{refl}
use Rattle.binary_json.specs.Values.{null}
use Rattle.binary_json_writing.proofs.owned.OwnedDocument.null.Goals as goal

pub number-requires : goal.number-requires
number-requires c = (null, refl, refl)

pub returns : goal.returns
returns c = c.number.ensures null refl refl
