use Rattle.std.proofs.Common.{true, false, refl}
use Rattle.binary_json.specs.Values.{boolean}
use Rattle.binary_json_writing.proofs.owned.OwnedDocument.boolean.Goals as goal

pub number-requires : goal.number-requires
number-requires c = (boolean true, refl, refl)

pub number-requires-else-value : goal.number-requires-else-value
number-requires-else-value c = (boolean false, refl, refl)
