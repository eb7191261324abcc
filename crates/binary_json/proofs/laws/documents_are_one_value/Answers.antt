use Rattle.binary_json.proofs.Documents.{one_value}
use Rattle.binary_json.proofs.laws.documents_are_one_value.Goals as goal

pub returns : goal.returns
returns c = one_value
