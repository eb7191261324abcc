use Rattle.binary_json_writing.proofs.Kept.{is_document}
use Rattle.binary_json_writing.proofs.owned.OwnedDocument.into_bytes.Goals as goal

pub returns-clause-value : goal.returns-clause-value
returns-clause-value c = is_document c.args.self.bytes.items c.args.self.depth c.args.self.exact c.args.self.possible c.args.self.deep c.args.self.shallow
