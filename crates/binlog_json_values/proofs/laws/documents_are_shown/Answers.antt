use Rattle.binlog_json_values.proofs.JsonDocuments.{document_shown}
use Rattle.binlog_json_values.proofs.laws.documents_are_shown.Goals as goal

pub returns : goal.returns
returns c = document_shown
