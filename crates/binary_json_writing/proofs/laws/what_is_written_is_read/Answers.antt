use Rattle.binary_json_writing.proofs.Values.{document_reads}
use Rattle.binary_json_writing.proofs.laws.what_is_written_is_read.Goals as goal

pub returns : goal.returns
returns c = document_reads
