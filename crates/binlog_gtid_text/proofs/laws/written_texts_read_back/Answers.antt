use Rattle.binlog_gtid_text.proofs.PrintedPieces.{pieces_of, printed_pieces, printed_named}
use Rattle.binlog_gtid_text.proofs.laws.written_texts_read_back.Goals as goal

pub returns : goal.returns
returns c = λ groups are is. (pieces_of groups, printed_pieces groups are is, λ pair n. printed_named groups are pair n)
