use Rattle.binlog_gtid_text.proofs.Spelled.{text_spelled}
use Rattle.binlog_gtid_text.proofs.SpelledRead.{text_read_back}
use Rattle.binlog_gtid_text.proofs.laws.texts_are_spelled.Goals as goal

pub returns : goal.returns
returns c = λ text ps. (λ h. text_spelled ps text h, λ h. text_read_back ps text h)
