use Rattle.binlog_payloads.proofs.FieldLists.{data_sound, data_complete}
use Rattle.binlog_payloads.proofs.laws.data_are_read.Goals as goal

pub returns : goal.returns
returns c bytes event fits = (data_sound bytes event fits, data_complete bytes event)
