use Rattle.binlog_payloads.proofs.InnerEvents.{some_content_split, one_content_split}
use Rattle.binlog_payloads.proofs.laws.contents_are_split.Goals as goal

pub returns-clause-some : goal.returns-clause-some
returns-clause-some c = some_content_split

pub returns-clause-one : goal.returns-clause-one
returns-clause-one c content frames others tail end a b = one_content_split content frames others tail end a b
