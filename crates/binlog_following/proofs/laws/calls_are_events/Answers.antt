use Rattle.binlog_following.proofs.Runs.{calls_are_events}
use Rattle.binlog_following.proofs.laws.calls_are_events.Goals as goal

pub returns : goal.returns
returns c = λ is_cut start old new counts is. calls_are_events is_cut start old new counts is
