use Rattle.binlog_json_values.proofs.Moments.{date_time_same, string_as}
use Rattle.binlog_json_values.proofs.timestamps.write_zero.Goals as goal

pub returns : goal.returns
returns c = string_as _ _ _ _ _ (date_time_same 0 0 0 0 0 0 c.args.digits 0 c.requires) c.date_time.ensures.added
