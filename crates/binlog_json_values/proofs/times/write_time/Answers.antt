use Rattle.std.proofs.Common.{◌≡◌, ◌/◌, ◌%◌, ◌^◌, ◌∙◌}
use Rattle.std.specs.Prelude.{nat_le}
use Rattle.json_line.specs.Moments as moments
use Rattle.binlog_values.specs.Times.{time_distance}
use Rattle.binlog_json_values.specs.Values.{time_of}
use Rattle.binlog_json_values.proofs.Moments.{time_clock_same, string_as}
use Rattle.binlog_json_values.proofs.times.write_time.Goals as goal

pub returns : goal.returns
returns c =
    let n = c.args.time.now.bits in
    let same : moments.time_text c.is_negative.result c.hour.result c.minute.result c.second.result 0 0 ≡ time_of n =
    (λ i. moments.time_text (c.is_negative.ensures i) (c.hour.ensures i) (c.minute.ensures i) (c.second.ensures i) 0 0)
    ∙ time_clock_same (nat_le (2 ^ 23) n) (time_distance n / 10000) (time_distance n / 100 % 100) (time_distance n % 100) 0 in
    string_as _ _ _ _ _ same c.time.ensures.added
