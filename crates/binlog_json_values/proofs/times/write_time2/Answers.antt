use Rattle.std.proofs.Common.{◌≡◌, ◌/◌, ◌%◌, ◌^◌, ◌≤◌, ◌∙◌, rules}
use Rattle.std.specs.Prelude.{nat_lt}
use Rattle.json_line.specs.Moments as moments
use Rattle.binlog_values.specs.Contents.{time2_zero, time2_distance}
use Rattle.binlog_values.specs.Times.{microseconds_of}
use Rattle.binlog_json_values.specs.Values.{time2_parts, time2_of}
use Rattle.binlog_json_values.proofs.Moments.{time_same, string_as}
use Rattle.binlog_json_values.proofs.times.write_time2.Goals as goal

pub returns : goal.returns
returns c =
    let k = c.args.time.now.digits in
    let n = c.args.time.now.number in
    let at = time2_parts k n in
    let few : k ≤ 6 = search rules in
    let same : moments.time_text c.is_negative.result c.hour.result c.minute.result c.second.result c.digits.result c.microseconds.result ≡ time2_of k n =
    (λ i. moments.time_text (c.is_negative.ensures i) (c.hour.ensures i) (c.minute.ensures i) (c.second.ensures i) (c.digits.ensures i) (c.microseconds.ensures i))
    ∙ time_same (nat_lt n (time2_zero k)) (at / 2 ^ 12) (at / 2 ^ 6 % 64) (at % 64) k (microseconds_of k (time2_distance k n)) few in
    string_as _ _ _ _ _ same c.time.ensures.added
