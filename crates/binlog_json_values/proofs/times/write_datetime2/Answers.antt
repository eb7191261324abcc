use Rattle.std.proofs.Common.{◌≡◌, ◌/◌, ◌%◌, ◌^◌, ◌≤◌, ◌∙◌, rules}
use Rattle.json_line.specs.Moments as moments
use Rattle.binlog_values.specs.Times.{date_time_of, microseconds_of}
use Rattle.binlog_json_values.specs.Values.{datetime2_of}
use Rattle.binlog_json_values.proofs.Moments.{date_time_same, string_as}
use Rattle.binlog_json_values.proofs.times.write_datetime2.Goals as goal

pub returns : goal.returns
returns c =
    let k = c.args.time.now.digits in
    let n = c.args.time.now.number in
    let at = date_time_of k n in
    let hour : c.from.result ≡ at / 2 ^ 12 % 32 = search rules in
    let few : k ≤ 6 = search rules in
    let same : moments.date_time_text c.year.result c.month.result c.day.result c.from.result c.minute.result c.second.result c.digits.result c.microseconds.result ≡ datetime2_of k n =
    (λ i. moments.date_time_text (c.year.ensures i) (c.month.ensures i) (c.day.ensures i) (hour i) (c.minute.ensures i) (c.second.ensures i) (c.digits.ensures i) (c.microseconds.ensures i))
    ∙ date_time_same (at / 2 ^ 22 / 13) (at / 2 ^ 22 % 13) (at / 2 ^ 17 % 32) (at / 2 ^ 12 % 32) (at / 2 ^ 6 % 64) (at % 64) k (microseconds_of k n) few in
    string_as _ _ _ _ _ same c.date_time.ensures.added
