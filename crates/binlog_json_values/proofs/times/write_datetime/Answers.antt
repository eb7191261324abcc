use Rattle.std.proofs.Common.{◌≡◌, ◌/◌, ◌%◌, ◌∙◌, rules}
use Rattle.json_line.specs.Moments as moments
use Rattle.binlog_json_values.specs.Values.{datetime_of}
use Rattle.binlog_json_values.proofs.Moments.{date_clock_same, string_as}
use Rattle.binlog_json_values.proofs.times.write_datetime.Goals as goal

pub returns : goal.returns
returns c =
    let n = c.args.time.now.digits in
    let hour : c.from.result ≡ n / 10000 % 100 = search rules in
    let same : moments.date_time_text c.year.result c.month.result c.day.result c.from.result c.minute.result c.second.result 0 0 ≡ datetime_of n =
    (λ i. moments.date_time_text (c.year.ensures i) (c.month.ensures i) (c.day.ensures i) (hour i) (c.minute.ensures i) (c.second.ensures i) 0 0)
    ∙ date_clock_same (n / 10000000000) (n / 100000000 % 100) (n / 1000000 % 100) (n / 10000 % 100) (n / 100 % 100) (n % 100) 0 in
    string_as _ _ _ _ _ same c.date_time.ensures.added
