use Rattle.std.proofs.Common.{◌≡◌, ◌/◌, ◌%◌, ◌∙◌}
use Rattle.json_line.specs.Moments as moments
use Rattle.binlog_json_values.specs.Values.{date_of}
use Rattle.binlog_json_values.proofs.Moments.{date_same, string_as}
use Rattle.binlog_json_values.proofs.times.write_date.Goals as goal

pub returns : goal.returns
returns c =
    let n = c.args.date.now.bits in
    let same : moments.date_text c.year.result c.month.result c.day.result ≡ date_of n =
    (λ i. moments.date_text (c.year.ensures i) (c.month.ensures i) (c.day.ensures i)) ∙ date_same (n / 512) (n / 32 % 16) (n % 32) in
    string_as _ _ _ _ _ same c.date.ensures.added
