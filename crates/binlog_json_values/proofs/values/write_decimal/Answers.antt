use Rattle.std.proofs.Common.{◌≡◌, ◌∙◌, take, drop}
use Rattle.json_line.specs.Decimals as decimals
use Rattle.binlog_values.specs.Decimals.{is_negative_decimal, decimal_text}
use Rattle.binlog_json_values.proofs.GroupedDecimals.{parts_same}
use Rattle.binlog_json_values.proofs.Moments.{string_as}
use Rattle.binlog_json_values.proofs.values.write_decimal.Goals as goal

pub returns : goal.returns
returns c =
    let of = c.args.decimal in
    let groups = c.groups-groups.result in
    let same : decimals.decimal_text c.is_negative.result c.first.result c.whole.result.now c.scale.result c.part.result.now c.last.result ≡ decimal_text of.precision of.scale of.bytes.now =
    (λ i. decimals.decimal_text (c.is_negative.ensures i) (c.first.ensures i) (c.whole.ensures.groups i) (c.scale.ensures i) (c.part.ensures.groups i) (c.last.ensures i))
    ∙ parts_same (is_negative_decimal of.bytes.now) groups.first (take groups.whole groups.nines) of.scale (take groups.part (drop groups.whole groups.nines)) groups.last ∙ c.groups-groups.ensures.text in
    string_as _ _ _ _ _ same c.decimal.ensures.added
