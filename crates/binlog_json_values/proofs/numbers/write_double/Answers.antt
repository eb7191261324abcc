use Rattle.json.proofs.Printed.Floats.{IsNumber-plain}
use Rattle.binlog_json_values.proofs.numbers.write_double.Goals as goal

pub number_text-requires : goal.number_text-requires
number_text-requires c = IsNumber-plain _ c.format_finite.ensures.plain
