use Rattle.std.proofs.Common.{◌≡◌, ◌++◌, take, flat_map}
use Rattle.json_line.specs.Tokens.{number_value}
use Rattle.binlog_summaries.proofs.transaction_json.write_numbers.Given as goal

abbrev pub invariant-numbers : goal.invariant-numbers
invariant-numbers l = l.line ≡ l.fn.line ++ flat_map number_value (take l.number-index l.numbers)
