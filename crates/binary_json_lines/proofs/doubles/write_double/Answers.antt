use Rattle.std.proofs.Common.{◌≡◌, Some, ap, ◌∙◌}
use Rattle.std.specs.Prelude.{from_bits}
use Rattle.std.specs.Float.{Float, binary64}
use Rattle.ryu.specs.Parse.{parse_float}
use Rattle.json.proofs.Printed.Floats.{IsNumber-plain}
use Rattle.binary_json_lines.proofs.DoubleLemmas.{shows_double}
use Rattle.binary_json_lines.proofs.doubles.write_double.Goals as goal

pub number_text-requires-2 : goal.number_text-requires-2
number_text-requires-2 c = IsNumber-plain c.format_finite-shortest.result.now c.format_finite-shortest.ensures.plain

pub returns : goal.returns
returns c =
    let text = c.format_finite-shortest.result.now in
    let bits = c.args.double.now.bits in
    let reads : parse_float binary64 text ≡ Some (from_bits binary64 bits) = c.format_finite-shortest.ensures.parses ∙ ap (λ (x : Float). Some x) c.to_f64-number.ensures in
    shows_double c.number_text-2.result c.args.line.now c.number_text-2.new.self bits text (IsNumber-plain text c.format_finite-shortest.ensures.plain) reads c.number_text-2.ensures.added
