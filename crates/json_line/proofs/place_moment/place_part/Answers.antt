use Rattle.std.proofs.Common.{◌≡◌, ◌≤◌, length, rules, arith}
use Rattle.json.proofs.Printed.Places.{Placed-then}
use Rattle.json_line.proofs.BufferTexts.{placed_front}
use Rattle.json_line.proofs.place_moment.place_part.Goals as goal

pub returns : goal.returns
returns c =
    let digits : c.from.result ≡ c.args.digits = search rules in
    let within : c.place_byte-point.result ≤ length c.place_byte-point.new.memory = omega (arith, c.place_byte-point.ensures.moved, c.place_byte-point.ensures.len) in
    rw digits (Placed-then c.place_byte-point.ensures (placed_front c.args.digits within (omega (arith, c.requires)) c.place_six_digits.ensures))
