use Rattle.std.proofs.Common.{◌≡◌, rules}
use Rattle.json.proofs.Printed.Places.{Placed-then}
use Rattle.json_line.specs.Moments.{clock_text}
use Rattle.json_line.proofs.place_moment.place_clock.Goals as goal

pub returns-clause-placed : goal.returns-clause-placed
unfolding clock_text
returns-clause-placed c =
    let minute : c.from.result ≡ c.args.time.now.minute = search rules in
    let second : c.from-2.result ≡ c.args.time.now.second = search rules in
    let all = Placed-then c.place_two_digits-hour.ensures.placed
    (Placed-then c.place_byte-colon.ensures
    (Placed-then (rw minute at c.place_two_digits-minute.ensures.placed)
    (Placed-then c.place_byte-colon-2.ensures (rw second at c.place_two_digits.ensures.placed)))) in
    all
