use Rattle.std.proofs.Common.{◌≡◌, rules}
use Rattle.json.proofs.Printed.Places.{Placed-then}
use Rattle.json_line.specs.Moments.{date_text}
use Rattle.json_line.proofs.place_moment.place_date.Goals as goal

pub returns-clause-placed : goal.returns-clause-placed
unfolding date_text
returns-clause-placed c =
    let month : c.from.result ≡ c.args.date.now.month = search rules in
    let day : c.from-2.result ≡ c.args.date.now.day = search rules in
    let all = Placed-then c.place_year-year.ensures.placed
    (Placed-then c.place_byte-dash.ensures
    (Placed-then (rw month at c.place_two_digits-month.ensures.placed)
    (Placed-then c.place_byte-dash-2.ensures (rw day at c.place_two_digits.ensures.placed)))) in
    all
