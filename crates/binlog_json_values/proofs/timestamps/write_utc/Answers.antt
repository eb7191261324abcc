use Rattle.std.proofs.Common.{◌≡◌, ◌/◌, ◌%◌, ◌++◌, ◌∷◌, [], List, ℕ, unsigned_abs, rules, refl, ◌∙◌}
use Rattle.json.specs.Token.{string}
use Rattle.jiff_core.specs.declared.civil.date.Date.{Date}
use Rattle.json_line.specs.Moments as moments
use Rattle.binlog_json_values.specs.Parts.{utc}
use Rattle.binlog_json_values.specs.Times.{date_text, clock_text, fraction_text}
use Rattle.binlog_json_values.proofs.Moments.{date_time_same, string_as}
use Rattle.binlog_json_values.proofs.Parts.{on_ok, shows_one}
use Rattle.binlog_json_values.proofs.timestamps.write_utc.Goals as goal

pub returns : goal.returns
returns c =
    let date : Date = c.date_of-date.result in
    let seconds = c.args.seconds in
    let text : List ℕ = date_text (unsigned_abs date.year) date.month date.day ++ 32 ∷ [] ++ clock_text (seconds / 3600 % 24) (seconds / 60 % 60) (seconds % 60) ++ fraction_text c.args.digits c.args.microseconds in
    let year : c.from.result ≡ unsigned_abs date.year = search rules in
    let hour : c.from-2.result ≡ seconds / 3600 % 24 = search rules in
    let same : moments.date_time_text c.from.result date.month date.day c.from-2.result (seconds / 60 % 60) (seconds % 60) c.args.digits c.args.microseconds ≡ text =
    (λ i. moments.date_time_text (year i) date.month date.day (hour i) (seconds / 60 % 60) (seconds % 60) c.args.digits c.args.microseconds)
    ∙ date_time_same (unsigned_abs date.year) date.month date.day (seconds / 3600 % 24) (seconds / 60 % 60) (seconds % 60) c.args.digits c.args.microseconds c.requires in
    on_ok _ (λ e. shows_one _ _ (utc seconds c.args.digits c.args.microseconds) (string text) (text, refl, (date, c.date_of-date.ensures, refl)) e)
    (string_as c.date_time.result c.args.line.now c.date_time.new.self _ text same c.date_time.ensures.added)
