use Rattle.std.proofs.Common.{◌≡◌, ◌∷◌, [], true, false, sym, ◌∙◌}
use Rattle.json.specs.Token.{string}
use Rattle.binlog_json_values.specs.Values.{is_zero, zero_text}
use Rattle.binlog_json_values.proofs.Parts.{on_ok, shows_exact}
use Rattle.binlog_json_values.proofs.timestamps.write_timestamp.Goals as goal

pub returns-then-is_zero : goal.returns-then-is_zero
returns-then-is_zero c =
    let zero : is_zero c.args.seconds c.args.microseconds ≡ true = sym c.is_zero.ensures ∙ c.if-is_zero.true in
    rw zero (on_ok _ (λ e. shows_exact _ _ (string (zero_text c.args.digits) ∷ []) e) c.write_zero.ensures)

pub returns : goal.returns
returns c =
    let other : is_zero c.args.seconds c.args.microseconds ≡ false = sym c.is_zero.ensures ∙ c.if-is_zero.false in
    rw other c.write_utc.ensures
