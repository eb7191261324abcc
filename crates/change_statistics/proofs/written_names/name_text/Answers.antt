use Rattle.std.proofs.Common.{◌≡◌, false, sym, ◌∙◌}
use Rattle.std.proofs.lemmas.Bool.{false_from_ne_true}
use Rattle.std.proofs.lemmas.Str.{IsUtf8-from_is_utf8, is_utf8-from_IsUtf8}
use Rattle.std.specs.List.{list_any}
use Rattle.std.specs.Str.{is_utf8}
use Rattle.change_statistics.specs.NameTexts.{is_control}
use Rattle.change_statistics.proofs.written_names.name_text.Goals as goal

pub returns-in-Ok : goal.returns-in-Ok
returns-in-Ok c =
    let cases = rw c.in-Ok.is at c.from_utf8.ensures.cases in
    let plain : list_any is_control c.args.name.now ≡ false = sym c.has_control.ensures ∙ c.if-has_control.false in
    rw (plain, is_utf8-from_IsUtf8 c.args.name.now cases.1) cases.0

pub returns-in-Err : goal.returns-in-Err
returns-in-Err c =
    let cases = rw c.in-Err.is at c.from_utf8.ensures.cases in
    let plain : list_any is_control c.args.name.now ≡ false = sym c.has_control.ensures ∙ c.if-has_control.false in
    rw (plain, false_from_ne_true (is_utf8 c.args.name.now) (λ e. cases.0 (IsUtf8-from_is_utf8 c.args.name.now e)))
