use Rattle.json_line.proofs.Texts.{text_is_string}
use Rattle.json_line.proofs.line.Line.other_text.Goals as goal

pub returns-in-Ok : goal.returns-in-Ok
returns-in-Ok c =
    let cases = rw c.in-Ok.is at c.from_utf8.ensures.cases in
    rw (text_is_string c.args.text.now cases.1) (rw cases.0 at c.escaped_string.ensures.added)
