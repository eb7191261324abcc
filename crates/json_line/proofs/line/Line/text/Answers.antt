use Rattle.std.proofs.lemmas.Str.{IsUtf8-from_ascii}
use Rattle.json_line.proofs.Texts.{text_is_string}
use Rattle.json_line.proofs.line.Line.text.Goals as goal

pub returns-then-branch : goal.returns-then-branch
returns-then-branch c =
    let added = rw c.if-branch.true at c.in_ok-string_if_plain.ensures.added in
    rw (text_is_string c.args.text.now (IsUtf8-from_ascii _ added.0)) added.1

pub returns : goal.returns
returns c =
    let same = rw c.if-branch.false at c.in_ok-string_if_plain.ensures.added in
    rw same at c.other_text.ensures
