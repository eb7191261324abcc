use Rattle.json_line.proofs.line.Line.text_that_keeps_ascii.Goals as goal

pub returns-then-branch : goal.returns-then-branch
returns-then-branch c =
    let added = rw c.if-branch.true at c.in_ok-string_if_plain.ensures.added in
    rw (c.requires c.args.text.now added.0) added.1

pub returns : goal.returns
returns c =
    let same = rw c.if-branch.false at c.in_ok-string_if_plain.ensures.added in
    rw same at c.other_text_in.ensures
