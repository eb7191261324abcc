use Rattle.std.proofs.lemmas.Str.{IsUtf8-from_ascii}
use Rattle.json_line.proofs.line.Line.string_if_utf8.Goals as goal

pub returns-then-branch-clause-added : goal.returns-then-branch-clause-added
returns-then-branch-clause-added c =
    let added = rw c.if-branch.true at c.in_ok-string_if_plain.ensures.added in
    (IsUtf8-from_ascii _ added.0, added.1)

pub returns-clause-added : goal.returns-clause-added
returns-clause-added c =
    let same = rw c.if-branch.false at c.in_ok-string_if_plain.ensures.added in
    rw same at c.other_string_if_utf8.ensures.added

pub returns-clause-unchanged : goal.returns-clause-unchanged
returns-clause-unchanged c =
    let same = rw c.if-branch.false at c.in_ok-string_if_plain.ensures.added in
    rw same at c.other_string_if_utf8.ensures.unchanged
