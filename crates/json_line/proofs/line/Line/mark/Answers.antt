use Rattle.std.proofs.Common.{subst}
use Rattle.json_line.specs.Marks.{StandsBehind}
use Rattle.json_line.specs.declared.line.Mark.{Mark}
use Rattle.json_line.proofs.Marks.{marked}
use Rattle.json_line.proofs.line.Line.mark.Goals as goal

pub returns : goal.returns
returns c =
    let mark : Mark = record { len = c.len.result; after_value = c.self.inside.after_value } in
    subst (StandsBehind mark) c.self.view_is (marked c.self.inside.text.text mark c.self.invariant c.len.ensures)
