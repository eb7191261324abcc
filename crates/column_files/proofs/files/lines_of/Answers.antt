use Rattle.std.proofs.Common.{List, subst, rules}
use Rattle.column_files.specs.declared.files.ColumnLine.{ColumnLine}
use Rattle.column_files.specs.Files.{AreLines}
use Rattle.column_files.proofs.Lines.{one_more}
use Rattle.column_files.proofs.files.lines_of.Goals as goal

pub loop-rest-preserved : goal.loop-rest-preserved
loop-rest-preserved c =
    let grown = one_more c.loop-rest.lines.items c.in_ok-line.line c.args.body.now c.loop-rest.rest.now c.in_ok-line.next.now c.loop-rest.invariant c.in_ok-line.ensures.ok in
    subst (λ (ls : List ColumnLine). AreLines c.args.body.now ls c.in_ok-line.next.now) (search rules) grown
