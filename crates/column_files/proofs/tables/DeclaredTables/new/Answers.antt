use Rattle.std.proofs.Common.{◌<◌, length, arith, take}
use Rattle.column_files.proofs.TableColumns.{tables_more, in_place_more, misplaced_here, counted, next_is, next_is_not}
use Rattle.column_files.proofs.tables.DeclaredTables.new.Goals as goal

pub returns-then-not-branch-clause-err : goal.returns-then-not-branch-clause-err
returns-then-not-branch-clause-err c =
    let line = c.index-lines-index.result in
    misplaced_here c.args.lines.now c.loop-index.index line (omega (arith, c.loop-index-test.true)) c.index-lines-index.is c.loop-index.invariant.0
    (next_is_not line.position _ _ c.in_ok-add.field-0 c.in_ok-add.ensures.place c.if-not-branch.true
    (counted (take c.loop-index.index c.args.lines.now) c.loop-index.tables line.schema line.table c.loop-index.invariant.1))

pub loop-index-preserved : goal.loop-index-preserved
loop-index-preserved c =
    let line = c.index-lines-index.result in
    let within : c.loop-index.index < length c.args.lines.now = omega (arith, c.loop-index-test.true) in (
      in_place_more c.args.lines.now c.loop-index.index line within c.index-lines-index.is c.loop-index.invariant.0
          (next_is line.position _ _ c.in_ok-add.field-0 c.in_ok-add.ensures.place c.if-not-branch.false
          (counted (take c.loop-index.index c.args.lines.now) c.loop-index.tables line.schema line.table c.loop-index.invariant.1)),
      tables_more c.args.lines.now c.loop-index.index line c.loop-index.tables c.add.new.self within c.index-lines-index.is c.loop-index.invariant.1 c.in_ok-add.ensures.adds,
    )
