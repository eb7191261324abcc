use Rattle.std.proofs.Common.{◌≡◌, ◌++◌, ◌∷◌, [], Bool, length, refl, sym, subst, eqb-true}
use Rattle.std.specs.Arc.{arc_value}
use Rattle.std.proofs.lemmas.List.{nil_from_length}
use Rattle.binlog_file.specs.State.{state_of}
use Rattle.binlog_undo_log.proofs.Contents.{first_none, first_and, some_inside, all_inside, shorter}
use Rattle.binlog_undo_log.specs.Contents.{ScansNext}
use Rattle.binlog_undo_log.proofs.scan.UndoScan.scan_events.Goals as goal

pub events-init : goal.events-init
events-init c = ([], first_none c.args.span c.args.index (arc_value c.args.fde.now) c.args.content.now c.args.content.now (state_of c.new-reader.result) c.args.self.now refl c.new-reader.ensures)

pub events-preserved : goal.events-preserved
events-preserved c =
    let step =
    subst (λ (b : Bool). ScansNext b c.args.span c.args.index (arc_value c.args.fde.now) (state_of c.events.reader) (state_of c.scan_next.new.reader) c.events.left.now c.scan_next.new.left.now
    c.events.self c.scan_next.new.self) c.if-not-branch.false c.in_ok-scan_next.ensures.ok in (
      c.events.invariant.0 ++ step.1 ∷ [],
      first_and c.args.span c.args.index (arc_value c.args.fde.now) c.args.content.now c.events.left.now c.scan_next.new.left.now c.events.invariant.0 (state_of c.events.reader)
          (state_of c.scan_next.new.reader) c.args.self.now c.events.self c.scan_next.new.self c.events.invariant.1 step,
    )

pub events-smaller : goal.events-smaller
events-smaller c =
    shorter c.args.span c.args.index (arc_value c.args.fde.now) c.events.left.now c.scan_next.new.left.now (state_of c.events.reader) (state_of c.scan_next.new.reader) c.events.self
    c.scan_next.new.self
    (subst (λ (b : Bool). ScansNext b c.args.span c.args.index (arc_value c.args.fde.now) (state_of c.events.reader) (state_of c.scan_next.new.reader) c.events.left.now c.scan_next.new.left.now
    c.events.self c.scan_next.new.self) c.if-not-branch.false c.in_ok-scan_next.ensures.ok)

pub returns-then-not-branch-clause-ok : goal.returns-then-not-branch-clause-ok
returns-then-not-branch-clause-ok c =
    some_inside c.args.span c.args.index (arc_value c.args.fde.now) c.args.content.now c.events.left.now c.scan_next.new.left.now c.events.invariant.0 (state_of c.events.reader)
    (state_of c.scan_next.new.reader) c.args.self.now c.events.self c.scan_next.new.self c.events.invariant.1
    (subst (λ (b : Bool). ScansNext b c.args.span c.args.index (arc_value c.args.fde.now) (state_of c.events.reader) (state_of c.scan_next.new.reader) c.events.left.now c.scan_next.new.left.now
    c.events.self c.scan_next.new.self) c.if-not-branch.true c.in_ok-scan_next.ensures.ok)

pub returns-clause-ok : goal.returns-clause-ok
returns-clause-ok c = (
  c.events.invariant.0,
  all_inside c.args.span c.args.index (arc_value c.args.fde.now) c.args.content.now c.events.left.now c.events.invariant.0 (state_of c.events.reader) c.args.self.now c.events.self
      c.events.invariant.1 (nil_from_length c.events.left.now (eqb-true (length c.events.left.now) 0 (sym c.events-test.ensures))),
)
